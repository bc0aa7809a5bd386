-- 01, What is lent: what an update is given. What a host stores, and what a request lends beside it.
use Rattle.std.specs.Prelude.{ℕ, List}

-- Record bytes, name bytes, and the 32 bits of the last id.
pub record Stored : Type 0 where
  pub records : List ℕ
  pub pool : List ℕ
  pub last : ℕ

-- The lists of a request, the format version that it names (02, 6/13), and the lengths of the output buffers.
pub record Lent : Type 0 where
  pub identifiers : List ℕ
  pub version : ℕ
  pub deletions : List ℕ
  pub additions : List ℕ
  pub added_records : List ℕ
  pub edits : List ℕ
  pub request_pool : List ℕ
  pub room_records : ℕ
  pub room_names : ℕ
