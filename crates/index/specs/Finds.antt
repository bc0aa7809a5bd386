-- What a look-up in lent bytes finds.
use Rattle.std.specs.Prelude.{ℕ, ◌≡◌, List}
use Rattle.std.proofs.Math.Option.{some}
use Rattle.paper.specs.Answer.{ok}
use Rattle.paper.specs.Entries.{find_name, find_folded, find_id, find_parent}
use Rattle.paper.specs.Rows.{Row}

-- A row that a look-up in these bytes finds.
pub data FoundIn (records pool : List ℕ) (r : Row) : Type 0 where
  by_name : (name : List ℕ) → find_name records pool name ≡ ok (some r) → FoundIn records pool r
  by_folded : (name : List ℕ) → find_folded records pool name ≡ ok (some r) → FoundIn records pool r
  by_id : (id : ℕ) → find_id records pool id ≡ ok (some r) → FoundIn records pool r
  by_parent : (id : ℕ) → find_parent records pool id ≡ ok (some r) → FoundIn records pool r
