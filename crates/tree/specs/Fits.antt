-- Names that are seen to fit their roles without a walk: what one loop over the records of a tree asks and tells, after 3, 4 and 5.
use Rattle.std.specs.Prelude.{ℕ, ◌+◌, ◌*◌, ◌<◌, ◌≤◌, ◌≡◌, ◌⊎◌, Bool, true, List, length}
use Rattle.std.proofs.Math.Option.{none}
use Rattle.paper.specs.declared.Role.{Role}
use Rattle.paper.specs.declared.Role.TheVariants.{Member}
use Rattle.paper.specs.Answer.{lowest}
use Rattle.paper.specs.Field.{first, after}
use Rattle.paper.specs.Sound.{fitting}
use Rattle.paper.specs.Bytes.{ok_bytes, in_pool, name_of, kind_at, kids_at}
use Rattle.tree.specs.Read.{part, reads}

-- n records that keep 3 and 4, each with its members before the end.
pub record Passed (pool records : List ℕ) (n : ℕ) : Type 0 where
  pub whole : n * 24 ≤ length records
  pub small : n ≤ 1024
  pub bytes : lowest (ok_bytes records) 0 n ≡ none
  pub bounds : lowest (in_pool (length pool) records) 0 n ≡ none
  pub members : (k : ℕ) → k < n → k + kids_at records k < n

-- A record that keeps 3, its members before the end and all names up to there in the pool.
pub record Seated (pool records : List ℕ) (k : ℕ) : Type 0 where
  pub room : (k + kids_at records k) * 24 + 24 ≤ length records
  pub bytes : ok_bytes records k ≡ true
  pub bounds : (j : ℕ) → j ≤ k + kids_at records k → in_pool (length pool) records j ≡ true

-- n records that keep 3, 4 and 5: c roots, to the end.
pub record Planted (list : ℕ) (pool records : List ℕ) (n c : ℕ) : Type 0 where
  pub whole : n * 24 ≤ length records
  pub small : n ≤ 1024
  pub bytes : lowest (ok_bytes records) 0 n ≡ none
  pub bounds : lowest (in_pool (length pool) records) 0 n ≡ none
  pub read : reads list (kids_at records) n 16 c 0 ≡ true
  pub all : (part list (kids_at records) n 16 c 0).next ≡ n

-- c siblings from slot k on, the first of a role, whose own names fit: all are members, or they are at most two, the first a leaf.
pub record Begins (pool records : List ℕ) (c k : ℕ) (role : Role) : Type 0 where
  pub own : 0 < c → fitting role (name_of pool records k) ≡ true
  pub next : 1 < c → (role ≡ Member) ⊎ ((c ≡ 2) × (kids_at records k ≡ 0) × (fitting (after role) (name_of pool records (k + 1)) ≡ true))

-- what is told of the names directly inside the record at slot k
pub record Fits (pool records : List ℕ) (k : ℕ) (told : Bool) : Type 0 where
  pub inside : told ≡ true → Begins pool records (kids_at records k) (k + 1) (first (kind_at records k))

-- the same of all n records
pub record AllFit (pool records : List ℕ) (n : ℕ) (told : Bool) : Type 0 where
  pub each : told ≡ true → (k : ℕ) → k < n → Begins pool records (kids_at records k) (k + 1) (first (kind_at records k))
