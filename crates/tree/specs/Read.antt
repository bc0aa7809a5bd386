-- What a reader of rows got, and whether it got it: for walks that come after refusal 5 was tested.
use Rattle.std.specs.Prelude.{ℕ, ◌+◌, ◌*◌, ◌≤◌, ◌<◌, ◌≡◌, Bool, true, false, List, length}
use Rattle.paper.specs.Answer.{Answer, ok, refused}
use Rattle.paper.specs.Bytes.{kids_at}
use Rattle.paper.specs.Layout.{Part, nothing, row}

abbrev pub got : Answer Part → Part
got (ok p) = p
got (refused n l k) = nothing k

abbrev pub fine : {A : Type 0} → Answer A → Bool
fine (ok a) = true
fine (refused n l k) = false

unfoldable pub part : (list : ℕ) → (ℕ → ℕ) → (n lv c k : ℕ) → Part
part list kids n lv c k = got (row list kids n lv c k)

unfoldable pub reads : (list : ℕ) → (ℕ → ℕ) → (n lv c k : ℕ) → Bool
reads list kids n lv c k = fine (row list kids n lv c k)

-- n records of which a row of c trees from slot k on was read, with lv levels left for it.
pub record Rowed (list : ℕ) (records : List ℕ) (n lv c k : ℕ) : Type 0 where
  pub whole : n * 24 ≤ length records
  pub small : n ≤ 1024
  pub within : k ≤ n
  pub read : reads list (kids_at records) n lv c k ≡ true

-- A record at slot k of n, whose inside was read, with lv levels left for it.
pub record Standing (list : ℕ) (records : List ℕ) (n lv k : ℕ) : Type 0 where
  pub whole : n * 24 ≤ length records
  pub small : n ≤ 1024
  pub there : k < n
  pub read : reads list (kids_at records) n lv (kids_at records k) (k + 1) ≡ true

abbrev pub itself : ℕ → ℕ
itself k = k
