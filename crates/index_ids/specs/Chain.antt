-- Slots in chains, one chain for each bucket, each from the largest slot down. A place is one more than a slot, or 0 for none.
use Rattle.std.specs.Prelude.{ℕ, zero, suc, ◌+◌, ◌<◌, ◌≡◌, Bool, true, false, List, eqb, length, get_or, set}
use Rattle.std.specs.Prelude.{Some, None}
use Rattle.std.proofs.Math.Option.{Option, none, some}
use Rattle.record.specs.declared.Slot.{Slot}
use Rattle.record.specs.Answers.{FoundSlot}

-- The place of the largest slot below k that falls in the bucket b.
unfoldable pub last : (ℕ → ℕ) → ℕ → ℕ → ℕ
last bucket b zero = 0
last bucket b (suc k) = elim (eqb (bucket k) b) [ true ↦ suc k | false ↦ last bucket b k ]

abbrev pub pick : Bool → ℕ → ℕ → ℕ
pick true a b = a
pick false a b = b

-- The place of the lowest slot below k that passes the test, or `best`.
unfoldable pub lowest_below : (ℕ → Bool) → ℕ → ℕ → ℕ
lowest_below p best zero = best
lowest_below p best (suc k) = lowest_below p (pick (p k) (suc k) best) k

-- Whether no slot below k is the same as k.
abbrev pub new_at : (ℕ → ℕ → Bool) → ℕ → Bool
new_at same k = eqb (lowest_below (same k) 0 k) 0

-- The slot that was found.
abbrev pub held : FoundSlot → Option ℕ
held None = none
held (Some s) = some s.0

-- A slot that was found is one of an array's.
pub record Below (w : FoundSlot) : Type 0 where
  pub small : (s : Slot) → w ≡ Some s → s.0 < 1024

-- The slots below k stand in their chains.
pub record Chained (bucket : ℕ → ℕ) (heads next : List ℕ) (k : ℕ) : Type 0 where
  pub heads_room : length heads ≡ 1024
  pub next_room : length next ≡ 1024
  pub head : (b : ℕ) → b < 1024 → get_or heads b 0 ≡ last bucket b k
  pub link : (j : ℕ) → j < k → get_or next j 0 ≡ last bucket (bucket j) j

-- Heads of empty chains.
pub record Cleared (heads : List ℕ) : Type 0 where
  pub room : length heads ≡ 1024
  pub none : (b : ℕ) → b < 1024 → get_or heads b 0 ≡ 0

-- What entering the slot k in the bucket b leaves.
pub record Entered (heads next : List ℕ) (b k : ℕ) (heads' next' : List ℕ) : Type 0 where
  pub heads_set : heads' ≡ set heads b (k + 1)
  pub next_set : next' ≡ set next k (get_or heads b 0)
