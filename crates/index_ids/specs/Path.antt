-- Ids on paths. The ten lowest bits of an id choose the head of its path; then each step asks the next bit, and goes by it to one of a
-- slot's two links: to a later slot, or to none. An id has 32 bits, so a path has at most 23 slots, whatever the ids.
use Rattle.std.specs.Prelude.{ℕ, zero, suc, ◌+◌, ◌/◌, ◌%◌, ◌<◌, ◌≤◌, ◌≡◌, List, get_or, set}
use Rattle.paper.specs.Bytes.{turned}
use Rattle.record.specs.Answers.{Check, FoundSlot}
use Rattle.std.specs.Prelude.{Ok, Some, None}
use Rattle.record.specs.Says.{slot_before}
use Rattle.index_ids.specs.declared.Way.{Way}
use Rattle.index_ids.specs.declared.Way.TheVariants.{Met, Ended}
use Rattle.index_ids.specs.Chain.{lowest_below}
use Rattle.index_ids.specs.Ids.{bucket_of, id_in, is_id, rule_7}
use Rattle.index_ids.specs.Table.{row, id_heads, id_next, Within}

-- The bits of an id behind its bucket that d steps have not asked, and the one that the next step asks.
unfoldable pub unasked : (d id : ℕ) → ℕ
unasked zero id = turned id / 1024
unasked (suc d) id = unasked d id / 2

abbrev pub bit : (d id : ℕ) → ℕ
bit d id = unasked d id % 2

-- Two ids go the same way for d steps.
pub record Together (d a b : ℕ) : Type 0 where
  pub bucket : bucket_of a ≡ bucket_of b
  pub bits : (e : ℕ) → e < d → bit e a ≡ bit e b

-- The place to which a link leads by a bit; from none to none.
unfoldable pub linked : (index : List (List ℕ)) (bit place : ℕ) → ℕ
linked index bit zero = 0
linked index bit (suc k) = get_or (id_next bit index) k 0

-- The place that is met after d steps on the way to an id; 0 where the path has ended.
unfoldable pub met : (index : List (List ℕ)) (id d : ℕ) → ℕ
met index id zero = get_or (id_heads index) (bucket_of id) 0
met index id (suc d) = linked index (bit d id) (met index id d)

-- w is the place of the first slot from `from` on, below k, that goes with an id for d steps; 0 where none does.
pub record First (ids : List ℕ) (id d from k w : ℕ) : Type 0 where
  pub none : w ≡ 0 → (i : ℕ) → from ≤ i → i < k → Together d id (id_in ids i) → ⊥
  pub after : (j : ℕ) → w ≡ suc j → from ≤ j
  pub below : (j : ℕ) → w ≡ suc j → j < k
  pub goes : (j : ℕ) → w ≡ suc j → Together d id (id_in ids j)
  pub first : (i : ℕ) → from ≤ i → suc i < w → Together d id (id_in ids i) → ⊥

-- The ids of the first m slots stand on their paths: each place is that of the first slot, behind the one before, that goes the same way.
pub record IdsChained (ids : List ℕ) (index : List (List ℕ)) (m : ℕ) : Type 0 where
  pub head : (id : ℕ) → First ids id 0 0 m (met index id 0)
  pub link : (id d : ℕ) → 0 < met index id d → First ids id (suc d) (met index id d) m (met index id (suc d))

-- The place that is met after d steps stands in the cell c of the row l.
pub record AtCell (index : List (List ℕ)) (id d l c : ℕ) : Type 0 where
  pub head : d ≡ 0 → (l ≡ 0) × (c ≡ bucket_of id)
  pub link : (e : ℕ) → d ≡ suc e → (l ≡ suc (bit e id)) × (met index id e ≡ suc c)

-- The path of an id ends there.
pub record EndsAt (index : List (List ℕ)) (id l c : ℕ) : Type 0 where
  pub steps : ℕ
  pub cell : AtCell index id steps l c
  pub free : get_or (row index l) c 0 ≡ 0
  pub low : l < 3
  pub small : c < 1024

-- The slot that a way comes to.
abbrev pub slot_met : Way → FoundSlot
slot_met (Met slot) = Some slot
slot_met (Ended l c) = None

-- The way to an id among k slots: it comes to the lowest slot that has the id; where none has it, to the end of its path.
pub record Followed (ids : List ℕ) (index : List (List ℕ)) (k id : ℕ) (way : Way) : Type 0 where
  pub found : slot_met way ≡ slot_before (lowest_below (is_id ids id) 0 k)
  pub ended : (l c : ℕ) → way ≡ Ended l c → EndsAt index id l c

-- A slot without links; and entered at the cell c of the row l.
abbrev pub unlinked : (index : List (List ℕ)) (k : ℕ) → List (List ℕ)
unlinked index k =
    let first = set index 1 (set (row index 1) k 0) in
    set first 2 (set (row first 2) k 0)

abbrev pub entered_at : (index : List (List ℕ)) (l c k : ℕ) → List (List ℕ)
entered_at index l c k = set (unlinked index k) l (set (row (unlinked index k) l) c (k + 1))

-- The answer to 7, and the index that is left where there is no fault.
pub record IndexedIn (ids : List ℕ) (m list : ℕ) (r : Check) (old new : List (List ℕ)) : Type 0 where
  pub answer : r ≡ rule_7 list ids m
  pub index : r ≡ (Ok tt) → IdsChained ids new m
  pub within : Within 0 3 old new
