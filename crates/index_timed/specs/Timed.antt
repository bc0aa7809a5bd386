-- Searches that are timed: how many of them find a slot, modulo 2^32.
use Rattle.std.specs.Prelude.{ℕ, zero, suc, ◌+◌, ◌/◌, ◌%◌, Bool, true, false, List, length, replicate}
use Rattle.std.proofs.lemmas.List.Edits.{sets}
use Rattle.paper.specs.Bytes.{from}
use Rattle.paper.specs.Limits.{whole}
use Rattle.paper.specs.Lists.{id_at}
use Rattle.record.specs.Answers.{FoundSlot, Check}
use Rattle.std.specs.Prelude.{Ok, Err, Some, None}
use Rattle.record.specs.Says.{slot_before}
use Rattle.plan.specs.Sources.{id_bits}
use Rattle.index_ids.specs.Chain.{lowest_below}
use Rattle.index_ids.specs.Ids.{is_id, rule_7}

-- The count behind one search.
abbrev pub counts : FoundSlot → ℕ → ℕ
counts None c = c
counts (Some s) c = (c + 1) % 4294967296

-- The slot that the search for the i-th id finds among m slots.
abbrev pub sought : (is : List ℕ) (m : ℕ) (ids : List ℕ) (i : ℕ) → FoundSlot
sought is m ids i = slot_before (lowest_below (is_id is (id_at ids i)) 0 m)

-- The count behind the searches for the first n ids.
unfoldable pub each_round : (is : List ℕ) (m : ℕ) (ids : List ℕ) (c n : ℕ) → ℕ
each_round is m ids c zero = c
each_round is m ids c (suc n) = counts (sought is m ids n) (each_round is m ids c n)

-- The count behind so many rounds.
unfoldable pub all_rounds : (is : List ℕ) (m : ℕ) (ids : List ℕ) (rounds : ℕ) → ℕ
all_rounds is m ids zero = 0
all_rounds is m ids (suc k) = each_round is m ids (all_rounds is m ids k) (length ids / 4)

-- The ids of the records as a row of a plan.
abbrev pub id_row : (records : List ℕ) → List ℕ
id_row records = sets (replicate 1024 0) 0 (from (id_bits records) 0 (length records / 24))

abbrev pub where_fine : Check → ℕ → ℕ
where_fine (Ok tt) n = n
where_fine (Err r) n = 0

abbrev pub where_whole : Bool → ℕ → ℕ
where_whole true n = n
where_whole false n = 0

-- 0 where the bytes are not at most 1,024 whole records, and where two ids are equal.
unfoldable pub timed : (records ids : List ℕ) (rounds : ℕ) → ℕ
timed records ids rounds =
    where_whole (whole 24 1024 records)
    (where_fine (rule_7 0 (id_row records) (length records / 24))
    (all_rounds (id_row records) (length records / 24) ids rounds))
