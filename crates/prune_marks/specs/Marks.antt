-- Which slots are chosen, by marks.
use Rattle.std.specs.Prelude.{ℕ, ◌<◌, ◌≡◌, List, [], eqb, length, get_or, set}
use Rattle.std.proofs.Math.Option.{none}
use Rattle.paper.specs.Answer.{among, repeated}
use Rattle.paper.specs.Lists.{id_list}
use Rattle.record.specs.Answers.{FoundSlot}
use Rattle.std.specs.Prelude.{Some, None}
use Rattle.index_ids.specs.Ids.{id_in, ids_in}
use Rattle.prune_columns.specs.Projected.{marked}

-- A slot that was found is marked.
abbrev pub mark_at : FoundSlot → List ℕ → List ℕ
mark_at None l = l
mark_at (Some s) l = set l s.0 1

-- No slot is marked yet.
pub record Unmarked (marks : List ℕ) : Type 0 where
  pub room : length marks ≡ 1024
  pub none_marked : (k : ℕ) → k < 1024 → get_or marks k 0 ≡ 0

-- Refusal 7 was tested.
pub record DistinctIds (ids : List ℕ) (m : ℕ) : Type 0 where
  pub tested : repeated eqb [] 0 (ids_in ids m) ≡ none

-- A slot is marked exactly where its id is chosen.
pub record Marks (selected ids : List ℕ) (m : ℕ) (marks : List ℕ) : Type 0 where
  pub exactly : (k : ℕ) → k < m → marked marks k ≡ among (id_in ids k) (id_list selected)
