-- 02, 7/13: how many records an accepted update visits. Of `update` over forests that is `visited`, of `update_entry`
-- over bytes the number that it answers. What needs the plan is said of a number, and so by `OfStored` of either.
use Rattle.std.specs.Prelude.{ℕ, ◌+◌, ◌≤◌, ◌≡◌, Bool, true, List, length}
use Rattle.paper.specs.Answer.{refused}
use Rattle.paper.specs.Forest.{size}
use Rattle.paper.specs.Field.{id_of, kind_of}
use Rattle.paper.specs.Gone.{outermost}
use Rattle.paper.specs.Update.{Request, Schema, Plan}
use Rattle.paper.specs.Visited.{reached}
use Rattle.paper.specs.Bytes.{slots}
use Rattle.paper.specs.Lists.{entries}
use Rattle.paper.specs.Lent.{Stored, Lent}
use Rattle.paper.specs.Entries.{Result, prune_entry, renumber_entry}
use Rattle.paper.specs.Outcome.{changed}

-- The records of the answer, and the dropped members that stand beneath no other dropped member.
abbrev pub AnswerAndDropped : (visited : ℕ) → Schema → Request → Plan → (updated : Schema) → Type 0
AnswerAndDropped visited schema request plan updated =
    visited ≡ size updated.tree + length (outermost id_of kind_of plan.dropped true schema.tree)

-- The base records with no dropped member above them, and every added record.
abbrev pub ReachedAndAdded : (visited : ℕ) → Schema → Request → Plan → (updated : Schema) → Type 0
ReachedAndAdded visited schema request plan updated =
    visited ≡ length (reached id_of kind_of plan.dropped true schema.tree) + size request.added

-- Over bytes: at most the records that are stored and those that are added, so at most 2,048; and at most the records of
-- the answer and one for each deletion. By the limits on both, 1,024 (19) and 64 (2), that is at most 1,088.
pub record FewVisited (stored : Stored) (lent : Lent) (result : Result) : Type 0 where
  pub stored_and_added : result.visited ≤ slots stored.records + slots lent.added_records
  pub at_most : result.visited ≤ 2048
  pub answer_and_deletions : result.visited ≤ size result.tree + entries 8 lent.deletions
  pub within_limits : result.visited ≤ 1088

-- A refusal tells 0, and so do a pruning and a renumbering, accepted or not.
pub record NoneVisited : Type 0 where
  pub by_refusing : (number list place : ℕ) → (changed (refused number list place)).visited ≡ 0
  pub by_pruning : (records pool selected : List ℕ) (full : Bool) (room_records room_names : ℕ)
      → (changed (prune_entry records pool selected full room_records room_names)).visited ≡ 0
  pub by_renumbering : (records pool identifiers : List ℕ) (start room_records room_names room_ids : ℕ)
      → (changed (renumber_entry records pool identifiers start room_records room_names room_ids)).visited ≡ 0
