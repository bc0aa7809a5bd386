-- Many ids looked up: what is told, and which bytes are left.
use Rattle.std.specs.Prelude.{ℕ, ◌≤◌, ◌≡◌, List, map, length}
use Rattle.std.proofs.Math.Option.{Option}
use Rattle.paper.specs.Answer.{Answer, ok, refused}
use Rattle.paper.specs.Lists.{id_list}
use Rattle.paper.specs.Outcome.{how_many, out_slots, leaves}
use Rattle.paper.specs.Rows.{Row, look_id}
use Rattle.record.specs.Answers.{FoundSlot}
use Rattle.std.specs.Prelude.{Ok, Err, Some, None}
use Rattle.record.specs.Says.{refusal_of}
use Rattle.record.specs.Trees.{Trees}
use Rattle.plan.specs.Table.{numbers, PlanIn, fields_in}
use Rattle.index_ids.specs.Path.{IdsChained}
use Rattle.index_many.specs.Answers.{Searched}
use Rattle.plan.specs.declared.PlanRows.{PlanRows}

unfoldable pub searches : Answer (List (Option Row)) → Searched
searches (ok rows) = Ok (how_many rows)
searches (refused n l p) = Err (refusal_of n l p)

-- A found slot as the number that is written, and what it adds to the count.
abbrev pub slot_word : FoundSlot → ℕ
slot_word None = 4294967295
slot_word (Some s) = s.0

abbrev pub met_one : FoundSlot → ℕ
met_one None = 0
met_one (Some s) = 1

-- The ids are indexed, 2 was tested, and there is room.
pub record Searchable (plan : PlanRows) (m : ℕ) (index : List (List ℕ)) (ids out : List ℕ) : Type 0 where
  pub few : m ≤ 1024
  pub chained : IdsChained (numbers plan) index m
  pub asked : length ids ≤ 4096
  pub room : length ids ≤ length out

-- The rows of the ids, in the order asked.
abbrev pub rows_of : Trees → (plan : PlanRows) (m : ℕ) (ids : List ℕ) → List (Option Row)
rows_of l plan m ids = map (look_id (fields_in l plan m)) (id_list ids)

-- The look-up of each id: whatever the plan draws on.
pub record ByIds (plan : PlanRows) (m : ℕ) (ids : List ℕ) (r : ℕ) (out out' : List ℕ) : Type 0 where
  pub counts : (l : Trees) → PlanIn l plan m → r ≡ how_many (rows_of l plan m ids)
  pub bytes : (l : Trees) → PlanIn l plan m → out' ≡ leaves out_slots (ok (rows_of l plan m ids)) out
