-- What the steps of pruning find, in their order.
use Rattle.std.specs.Prelude.{ℕ, ◌<◌, ◌≡◌, Bool, List, get_or}
use Rattle.paper.specs.declared.Role.TheVariants.{Member}
use Rattle.paper.specs.Answer.{Answer, ◌>>◌, among}
use Rattle.paper.specs.Refusals.{roomy, limited}
use Rattle.paper.specs.Forest.{Forest}
use Rattle.paper.specs.Field.{Field}
use Rattle.paper.specs.Bytes.{turned, rec_at, kind_at, slots}
use Rattle.paper.specs.Lists.{id_list}
use Rattle.paper.specs.Decode.{decode}
use Rattle.paper.specs.Limits.{room, sized_ids}
use Rattle.record.specs.Answers.{Check}
use Rattle.record.specs.Says.{tested}
use Rattle.tree_walk.specs.There.{row_of, There}
use Rattle.plan.specs.Table.{numbers}
use Rattle.index_ids.specs.Path.{IdsChained}
use Rattle.prune_columns.specs.Split.{first_direct}
use Rattle.prune_columns.specs.Projected.{marked}
use Rattle.prune_marks.specs.Marks.{DistinctIds}
use Rattle.plan.specs.declared.PlanRows.{PlanRows}

-- open: the part of the entry up to 6.
unfoldable pub opened : (records pool selected : List ℕ) (room_records room_names : ℕ) → Answer (Forest Field)
opened records pool selected room_records room_names = do
  roomy (room room_records room_names)
  limited (sized_ids 1024 records pool selected)
  decode 0 records pool

-- test: the roots stand there, and the base's own ids stand in its plan, all distinct, with their index.
pub record Tested (records : List ℕ) (count : ℕ) (plan : PlanRows) (index : List (List ℕ)) : Type 0 where
  pub there : There records 16 count 0
  pub own_ids : (k : ℕ) → k < slots records → get_or (numbers plan) k 0 ≡ (rec_at records k).id
  pub distinct : DistinctIds (numbers plan) (slots records)
  pub chained : IdsChained (numbers plan) index (slots records)

-- decide: a slot is marked where its id is chosen, and the answer is refusal 20 by the marks, if any.
pub record Decides (records selected : List ℕ) (full : Bool) (count : ℕ) (r : Check) (marks : List ℕ) : Type 0 where
  pub chosen : (k : ℕ) → k < slots records → marked marks k ≡ among (turned (rec_at records k).id) (id_list selected)
  pub answer : r ≡ tested 20 0 (first_direct (marked marks) (kind_at records) full Member 0 (row_of records 16 count 0).trees)
