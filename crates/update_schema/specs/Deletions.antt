-- The deletions: what the paper answers, and the ids that stand in the row.
use Rattle.std.specs.Prelude.{ℕ, ◌≡◌, List}
use Rattle.paper.specs.Answer.{Answer, ok, refused}
use Rattle.paper.specs.Forest.{Forest}
use Rattle.paper.specs.Field.{Field}
use Rattle.paper.specs.Bytes.{from}
use Rattle.paper.specs.Lists.{path_of, id_list}
use Rattle.paper.specs.Update.{deleted}
use Rattle.record.specs.Answers.{Check}
use Rattle.std.specs.Prelude.{Ok, Err}
use Rattle.record.specs.Trees.{Trees, Lists}
use Rattle.plan.specs.Table.{fields_in}
use Rattle.update_dropped.specs.Gathered.{row_ids}
use Rattle.update_rebuild.specs.declared.Given.{Given}
use Rattle.update_rebuild.specs.Planned.{drops_in, DecisionsRoom}
use Rattle.plan.specs.declared.PlanRows.{PlanRows}
use Rattle.update_rebuild.specs.declared.Decisions.{Decisions}

-- What the paper's deletions answer: the ids in the row, or the refusal.
abbrev pub DropsBy : Check → Answer (List ℕ) → List ℕ → ℕ → Type 0
DropsBy (Ok tt) a bits total = a ≡ ok (row_ids bits total)
DropsBy (Err r) a bits total = a ≡ refused r.number r.list r.place

pub record DropsAll (t : Forest Field) (identifiers request deletions : List ℕ) (total : ℕ) (r : Check) (bits : List ℕ) : Type 0 where
  pub by : DropsBy r (deleted t identifiers 0 (from (path_of request deletions) 0 total)) bits total

-- The same of the tables, which keep their room.
pub record DropsIn (l : Trees) (lists : Lists) (given : Given) (plan : PlanRows) (r : Check) (decisions : Decisions) : Type 0 where
  pub drops : DropsAll (fields_in l plan given.base) (id_list lists.identifiers) l.request_pool lists.deletions
      given.deletions r (drops_in decisions)
  pub room : DecisionsRoom decisions
