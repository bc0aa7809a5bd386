-- The edits of a request: what was tested before, what the paper decides, and the marks that they leave.
use Rattle.std.specs.Prelude.{ℕ, ◌≤◌, ◌≡◌, List, []}
use Rattle.paper.specs.Answer.{Answer, ok, refused}
use Rattle.paper.specs.Bytes.{from}
use Rattle.paper.specs.Lists.{edit_of}
use Rattle.paper.specs.Edits.{Edited, edited_all}
use Rattle.record.specs.Answers.{Check}
use Rattle.std.specs.Prelude.{Ok, Err}
use Rattle.record.specs.Trees.{Trees}
use Rattle.record_entries.specs.declared.PathList.TheVariants.{Edits}
use Rattle.plan.specs.Table.{fields_in}
use Rattle.index.specs.Index.{Index}
use Rattle.update_dropped.specs.Gathered.{row_ids}
use Rattle.update_edits.specs.Marks.{Unmarked, Carries}
use Rattle.update_rebuild.specs.declared.Given.{Given}
use Rattle.update_rebuild.specs.Planned.{drops_in}
use Rattle.update_schema.specs.Base.{BasedIn, Entries}
use Rattle.plan.specs.declared.PlanRows.{PlanRows}
use Rattle.update_rebuild.specs.declared.Decisions.{Decisions}

-- The base as a plan of itself with its index, the list of edits, and no mark yet.
pub record Editable (l : Trees) (given : Given) (plan : PlanRows) (index : List (List ℕ)) (marks : List ℕ) : Type 0 where
  pub based : BasedIn l plan given.base
  pub indexed : Index l plan given.base index
  pub edits_there : Entries Edits l.request_pool l.edits given.edits
  pub few_drops : given.deletions ≤ 64
  pub unmarked : Unmarked marks

-- What the paper decides of all edits.
abbrev pub all_edited : Trees → Given → (plan : PlanRows) (dropped : List ℕ) → Answer (List Edited)
all_edited l given plan dropped =
    edited_all (fields_in l plan given.base) dropped 0 [] (from (edit_of given.version l.request_pool l.edits) 0 given.edits)

-- They are accepted, and the marks carry them.
pub record EditsLeft (l : Trees) (n : ℕ) (marks : List ℕ) (a : Answer (List Edited)) : Type 0 where
  pub edits : List Edited
  pub is : a ≡ ok edits
  pub carries : Carries l n marks edits

abbrev pub EditsBy : Check → Answer (List Edited) → Trees → (n : ℕ) (marks : List ℕ) → Type 0
EditsBy (Ok tt) a l n marks = EditsLeft l n marks a
EditsBy (Err r) a l n marks = a ≡ refused r.number r.list r.place

-- The same behind the deletions, whose ids are in their row. Without edits there is no mark.
pub record EditsIn (l : Trees) (given : Given) (plan : PlanRows) (decisions : Decisions) (r : Check) (marks : List ℕ) : Type 0 where
  pub by : EditsBy r (all_edited l given plan (row_ids (drops_in decisions) given.deletions)) l given.base marks
  pub unmarked : given.edits ≡ 0 → Unmarked marks
