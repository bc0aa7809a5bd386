-- Deletions, then additions: what the paper's `planned` decides after 10.
use Rattle.std.specs.Prelude.{ℕ, ◌<◌, ◌≤◌, ◌≡◌, List, length}
use Rattle.paper.specs.Answer.{Answer, ok, ◌>>=◌}
use Rattle.paper.specs.Forest.{Forest}
use Rattle.paper.specs.Field.{Field}
use Rattle.paper.specs.Bytes.{from}
use Rattle.paper.specs.Lists.{path_of, id_list}
use Rattle.record_entries.specs.declared.PathList.TheVariants.{Deletions}
use Rattle.paper.specs.Update.{deleted, Placed}
use Rattle.update_schema.specs.Answers.{Decided}
use Rattle.std.specs.Prelude.{Ok}
use Rattle.update_rebuild.specs.Answers.{Under}
use Rattle.update_dropped.specs.Gathered.{row_ids}
use Rattle.record.specs.Trees.{Trees, Lists}
use Rattle.plan.specs.Table.{fields_in}
use Rattle.index.specs.Index.{Index}
use Rattle.update_rebuild.specs.declared.Given.{Given}
use Rattle.update_rebuild.specs.Planned.{drops_in, unders_in, firsts_in, starts_in}
use Rattle.update_schema.specs.Base.{BasedIn, Entries}
use Rattle.update_schema.specs.Additions.{all_placed, PlacesBy, ColumnsIn}
use Rattle.plan.specs.declared.PlanRows.{PlanRows}
use Rattle.update_rebuild.specs.declared.Decisions.{Decisions}

unfoldable pub changes : Forest Field → (identifiers request deletions : List ℕ) (drops : ℕ) (added additions : List ℕ) (total m last : ℕ) → Answer Placed
changes t identifiers request deletions d added additions total m last = deleted t identifiers 0 (from (path_of request deletions) 0 d) >>= λ dropped. all_placed t dropped request added additions total m last

-- The additions as `PlacesBy` has them, behind the deletions; where all is accepted, the dropped ids are in their row.
pub record Decides (t : Forest Field) (identifiers request deletions : List ℕ) (d : ℕ) (added additions : List ℕ) (total m last : ℕ) (r : Decided) (bits : List ℕ) (unders : List Under) (firsts starts : List ℕ) : Type 0 where
  pub by : PlacesBy r (changes t identifiers request deletions d added additions total m last) request added total m last unders firsts starts
  pub dropped : (e : ℕ) → r ≡ Ok e → deleted t identifiers 0 (from (path_of request deletions) 0 d) ≡ ok (row_ids bits d)

-- All that was tested before anything is decided: the base as a plan of itself with its index, and the lists.
pub record Asked (l : Trees) (lists : Lists) (given : Given) (plan : PlanRows) (index : List (List ℕ)) : Type 0 where
  pub based : BasedIn l plan given.base
  pub indexed : Index l plan given.base index
  pub identifiers_few : length lists.identifiers ≤ 256
  pub deletions_there : Entries Deletions l.request_pool lists.deletions given.deletions
  pub columns : ColumnsIn l lists.additions given
  pub low : given.last < 4294967296

-- The same of the tables.
abbrev pub DecidesIn : Trees → Lists → Given → (plan : PlanRows) (r : Decided) (decisions : Decisions) → Type 0
DecidesIn l lists given plan r decisions =
    Decides (fields_in l plan given.base) (id_list lists.identifiers) l.request_pool lists.deletions
    given.deletions l.added_records lists.additions given.additions given.added given.last r
    (drops_in decisions) (unders_in decisions) (firsts_in decisions) (starts_in decisions)
