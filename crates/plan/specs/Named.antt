-- Names and kinds of planned records: those of their sources.
use Rattle.std.specs.Prelude.{ℕ, ◌<◌, ◌≤◌, List, get_or}
use Rattle.paper.specs.declared.Kind.{Kind}
use Rattle.record.specs.Trees.{Trees}
use Rattle.plan.specs.Plan.{source_field, Sits}
use Rattle.plan.specs.Table.{sources}
use Rattle.plan.specs.declared.PlanRows.{PlanRows}

-- The name of the planned record at a place, and its kind.
unfoldable pub name_in : Trees → List ℕ → ℕ → List ℕ
name_in l xs k = (source_field l (get_or xs k 0)).name

unfoldable pub kind_in : Trees → List ℕ → ℕ → Kind
kind_in l xs k = (source_field l (get_or xs k 0)).kind

-- m planned records whose sources are there.
pub record Sources (l : Trees) (xs : List ℕ) (m : ℕ) : Type 0 where
  pub few : m ≤ 1024
  pub sits : (k : ℕ) → k < m → Sits l (get_or xs k 0)

-- The same, said of a plan's table.
abbrev pub names_in : Trees → (plan : PlanRows) → ℕ → List ℕ
names_in l plan = name_in l (sources plan)

abbrev pub kinds_in : Trees → (plan : PlanRows) → ℕ → Kind
kinds_in l plan = kind_in l (sources plan)

abbrev pub SourcesIn : Trees → (plan : PlanRows) (m : ℕ) → Type 0
SourcesIn l plan m = Sources l (sources plan) m
