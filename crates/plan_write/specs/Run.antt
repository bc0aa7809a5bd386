-- Names of planned records that stand one behind the other in the base's pool: they are written together.
use Rattle.std.specs.Prelude.{ℕ, ◌-◌, ◌<◌, ◌≤◌, ◌≡◌, Bool, false, cond, List, ◌++◌, eqb, ltb, length, get_or, take, drop}
use Rattle.paper.specs.Field.{Field}
use Rattle.paper.specs.Bytes.{rec_at, from}
use Rattle.paper.specs.Encode.{encode_names}
use Rattle.record.specs.Trees.{Trees}
use Rattle.plan.specs.Plan.{source_in, planned_field}
use Rattle.plan.specs.Table.{sources, numbers, PlanIn}
use Rattle.plan.specs.declared.PlanRows.{PlanRows}

-- A base record's name stands in the pool from `end` on.
unfoldable pub joined : (records : List ℕ) (x end : ℕ) → Bool
joined records x end = cond (ltb x 1024) (eqb (rec_at records x).name_at end) false

-- The name of place i, a base record's, stands in the pool from `start` on.
pub record Starts (l : Trees) (plan : PlanRows) (m i start : ℕ) : Type 0 where
  pub reads : PlanIn l plan m
  pub within : i < m
  pub base : get_or (sources plan) i 0 < 1024
  pub small : start < 4294967296
  pub there : start ≡ (rec_at l.records (get_or (sources plan) i 0)).name_at

abbrev pub field_of : Trees → (plan : PlanRows) → ℕ → Field
field_of l plan = λ k. planned_field l (source_in (sources plan) (numbers plan) k)

-- The names from place i on, one behind the other.
abbrev pub names_left : Trees → (plan : PlanRows) (m i : ℕ) → List ℕ
names_left l plan m i = encode_names (from (field_of l plan) i (m - i))

-- Those up to place `next` are the pool's bytes from `start` to `end`.
pub record Ran (l : Trees) (plan : PlanRows) (m i start end next : ℕ) : Type 0 where
  pub more : i < next
  pub within : next ≤ m
  pub ordered : start ≤ end
  pub inside : end ≤ length l.pool
  pub bytes : names_left l plan m i ≡ take (end - start) (drop start l.pool) ++ names_left l plan m next
