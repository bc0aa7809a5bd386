-- The trees of a row as far as there are levels and records, so that a walk over a plan needs no count of the roots: m roots are
-- enough. Where refusal 5 has been tested this is the row that is read.
use Rattle.std.specs.Prelude.{ℕ, zero, suc, true, false, ltb}
use Rattle.paper.specs.Forest.{Forest}
use Rattle.paper.specs.Layout.{Part, nothing, before}
use Rattle.plan.specs.Plan.{kids_in}
use Rattle.plan.specs.Table.{members}
use Rattle.plan.specs.declared.PlanRows.{PlanRows}

unfoldable pub walk_with : (ℕ → ℕ) → (n : ℕ) → (ℕ → ℕ → Part) → (c k : ℕ) → Part
walk_with kids n inner zero k = nothing k
walk_with kids n inner (suc c) k = elim (ltb k n) [ true ↦ (let a = inner (kids k) (suc k) in before k a (walk_with kids n inner c a.next)) | false ↦ nothing k ]

-- c trees from slot k on, of at most lv levels
unfoldable pub walk : (ℕ → ℕ) → (n lv c k : ℕ) → Part
walk kids n zero c k = nothing k
walk kids n (suc lv) c k = walk_with kids n (walk kids n lv) c k

-- all n records, in trees of at most 16 levels
abbrev pub trees_of : (ℕ → ℕ) → ℕ → Forest ℕ
trees_of kids n = (walk kids n 16 n 0).trees

-- The trees of a row, as far as there are levels and records.
abbrev pub walk_in : (plan : PlanRows) (m levels count slot : ℕ) → Part
walk_in plan m = walk (kids_in (members plan)) m
