-- What is kept is a plan, since it is a part of a tree within the limits, and its fields are those that are kept. `search keeping`.
use mathlib.Core.Path.{◌≡◌, refl, sym, ◌∙◌}
use mathlib.Core.Bool.{Bool}
use mathlib.Core.List.{List}
use Prim.Native.Nat.{ℕ, ◌≤◌, ◌<◌}
use native.Mathlib.Nat.{zero-add}
use native.Mathlib.Omega.{arith}
use Rattle.paper.specs.declared.Role.TheVariants.{Member}
use Rattle.paper.specs.Forest.{Forest, empty, node, size, levels, mapped}
use Rattle.paper.specs.Bytes.{field_at, kind_at, kids_at, slots}
use Rattle.paper.specs.Decode.{fields}
use Rattle.laws.proofs.Fitting.{size_mapped, levels_mapped}
use Rattle.laws.proofs.Preorder.{mapped_mapped}
use Rattle.record.specs.Trees.{Trees, alone}
use Rattle.plan.specs.Plan.{planned_field, Sits}
use Rattle.plan.specs.Draft.{Drawn}
use Rattle.plan.specs.Sources.{own_source}
use Rattle.plan.specs.Table.{Roomy, PlanIn, fields_in}
use Rattle.plan.proofs.Laying.{laid_fields, laid_draft, draft_plan}
use Rattle.plan.proofs.Taking.{base_sits, own_field}
use Rattle.tree_walk.specs.There.{row_of}
use Rattle.tree_walk.proofs.Opening.{Opened}
use Rattle.prune_columns.specs.declared.Step.{Step}
use Rattle.prune_columns.specs.Split.{projected}
use Rattle.prune_columns.specs.Projected.{marked, Kept}
use Rattle.prune.proofs.Parts.{Below, laid_below, Within, projected_within}
use Rattle.plan.specs.declared.PlanRows.{PlanRows}

mapped_below : {B : Type 0} (f g : ℕ → B) (n : ℕ) (t : Forest ℕ) → Below n t → ((j : ℕ) → j < n → f j ≡ g j) → mapped f t ≡ mapped g t
unfolding mapped
mapped_below f g n empty b h = refl
mapped_below f g n (node k m u) b h = rw (h k b.0, mapped_below f g n m b.1 h, mapped_below f g n u b.2 h)

drawn_below : (l : Trees) (s : List ℕ) (n : ℕ) (t : Forest ℕ) → Below n t → ((j : ℕ) → j < n → Sits l j) → Drawn l (mapped (own_source s) t)
unfolding mapped
drawn_below l s n empty b h = tt
drawn_below l s n (node k m u) b h = (h k b.0, drawn_below l s n m b.1 h, drawn_below l s n u b.2 h)

-- The trees that are kept, by the marks.
abbrev pub kept_trees : (s marks : List ℕ) → Bool → ℕ → Forest ℕ
kept_trees s marks full c = projected (marked marks) (kind_at s) full Member (row_of s 16 c 0).trees

-- What was planned is a plan of them.
pub record Keeps (s p marks : List ℕ) (full : Bool) (c : ℕ) (plan : PlanRows) (m : ℕ) : Type 0 where
  pub planned : PlanIn (alone s p) plan m
  pub tree : fields_in (alone s p) plan m ≡ fields p s (kept_trees s marks full c)

pub keeps : (s p marks : List ℕ) (full : Bool) (c : ℕ) (plan plan' : PlanRows) (a : Step) → Opened s p c → Roomy plan → Kept s marks full Member 16 c 0 plan 0 a plan' → Keeps s p marks full c plan' a.at
unfolding fields
keeps s p marks full c plan plan' a o room k =
    let l = alone s p in
    let base = (row_of s 16 c 0).trees in
    let t = kept_trees s marks full c in
    let v = mapped (own_source s) t in
    let w : Within (field_at p s) (slots s) t base = projected_within (field_at p s) (slots s) (marked marks) (kind_at s) full Member base in
    let below = w.slots (laid_below (kids_at s) (slots s) 0 base o.laid) in
    let few = o.there.few in
    let past = o.past in
    let next = k.next in
    let fits = k.room in
    let small : a.at ≤ 1024 = omega arith in
    let sized : a.at ≡ size v = k.at ∙ zero-add (size t) ∙ sym (size_mapped (own_source s) t) in
    let deep : levels v ≤ 16 = let e = levels_mapped (own_source s) t in let d = w.depth in let h = o.depth in omega arith in
    let tree : fields_in l plan' a.at ≡ fields p s t = laid_fields v plan plan' a.at room k.laid sized small deep l
    ∙ mapped_mapped (own_source s) (planned_field l) t
    ∙ mapped_below (λ j. planned_field l (own_source s j)) (field_at p s) (slots s) t below (λ j b. own_field l j (omega arith)) in
    record {
      planned = draft_plan l plan' a.at
          (laid_draft v plan plan' a.at room k.laid sized small deep l (drawn_below l s (slots s) t below (base_sits 0 l (fields p s base) o.tree few)))
          (rw tree (let n = w.names in let h = o.names in omega arith));
      tree = tree;
    }
