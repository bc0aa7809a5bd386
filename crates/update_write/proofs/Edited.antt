-- The rebuild with its marks. Without edits there are none, and nothing is marked.
use Prim.Native.Nat.{ℕ, ◌≤◌}
use mathlib.Core.Path.{◌≡◌, refl, sym, ◌∙◌}
use mathlib.Core.Bool.{Bool, true, false}
use mathlib.Core.List.{List}
use native.Mathlib.Omega.{arith}
use borrow.Author.Tests.{ltb-true}
use lib.Dec.{ltb}
use lib.ListN.{replicate, get_or-replicate}
use Rattle.paper.specs.Forest.{Forest, empty, node, mapped}
use Rattle.laws.proofs.Preorder.{size_mapped, siblings_mapped, levels_mapped}
use Rattle.plan.specs.Plan.{Source}
use Rattle.plan.specs.Table.{Roomy}
use Rattle.update_edits.specs.Marks.{as_marked, remarked, remark, Unmarked, RemarkedIn}
use Rattle.update_edits.proofs.Marked.{remarked_laid}
use Rattle.update_rebuild.specs.declared.Place.{Place}
use Rattle.update_rebuild.specs.Answers.{Step}
use Rattle.std.specs.Prelude.{Some, None}
use Rattle.update_rebuild.specs.Planned.{fits, verdict, Rebuilds}
use Rattle.update_rebuild.proofs.Whole.{of_fits}
use Rattle.update_write.proofs.Verdict.{verdict_went, verdict_full}
use Rattle.plan.specs.declared.PlanRows.{PlanRows}

-- no mark, no other source
bare : (x : ℕ) → remarked (replicate 1024 0) x ≡ x
unfolding remarked as_marked
bare x = go (ltb x 1024) refl
  where
    go : (b : Bool) → ltb x 1024 ≡ b → remarked (replicate 1024 0) x ≡ x
    go true e = rw (e, get_or-replicate {A = ℕ} 1024 x 0 0 (ltb-true x 1024 e))
    go false e = rw e

bare_tree : (t : Forest Source) → mapped (remark (replicate 1024 0)) t ≡ t
unfolding mapped
bare_tree empty = refl
bare_tree (node a m n) = rw (bare a.slot, bare_tree m, bare_tree n)

-- marks change neither the shape nor the size
fits_mapped : (g : Source → Source) (t : Forest Source) → fits (mapped g t) ≡ fits t
unfolding fits
fits_mapped g t = rw (size_mapped g t, levels_mapped g t)

verdict_mapped : (g : Source → Source) (n k : ℕ) (t : Forest Source) → verdict n k (mapped g t) ≡ verdict n k t
unfolding verdict
verdict_mapped g n k t = rw (fits_mapped g t, size_mapped g t, siblings_mapped g t)

pub mark_asks : (t : Forest Source) (k n : ℕ) (plan plan' : PlanRows) (r : Step) → Rebuilds t k n plan r plan' → (w : Place) → r ≡ Some w → w.at ≤ 1024
mark_asks t k n plan plan' r v w d =
    let z = verdict_went n k t r w v.answer d in
    let f = (of_fits t z.0).1 in
    let e = z.1 in
    omega arith

module _ (t : Forest Source) (k n : ℕ) (marks : List ℕ) (plan plan' : PlanRows) (r : Step) (v : Rebuilds t k n plan r plan') where
  pub full_edited : r ≡ None → Rebuilds (mapped (remark marks) t) k n plan None plan'
  full_edited d =
      record {
        answer = sym d ∙ v.answer ∙ sym (verdict_mapped (remark marks) n k t);
        laid = λ e. let f = verdict_full n k t r v.answer d in absurd (let z : true ≡ false = sym e ∙ fits_mapped (remark marks) t ∙ f in let y : ◌≡◌ {A = ℕ} 0 1 = cc in omega arith);
      }

  module _ (w : Place) (d : r ≡ Some w) where
    pub unmarked_edited : (edits : ℕ) → edits ≡ 0 → (edits ≡ 0 → Unmarked marks) → Rebuilds (mapped (remark marks) t) k n plan (Some w) plan'
    unmarked_edited edits e u = rw (u e, bare_tree t, ← d) v

    pub marked_edited : (plan'' : PlanRows) → Roomy plan → RemarkedIn marks w.at plan' plan'' → Rebuilds (mapped (remark marks) t) k n plan (Some w) plan''
    marked_edited plan'' room m =
        let z = verdict_went n k t r w v.answer d in
        record {
          answer = sym d ∙ v.answer ∙ sym (verdict_mapped (remark marks) n k t);
          laid = λ e. remarked_laid marks t w.at plan plan' plan'' z.1 (let f = mark_asks t k n plan plan' r v w d in let s = room.sources_room in omega arith) (v.laid z.0) m;
        }
