-- The whole base, and its verdict: records above 1,024 or levels above 16 are what `None` says.
use mathlib.Core.Path.{◌≡◌, refl}
use mathlib.Core.Bool.{Bool, true, false, cond}
use mathlib.Core.List.{List}
use Prim.Native.Nat.{ℕ, ◌+◌, ◌≤◌}
use native.Mathlib.Omega.{arith}
use borrow.Author.Tests.{leb-true, le-leb}
use lib.Dec.{leb}
use Rattle.paper.specs.Answer.{Answer, ok, refused}
use Rattle.paper.specs.Forest.{Forest, size, siblings, levels}
use Rattle.paper.specs.Bytes.{kids_at}
use Rattle.paper.specs.Layout.{Part, roots}
use Rattle.paper.specs.Rebuild.{Addition}
use Rattle.laws.proofs.RoundTrip.{both}
use Rattle.tree.specs.Read.{part, got}
use Rattle.tree.specs.Says.{rooted}
use Rattle.std.specs.Prelude.{Ok, Some, None}
use Rattle.tree.proofs.Roots.{roots_row}
use Rattle.tree.proofs.Steps.{part_is, reads_is}
use Rattle.plan.specs.Plan.{Source}
use Rattle.update_rebuild.specs.declared.Place.{Place}
use Rattle.update_rebuild.specs.Answers.{Step}
use Rattle.update_rebuild.specs.Sources.{parent, rebuilt_base, passed_base}
use Rattle.update_rebuild.specs.Planned.{Readable, Based, PlannedBy, RowPlanned, fits, verdict, Rebuilds}
use Rattle.plan.specs.declared.PlanRows.{PlanRows}

-- ---- the verdict

fits_of : (t : Forest Source) → levels t ≤ 16 → size t ≤ 1024 → fits t ≡ true
unfolding fits
fits_of t l h = rw (le-leb (size t) 1024 h, le-leb (levels t) 16 l)

pub of_fits : (t : Forest Source) → fits t ≡ true → (levels t ≤ 16) × (size t ≤ 1024)
unfolding fits
of_fits t e = let b = both (leb (size t) 1024) (leb (levels t) 16) e in (leb-true (levels t) 16 b.1, leb-true (size t) 1024 b.0)

verdict_went : (n d : ℕ) (t : Forest Source) (w : Place) → fits t ≡ true → w.next ≡ n → w.at ≡ size t → w.count ≡ siblings t → w.visited ≡ size t + d → Some w ≡ verdict n d t
unfolding verdict
verdict_went n d t w e en ea ec ev = rw (e, ← en, ← ec, ← ev, ← ea)

verdict_full : (n d : ℕ) (t : Forest Source) → (fits t ≡ true → ⊥) → ◌≡◌ {A = Step} None (verdict n d t)
unfolding verdict
verdict_full n d t h = go (fits t) refl
  where
    go : (b : Bool) → fits t ≡ b → ◌≡◌ {A = Step} None (cond (fits t) (Some (record { next = n; at = size t; count = siblings t; visited = size t + d })) None)
    go true e = absurd (h e)
    go false e = rw e

judged : (t : Forest Source) (d n : ℕ) (plan : PlanRows) (r : Step) (plan' : PlanRows) → PlannedBy r t d n 16 0 0 0 plan plan' → Rebuilds t d n plan r plan'
judged t d n plan (Some w) plan' h = record { answer = verdict_went n d t w (fits_of t h.low (omega (arith, h.at, h.room))) h.next (omega (arith, h.at)) (omega (arith, h.count)) (omega (arith, h.visited)); laid = λ e. h.laid }
judged t d n plan None plan' h =
    let no : fits t ≡ true → ⊥ = λ e. h.over (of_fits t e).0 (let z = (of_fits t e).1 in omega arith) in
    record { answer = verdict_full n d t no; laid = λ e. absurd (no e) }

-- ---- the root list

roots_are : (P : Type 0) (x : Answer Part) (c : ℕ) → Ok c ≡ rooted 0 x → ((p : Part) → x ≡ ok p → c ≡ siblings p.trees → P) → P
unfolding rooted
roots_are P (ok p) c e f = f p refl (let z : c ≡ 0 + siblings p.trees = cc in omega arith)
roots_are P (refused n l k) c e f = let z : ◌≡◌ {A = ℕ} 0 1 = cc in absurd (omega arith)

module _ {records : List ℕ} {n c : ℕ} (b : Based records n c) where
  pub base_reads : Readable records n 16 c 0
  base_reads = roots_are _ (roots 0 (kids_at records) n n 0) c b.rooted λ p ep ec.
      record { whole = b.whole; small = b.small; within = omega arith; levels = omega arith; read = rw ec (reads_is 0 (kids_at records) n 16 (siblings p.trees) 0 p (roots_row 0 (kids_at records) n n 0 p (omega arith) (omega arith) ep).0) }

  base_is : ((got (roots 0 (kids_at records) n n 0)).trees ≡ (part 0 (kids_at records) n 16 c 0).trees) × ((part 0 (kids_at records) n 16 c 0).next ≡ n)
  base_is = roots_are _ (roots 0 (kids_at records) n n 0) c b.rooted λ p ep ec.
      let g = roots_row 0 (kids_at records) n n 0 p (omega arith) (omega arith) ep in
      let e : part 0 (kids_at records) n 16 c 0 ≡ p = part_is 0 (kids_at records) n 16 c 0 p (rw ec g.0) in
      rw (ep, e) (refl, g.1)

  pub base_rebuilt : (dropped : List ℕ) (adds : List (Addition Source)) (plan : PlanRows) (r : Step) (plan' : PlanRows) → RowPlanned records dropped adds n 16 c 0 (parent None) true plan 0 r plan' → Rebuilds (rebuilt_base records n dropped adds) (passed_base records n dropped) n plan r plan'
  unfolding rebuilt_base passed_base parent
  base_rebuilt dropped adds plan r plan' h = rw base_is.0 (judged _ _ n plan r plan' (rw base_is.1 at h.by))

pub ruleset based = (base_reads, base_rebuilt)
