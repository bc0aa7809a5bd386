-- A record with all its inside, planned as it stands. `search planning`.
use mathlib.Core.Path.{◌≡◌, refl, sym, ◌∙◌}
use mathlib.Core.List.{List}
use Prim.Native.Nat.{ℕ, ◌+◌, ◌-◌, ◌*◌, ◌<◌, ◌≤◌}
use native.Mathlib.Omega.{arith}
use lib.ListN.{length}
use Rattle.paper.specs.Forest.{size}
use Rattle.paper.specs.Bytes.{kids_at, slots}
use Rattle.paper.specs.Layout.{Part, nothing, before}
use Rattle.tree.specs.Read.{Rowed}
use Rattle.tree.proofs.Reading.{row_none, row_in}
use Rattle.tree.proofs.Steps.{was_read}
use Rattle.tree.proofs.Filled.{Full, full}
use Rattle.laws.proofs.Basics.{rebind}
use Rattle.plan.proofs.Laying.{copied_laid}
use Rattle.tree_walk.specs.There.{row_of, There}
use Rattle.tree_walk.proofs.Standing.{there_row, there_full, there_past}
use Rattle.prune_columns.specs.declared.Step.{Step}
use Rattle.prune_columns.specs.Projected.{Planned, Spot, KeptWhole, Span, Copied}
use Rattle.plan.specs.declared.PlanRows.{PlanRows}

-- Trees that stand in a row, copied.
pub copied_planned : (s : List ℕ) (p : Part) (c k e : ℕ) (plan : PlanRows) (i : ℕ) (r : Step) (plan' : PlanRows) → i ≤ k → Full (kids_at s) (slots s) c k p → e ≡ p.next → Copied s k e c plan i r plan' → Planned s p.trees p.next plan i r plan'
copied_planned s p c k e plan i r plan' l f q h =
    let n = f.next in
    let d : e - k ≡ size p.trees = omega arith in
    rw h.step
    (record {
      next = q;
      at = omega arith;
      count = sym f.trees;
      room = omega arith;
      laid = copied_laid s p (slots s) c k i (e - k) plan plan' f d h.copied;
    })

module _ (s : List ℕ) (lv k i : ℕ) (h : Spot s lv k i) where
  -- the record with its inside, as a row of one
  alone : Part
  alone = before k (row_of s lv (kids_at s k) (k + 1)) (nothing (row_of s lv (kids_at s k) (k + 1)).next)

  alone_full : Full (kids_at s) (slots s) 1 k alone
  unfolding alone
  alone_full =
      let j = (row_of s lv (kids_at s k) (k + 1)).next in
      let q : lv + 1 - 1 ≡ lv = omega arith in
      full 0 (kids_at s) (slots s) (lv + 1) 1 k alone
      (row_in 0 (kids_at s) (slots s) (lv + 1) 1 k (λ z. omega arith) (λ z. omega arith) h.record_in
      ∙ rw q (rebind _ _ (was_read 0 (kids_at s) (slots s) lv (kids_at s k) (k + 1) h.inside.read) (rebind _ _ (row_none 0 (kids_at s) (slots s) (lv + 1) 0 j refl) refl)))

  pub spot_past : (k + 1 ≤ (row_of s lv (kids_at s k) (k + 1)).next) × ((row_of s lv (kids_at s k) (k + 1)).next ≤ 1024) × ((row_of s lv (kids_at s k) (k + 1)).next * 24 ≤ length s)
  spot_past =
      let a = (there_full s lv (kids_at s k) (k + 1) h.inside).next in
      let b = there_past s lv (kids_at s k) (k + 1) h.inside in
      let d = h.inside.few in
      (omega arith, omega arith, omega arith)

  pub spot_there : (m : ℕ) → m ≡ kids_at s k → There s lv m (k + 1)
  spot_there m e = rw e h.inside

  pub spot_row : (m : ℕ) → m ≡ kids_at s k → Rowed 0 s (slots s) lv m (k + 1)
  spot_row m e = there_row s lv m (k + 1) (spot_there m e)

  pub spot_bytes : k * 24 + 24 ≤ length s
  spot_bytes = let a = h.record_in in omega arith

  pub spot_place : k < 1024
  spot_place = let a = h.record_in in let b = h.inside.few in omega arith

  pub copy_asks : (m past : ℕ) → m ≡ kids_at s k → past ≡ (row_of s lv m (k + 1)).next → Span s k past i
  copy_asks m past em ep =
      let q : past ≡ (row_of s lv (kids_at s k) (k + 1)).next = ep ∙ rw em in
      let a = spot_past in
      let r = h.room in
      record { ordered = omega arith; bytes = omega arith; few = omega arith; room = r }

  pub whole_planned : (m past : ℕ) (plan : PlanRows) (r : Step) (plan' : PlanRows) → m ≡ kids_at s k → past ≡ (row_of s lv m (k + 1)).next → Copied s k past 1 plan i r plan' → KeptWhole s lv k plan i r plan'
  unfolding alone
  whole_planned m past plan r plan' em ep c = copied_planned s alone 1 k past plan i r plan' h.room alone_full (ep ∙ rw em) c

pub ruleset planning = (spot_there, spot_row, spot_bytes, spot_place, copy_asks, whole_planned)
