-- A row that is read with some levels left is read the same with any number of them that it does not pass.
use mathlib.Core.Path.{◌≡◌, refl, sym, ap, ◌∙◌}
use Prim.Native.Nat.{ℕ, zero, suc, ◌+◌, ◌-◌, ◌<◌, ◌≤◌}
use native.Mathlib.Numerals.{sub-one}
use native.Mathlib.Omega.{arith}
use Rattle.paper.specs.Answer.{ok}
use Rattle.paper.specs.Forest.{node, levels}
use Rattle.paper.specs.Layout.{Part, nothing, before, row}
use Rattle.laws.proofs.Basics.{refused≢ok, ok_is, bind_is}
use Rattle.tree.proofs.Reading.{row_none, row_deep, row_in}
use Rattle.tree.proofs.Filled.{row_parts}

low_nothing : (lv k : ℕ) (p : Part) → nothing k ≡ p → levels p.trees ≤ lv
unfolding levels
low_nothing lv k p e = rw (← e) (omega arith)

low_before : (lv k : ℕ) (a b p : Part) → before k a b ≡ p → 0 < lv → levels a.trees ≤ lv - 1 → levels b.trees ≤ lv → levels p.trees ≤ lv
unfolding levels
low_before lv k a b p e l h g = rw (← e) (omega arith)

low_parts : (lv k : ℕ) (a b p : Part) → before k a b ≡ p → levels p.trees ≤ lv → (0 < lv) × (levels a.trees ≤ lv - 1) × (levels b.trees ≤ lv)
unfolding levels
low_parts lv k a b p e h =
    let g : levels (node k a.trees b.trees) ≤ lv = rw (← e) at h in
    (omega arith, omega arith, omega arith)

module _ (li : ℕ) (kids : ℕ → ℕ) (n : ℕ) where
  low_inner : (lv : ℕ) → ((c k : ℕ) (p : Part) → row li kids n lv c k ≡ ok p → levels p.trees ≤ lv) → (c k : ℕ) (p : Part) → row li kids n (suc lv) c k ≡ ok p → levels p.trees ≤ suc lv
  low_inner lv ih zero k p e = low_nothing (suc lv) k p (ok_is (sym (row_none li kids n (suc lv) 0 k refl) ∙ e))
  low_inner lv ih (suc c) k p e =
      row_parts li kids n _ (suc lv) (suc c) k p (λ z. omega arith) e λ a b q l ea eb ej.
      low_before (suc lv) k a b p ej (omega arith) (rw (sub-one (suc lv)) (ih (kids k) (k + 1) a (rw (sub-one (suc lv)) at ea))) (low_inner lv ih c a.next b (rw (sub-one (suc c)) at eb))

  pub row_is_low : (lv c k : ℕ) (p : Part) → row li kids n lv c k ≡ ok p → levels p.trees ≤ lv
  row_is_low zero zero k p e = low_nothing 0 k p (ok_is (sym (row_none li kids n 0 0 k refl) ∙ e))
  row_is_low zero (suc c) k p e = absurd (refused≢ok (sym (row_deep li kids n 0 (suc c) k refl (λ z. omega arith)) ∙ e))
  row_is_low (suc lv) c k p e = low_inner lv (row_is_low lv) c k p e

  reads_inner : (lv : ℕ) → ((c k lw : ℕ) (p : Part) → row li kids n lv c k ≡ ok p → levels p.trees ≤ lw → row li kids n lw c k ≡ ok p) → (c k lw : ℕ) (p : Part) → row li kids n (suc lv) c k ≡ ok p → levels p.trees ≤ lw → row li kids n lw c k ≡ ok p
  reads_inner lv ih zero k lw p e h = row_none li kids n lw 0 k refl ∙ sym (row_none li kids n (suc lv) 0 k refl) ∙ e
  reads_inner lv ih (suc c) k lw p e h =
      row_parts li kids n _ (suc lv) (suc c) k p (λ z. omega arith) e λ a b q l ea eb ej.
      let g = low_parts lw k a b p ej h in
      let g₀ = g.0 in
      let ra : row li kids n (lw - 1) (kids k) (k + 1) ≡ ok a = ih (kids k) (k + 1) (lw - 1) a (rw (sub-one (suc lv)) at ea) g.1 in
      let rb : row li kids n lw c a.next ≡ ok b = reads_inner lv ih c a.next lw b (rw (sub-one (suc c)) at eb) g.2 in
      row_in li kids n lw (suc c) k (λ z. omega arith) (λ z. omega arith) l
      ∙ bind_is (row li kids n (lw - 1) (kids k) (k + 1)) _ a ra
      ∙ bind_is (row li kids n lw (suc c - 1) a.next) _ b (rw (sub-one (suc c)) rb)
      ∙ ap ok ej

  pub row_reads_low : (lv c k lw : ℕ) (p : Part) → row li kids n lv c k ≡ ok p → levels p.trees ≤ lw → row li kids n lw c k ≡ ok p
  row_reads_low zero zero k lw p e h = row_none li kids n lw 0 k refl ∙ sym (row_none li kids n 0 0 k refl) ∙ e
  row_reads_low zero (suc c) k lw p e h = absurd (refused≢ok (sym (row_deep li kids n 0 (suc c) k refl (λ z. omega arith)) ∙ e))
  row_reads_low (suc lv) c k lw p e h = reads_inner lv (row_reads_low lv) c k lw p e h
