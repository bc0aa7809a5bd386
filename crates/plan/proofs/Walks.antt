-- The clauses of `walk` at the numbers that the code has; how many slots a walk passes; and that it is the row that is read.
use mathlib.Core.Path.{◌≡◌, refl, sym, ap, ◌∙◌}
use mathlib.Core.Bool.{true}
use mathlib.Core.Logic.{⊎_elim}
use Prim.Native.Nat.{ℕ, zero, suc, ◌+◌, ◌-◌, ◌<◌, ◌≤◌}
use native.Mathlib.Numerals.{add-one, sub-one}
use native.Mathlib.Omega.{arith}
use borrow.Author.Tests.{lt-ltb, le-ltb}
use Rattle.paper.specs.Answer.{ok}
use Rattle.paper.specs.Forest.{Forest, empty, node, size}
use Rattle.paper.specs.Layout.{Part, nothing, before, row, roots}
use Rattle.tree.specs.Read.{got, fine}
use Rattle.tree.proofs.Reading.{row_none, row_deep}
use Rattle.laws.proofs.Basics.{refused≢ok, unbind, ok_is}
use Rattle.tree.proofs.Filled.{lt_or_le, row_parts, full}
use Rattle.tree.proofs.Roots.{roots_past, roots_in}
use Rattle.tree.proofs.Steps.{fine_got}
use Rattle.plan.specs.Walk.{walk_with, walk, trees_of}

module _ (kids : ℕ → ℕ) (n : ℕ) where
  pub walk_none : (lv c k : ℕ) → c ≡ 0 → walk kids n lv c k ≡ nothing k
  unfolding walk walk_with
  walk_none zero c k e = refl
  walk_none (suc lv) c k e = rw e

  pub walk_deep : (lv c k : ℕ) → lv ≡ 0 → walk kids n lv c k ≡ nothing k
  unfolding walk
  walk_deep lv c k e = rw e

  pub walk_past : (lv c k : ℕ) → n ≤ k → walk kids n lv c k ≡ nothing k
  unfolding walk walk_with
  walk_past zero c k l = refl
  walk_past (suc lv) zero k l = refl
  walk_past (suc lv) (suc c) k l = rw (le-ltb k n l, walk_with)

  pub walk_in : (lv c k m : ℕ) → (lv ≡ 0 → ⊥) → (c ≡ 0 → ⊥) → k < n → m ≡ kids k → walk kids n lv c k ≡ before k (walk kids n (lv - 1) m (k + 1)) (walk kids n lv (c - 1) (walk kids n (lv - 1) m (k + 1)).next)
  unfolding walk walk_with
  walk_in zero c k m e h l em = absurd (e refl)
  walk_in (suc lv) zero k m e h l em = absurd (h refl)
  walk_in (suc lv) (suc c) k m e h l em = rw (em, add-one k, sub-one (suc lv), sub-one (suc c), lt-ltb k n l, walk_with)

-- ---- p starts at k, and has a record for each slot up to its end, which is within the list

pub record Filled (n k : ℕ) (p : Part) : Type 0 where
  pub count : p.next ≡ k + size p.trees
  pub most : p.next ≤ n

filled_none : (n k : ℕ) → k ≤ n → Filled n k (nothing k)
unfolding size
filled_none n k h = record { count = omega arith; most = h }

filled_join : (n k : ℕ) (a b : Part) → Filled n (suc k) a → Filled n a.next b → Filled n k (before k a b)
unfolding size
filled_join n k a b h g = record { count = omega (arith, h.count, g.count); most = g.most }

-- The slots of a forest are numbered from k on.
abbrev pub Numbered : ℕ → Forest ℕ → Type 0
Numbered k empty = Unit {0}
Numbered k (node j m t) = (j ≡ k) × (Numbered (suc k) m × Numbered (suc k + size m) t)

module _ (kids : ℕ → ℕ) (n : ℕ) where
  fill_row : (lv : ℕ) → ((c k : ℕ) → k ≤ n → Filled n k (walk kids n lv c k)) → (c k : ℕ) → k ≤ n → Filled n k (walk kids n (suc lv) c k)
  fill_row lv ih zero k q = rw (walk_none kids n (suc lv) 0 k refl) (filled_none n k q)
  fill_row lv ih (suc c) k q =
      ⊎_elim
      (λ l. rw (walk_in kids n (suc lv) (suc c) k (kids k) (λ e. omega arith) (λ e. omega arith) l refl, sub-one (suc lv), sub-one (suc c), add-one k)
      (filled_join n k _ _ (ih (kids k) (suc k) l) (fill_row lv ih c _ (ih (kids k) (suc k) l).most)))
      (λ l. rw (walk_past kids n (suc lv) (suc c) k l) (filled_none n k q))
      (lt_or_le k n)

  pub filled : (lv c k : ℕ) → k ≤ n → Filled n k (walk kids n lv c k)
  unfolding walk
  filled zero c k q = filled_none n k q
  filled (suc lv) c k q = fill_row lv (filled lv) c k q

  number_row : (lv : ℕ) → ((c k : ℕ) → k ≤ n → Numbered k (walk kids n lv c k).trees) → (c k : ℕ) → k ≤ n → Numbered k (walk kids n (suc lv) c k).trees
  number_row lv ih zero k q = rw (walk_none kids n (suc lv) 0 k refl) tt
  number_row lv ih (suc c) k q =
      ⊎_elim
      (λ l. let z = filled lv (kids k) (suc k) l in
      rw (walk_in kids n (suc lv) (suc c) k (kids k) (λ e. omega arith) (λ e. omega arith) l refl, sub-one (suc lv), sub-one (suc c), add-one k)
      (refl, (ih (kids k) (suc k) l, rw (← z.count) (number_row lv ih c (walk kids n lv (kids k) (suc k)).next z.most))))
      (λ l. rw (walk_past kids n (suc lv) (suc c) k l) tt)
      (lt_or_le k n)

  pub numbered : (lv c k : ℕ) → k ≤ n → Numbered k (walk kids n lv c k).trees
  unfolding walk
  numbered zero c k q = tt
  numbered (suc lv) c k q = number_row lv (numbered lv) c k q

  covers : (lv c k : ℕ) → k ≤ n → n ≤ k + c → (walk kids n (suc lv) c k).next ≡ n
  covers lv zero k q l = rw (walk_none kids n (suc lv) 0 k refl) (omega arith)
  covers lv (suc c) k q l =
      ⊎_elim
      (λ m. let z = filled lv (kids k) (suc k) m in
      rw (walk_in kids n (suc lv) (suc c) k (kids k) (λ e. omega arith) (λ e. omega arith) m refl, sub-one (suc lv), sub-one (suc c), add-one k)
      (covers lv c (walk kids n lv (kids k) (suc k)).next z.most (omega (arith, z.count))))
      (λ m. rw (walk_past kids n (suc lv) (suc c) k m) (omega arith))
      (lt_or_le k n)

  -- n roots are all there is
  pub all_there : size (trees_of kids n) ≡ n
  all_there = let z = (filled 16 n 0 (omega arith)).count in omega (arith, covers 15 n 0 (omega arith) (omega arith))

  pub all_numbered : Numbered 0 (trees_of kids n)
  all_numbered = numbered 16 n 0 (omega arith)

-- ---- what is read is what is walked

module _ (li : ℕ) (kids : ℕ → ℕ) (n : ℕ) where
  row_walked : (lv : ℕ) → ((c k : ℕ) (p : Part) → row li kids n lv c k ≡ ok p → walk kids n lv c k ≡ p) → (c k : ℕ) (p : Part) → row li kids n (suc lv) c k ≡ ok p → walk kids n (suc lv) c k ≡ p
  row_walked lv ih zero k p e = walk_none kids n (suc lv) 0 k refl ∙ ok_is (sym (row_none li kids n (suc lv) 0 k refl) ∙ e)
  row_walked lv ih (suc c) k p e =
      row_parts li kids n _ (suc lv) (suc c) k p (λ z. omega arith) e λ a b q l ea eb ej.
      let wa : walk kids n lv (kids k) (suc k) ≡ a = ih (kids k) (suc k) a (rw (sub-one (suc lv), add-one k) at ea) in
      let wb : walk kids n (suc lv) c a.next ≡ b = row_walked lv ih c a.next b (rw (sub-one (suc c)) at eb) in
      walk_in kids n (suc lv) (suc c) k (kids k) q (λ z. omega arith) l refl ∙ rw (sub-one (suc lv), sub-one (suc c), add-one k, wa, wb) ej

  walked : (lv c k : ℕ) (p : Part) → row li kids n lv c k ≡ ok p → walk kids n lv c k ≡ p
  walked zero zero k p e = walk_none kids n 0 0 k refl ∙ ok_is (sym (row_none li kids n 0 0 k refl) ∙ e)
  walked zero (suc c) k p e = absurd (refused≢ok (sym (row_deep li kids n 0 (suc c) k refl (λ z. omega arith)) ∙ e))
  walked (suc lv) c k p e = row_walked lv (walked lv) c k p e

  roots_walked : (f k c : ℕ) (p : Part) → n ≤ k + f → n ≤ k + c → roots li kids n f k ≡ ok p → walk kids n 16 c k ≡ p
  roots_walked zero k c p h g e = walk_past kids n 16 c k (omega arith) ∙ ok_is (sym (roots_past li kids n 0 k (omega arith)) ∙ e)
  roots_walked (suc f) k c p h g e =
      ⊎_elim
      (λ l. unbind _ _ (sym (roots_in li kids n (suc f) k l h) ∙ e) λ a ea e₁. unbind _ _ e₁ λ b eb e₂.
      let fa = full li kids n 15 (kids k) (k + 1) a ea in
      let wa : walk kids n (16 - 1) (kids k) (k + 1) ≡ a = walked 15 (kids k) (k + 1) a ea in
      let wb = roots_walked f a.next (c - 1) b (omega (arith, fa.next)) (omega (arith, fa.next)) (rw (sub-one (suc f)) at eb) in
      walk_in kids n 16 c k (kids k) (λ z. omega arith) (λ z. omega arith) l refl ∙ rw (wa, wb) (ok_is e₂))
      (λ l. walk_past kids n 16 c k l ∙ ok_is (sym (roots_past li kids n (suc f) k l) ∙ e))
      (lt_or_le k n)

  -- The roots that are read are all that is walked.
  pub roots_are : fine (roots li kids n n 0) ≡ true → (got (roots li kids n n 0)).trees ≡ trees_of kids n
  roots_are s = sym (ap (λ (p : Part). p.trees) (roots_walked n 0 n (got (roots li kids n n 0)) (omega arith) (omega arith) (fine_got (roots li kids n n 0) s)))
