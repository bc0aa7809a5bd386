-- The loop over the roots: `search rooting`. W is the whole answer.
use mathlib.Core.Path.{◌≡◌, refl, sym, ◌∙◌}
use Prim.Native.Nat.{ℕ, zero, suc, ◌+◌, ◌-◌, ◌<◌, ◌≤◌}
use native.Mathlib.Nat.{add-zero}
use native.Mathlib.Numerals.{add-one, sub-one}
use native.Mathlib.Omega.{arith}
use mathlib.Core.Logic.{⊎_elim}
use borrow.Author.Tests.{lt-ltb, le-ltb}
use Rattle.record.specs.declared.Refusal.{Refusal}
use Rattle.paper.specs.Answer.{Answer, ok, refused, ◌>>=◌}
use Rattle.paper.specs.Forest.{siblings}
use Rattle.tree.specs.Answers.{Walked, Shaped}
use Rattle.std.specs.Prelude.{Ok, Err}
use Rattle.paper.specs.Layout.{Part, nothing, before, row, roots}
use Rattle.tree.specs.Says.{ended, rooted}
use Rattle.tree.proofs.Reading.{row_none, row_in, end_none}
use Rattle.tree.proofs.Filled.{lt_or_le, full, end_room, end_less}
use Rattle.laws.proofs.Basics.{unbind, ok_is}

module _ (li : ℕ) (kids : ℕ → ℕ) (n : ℕ) where
  pub roots_past : (f k : ℕ) → n ≤ k → roots li kids n f k ≡ ok (nothing k)
  unfolding roots
  roots_past zero k l = refl
  roots_past (suc f) k l = rw (le-ltb k n l, roots)

  pub roots_in : (f k : ℕ) → k < n → n ≤ k + f → roots li kids n f k ≡ (row li kids n 15 (kids k) (k + 1) >>= λ a. roots li kids n (f - 1) a.next >>= λ b. ok (before k a b))
  unfolding roots
  roots_in zero k l h = absurd (omega arith)
  roots_in (suc f) k l h = rw (add-one k, sub-one (suc f), lt-ltb k n l, roots)

rooted_before : (i k : ℕ) (a : Part) (x : Answer Part) → rooted i (x >>= λ b. ok (before k a b)) ≡ rooted (i + 1) x
unfolding ◌>>=◌ siblings rooted
rooted_before i k a (ok b) = let e : i + suc (siblings b.trees) ≡ i + 1 + siblings b.trees = omega arith in rw e
rooted_before i k a (refused n l p) = refl

rooted_goes : (x : Answer Part) (f : ℕ → Answer Part) (i k j : ℕ) (w : Walked) → w ≡ ended x → w ≡ Ok j → rooted i (x >>= λ a. f a.next >>= λ b. ok (before k a b)) ≡ rooted (i + 1) (f j)
unfolding ◌>>=◌ rooted ended
rooted_goes (ok a) f i k j w e d = let q : a.next ≡ j = cc in rooted_before i k a (f a.next) ∙ rw q
rooted_goes (refused n l p) f i k j w e d = let z : ◌≡◌ {A = ℕ} 0 1 = cc in absurd (omega arith)

rooted_stops : (x : Answer Part) (f : ℕ → Answer Part) (i k : ℕ) (t : Refusal) (w : Walked) → w ≡ ended x → w ≡ Err t → Err t ≡ rooted i (x >>= λ a. f a.next >>= λ b. ok (before k a b))
unfolding ◌>>=◌ rooted ended
rooted_stops (ok a) f i k t w e d = let z : ◌≡◌ {A = ℕ} 0 1 = cc in absurd (omega arith)
rooted_stops (refused n l p) f i k t w e d = cc

-- what is left from slot k on, after i roots
pub record Left (li : ℕ) (kids : ℕ → ℕ) (n : ℕ) (W : Shaped) (i k : ℕ) : Type 0 where
  pub turns : ℕ
  pub few : i ≤ k
  pub within : k ≤ n
  pub enough : n ≤ k + turns
  pub same : W ≡ rooted i (roots li kids n turns k)

module _ (li : ℕ) (kids : ℕ → ℕ) (n : ℕ) where
  pub left_starts : Left li kids n (rooted 0 (roots li kids n n 0)) 0 0
  left_starts = record { turns = n; few = omega arith; within = omega arith; enough = omega arith; same = refl }

  module _ (W : Shaped) (i k m : ℕ) (w : Walked) (h : Left li kids n W i k) (l : k < n) (em : m ≡ kids k) (ew : w ≡ ended (row li kids n 15 m (k + 1))) where
    pub left_goes : (j : ℕ) → w ≡ Ok j → Left li kids n W (i + 1) j
    left_goes j d =
        let r = end_room li kids n 15 m (k + 1) j w ew d in
        record {
          turns = h.turns - 1;
          few = omega (arith, h.few);
          within = r.1 (omega arith);
          enough = omega (arith, h.enough);
          same = h.same ∙ rw (roots_in li kids n h.turns k l h.enough, ← em) (rooted_goes (row li kids n 15 m (k + 1)) (λ i. roots li kids n (h.turns - 1) i) i k j w ew d);
        }

    pub left_stops : (t : Refusal) → w ≡ Err t → Err t ≡ W
    left_stops t d = sym (h.same ∙ rw (roots_in li kids n h.turns k l h.enough, ← em) (sym (rooted_stops (row li kids n 15 m (k + 1)) (λ i. roots li kids n (h.turns - 1) i) i k t w ew d)))

  -- the inside of a leaf ends where it begins
  pub left_leaf : (W : Shaped) (i k m : ℕ) → Left li kids n W i k → k < n → m ≡ kids k → m ≡ 0 → Left li kids n W (i + 1) (k + 1)
  left_leaf W i k m h l em z = left_goes W i k m (Ok (k + 1)) h l em (end_none li kids n 15 m (k + 1) z) (k + 1) refl

  pub left_ends : (W : Shaped) (i k : ℕ) → Left li kids n W i k → n ≤ k → Ok i ≡ W
  unfolding siblings rooted
  left_ends W i k h l = sym (h.same ∙ rw (roots_past li kids n h.turns k l, add-zero i))

pub ruleset rooting = (left_starts, left_goes, left_leaf, left_stops, left_ends, end_less)

bound : {A B : Type 0} (x : Answer A) (g : A → Answer B) {a : A} {y : Answer B} → x ≡ ok a → g a ≡ y → (x >>= g) ≡ y
unfolding ◌>>=◌
bound x g ex ey = rw ex ey

-- Roots are a row of as many trees, to the end of the list.
pub roots_row : (li : ℕ) (kids : ℕ → ℕ) (n f k : ℕ) (p : Part) → k ≤ n → n ≤ k + f → roots li kids n f k ≡ ok p → (row li kids n 16 (siblings p.trees) k ≡ ok p) × (p.next ≡ n)
unfolding siblings
roots_row li kids n zero k p q h e =
    let d = ok_is (sym (roots_past li kids n 0 k (omega arith)) ∙ e) in
    rw (← d) (row_none li kids n 16 0 k refl, omega arith)
roots_row li kids n (suc f) k p q h e =
    ⊎_elim
    (λ l. unbind _ _ (sym (roots_in li kids n (suc f) k l h) ∙ e) λ a ea e₁. unbind _ _ e₁ λ b eb e₂.
    let fa = full li kids n 15 (kids k) (k + 1) a ea in
    let g = roots_row li kids n f a.next b (fa.most (omega arith)) (omega (arith, fa.next)) (rw (sub-one (suc f)) at eb) in
    rw (← (ok_is e₂)) (row_in li kids n 16 (suc (siblings b.trees)) k (λ z. omega arith) (λ z. omega arith) l ∙ bound _ _ ea (rw (sub-one (suc (siblings b.trees))) (bound _ _ g.0 refl)), g.1))
    (λ l. let d = ok_is (sym (roots_past li kids n (suc f) k l) ∙ e) in rw (← d) (row_none li kids n 16 0 k refl, omega arith))
    (lt_or_le k n)
