-- The clauses of `row`, at the numbers that the code has.
use mathlib.Core.Path.{◌≡◌, refl, sym, ◌∙◌}
use Prim.Native.Nat.{ℕ, zero, suc, ◌+◌, ◌-◌, ◌<◌, ◌≤◌}
use native.Mathlib.Numerals.{add-one, sub-one}
use native.Mathlib.Omega.{arith}
use borrow.Author.Tests.{lt-ltb, le-ltb}
use Rattle.record.specs.declared.Refusal.{Refusal}
use Rattle.paper.specs.Answer.{Answer, ok, refused, ◌>>=◌}
use Rattle.tree.specs.Answers.{Walked}
use Rattle.std.specs.Prelude.{Ok, Err}
use Rattle.paper.specs.Layout.{Part, nothing, before, deep, row_with, row}
use Rattle.record.specs.Says.{refusal_of}
use Rattle.tree.specs.Says.{ended}

module _ (li : ℕ) (kids : ℕ → ℕ) (n : ℕ) where
  pub row_none : (lv c k : ℕ) → c ≡ 0 → row li kids n lv c k ≡ ok (nothing k)
  unfolding row row_with deep
  row_none zero c k e = rw e
  row_none (suc lv) c k e = rw e

  pub row_deep : (lv c k : ℕ) → lv ≡ 0 → (c ≡ 0 → ⊥) → row li kids n lv c k ≡ refused 5 li k
  unfolding row deep
  row_deep lv zero k e h = absurd (h refl)
  row_deep lv (suc c) k e h = rw e

  pub row_past : (lv c k : ℕ) → (lv ≡ 0 → ⊥) → (c ≡ 0 → ⊥) → n ≤ k → row li kids n lv c k ≡ refused 5 li k
  unfolding row row_with
  row_past zero c k e h l = absurd (e refl)
  row_past (suc lv) zero k e h l = absurd (h refl)
  row_past (suc lv) (suc c) k e h l = rw (le-ltb k n l, row_with)

  pub row_in : (lv c k : ℕ) → (lv ≡ 0 → ⊥) → (c ≡ 0 → ⊥) → k < n → row li kids n lv c k ≡ (row li kids n (lv - 1) (kids k) (k + 1) >>= λ a. row li kids n lv (c - 1) a.next >>= λ b. ok (before k a b))
  unfolding row row_with
  row_in zero c k e h l = absurd (e refl)
  row_in (suc lv) zero k e h l = absurd (h refl)
  row_in (suc lv) (suc c) k e h l = rw (add-one k, sub-one (suc lv), sub-one (suc c), lt-ltb k n l, row_with)

-- what an end tells of the answer
ended_before : (k : ℕ) (a : Part) (x : Answer Part) → ended (x >>= λ b. ok (before k a b)) ≡ ended x
unfolding ◌>>=◌ ended
ended_before k a (ok b) = refl
ended_before k a (refused n l p) = refl

ended_goes : (x : Answer Part) (f : ℕ → Answer Part) (k j : ℕ) (w : Walked) → w ≡ ended x → w ≡ Ok j → ended (x >>= λ a. f a.next >>= λ b. ok (before k a b)) ≡ ended (f j)
unfolding ◌>>=◌ ended
ended_goes (ok a) f k j w e d = let q : a.next ≡ j = cc in ended_before k a (f a.next) ∙ rw q
ended_goes (refused n l p) f k j w e d = let z : ◌≡◌ {A = ℕ} 0 1 = cc in absurd (omega arith)

ended_stops : (x : Answer Part) (f : ℕ → Answer Part) (k : ℕ) (t : Refusal) (w : Walked) → w ≡ ended x → w ≡ Err t → Err t ≡ ended (x >>= λ a. f a.next >>= λ b. ok (before k a b))
unfolding ◌>>=◌ ended
ended_stops (ok a) f k t w e d = let z : ◌≡◌ {A = ℕ} 0 1 = cc in absurd (omega arith)
ended_stops (refused n l p) f k t w e d = cc

-- where no tree follows
ended_last : (x : Answer Part) (f : ℕ → Answer Part) (k : ℕ) → ((j : ℕ) → f j ≡ ok (nothing j)) → ended (x >>= λ a. f a.next >>= λ b. ok (before k a b)) ≡ ended x
unfolding ◌>>=◌ ended
ended_last (ok a) f k h = rw (h a.next)
ended_last (refused n l p) f k h = refl

module _ (li : ℕ) (kids : ℕ → ℕ) (n lv c k : ℕ) where
  pub end_none : c ≡ 0 → Ok k ≡ ended (row li kids n lv c k)
  unfolding ended
  end_none e = rw (row_none li kids n lv c k e)

  pub end_deep : lv ≡ 0 → (c ≡ 0 → ⊥) → Err (refusal_of 5 li k) ≡ ended (row li kids n lv c k)
  unfolding ended
  end_deep e h = rw (row_deep li kids n lv c k e h)

  pub end_past : (lv ≡ 0 → ⊥) → (c ≡ 0 → ⊥) → n ≤ k → Err (refusal_of 5 li k) ≡ ended (row li kids n lv c k)
  unfolding ended
  end_past e h l = rw (row_past li kids n lv c k e h l)

  pub end_last : (m : ℕ) → (lv ≡ 0 → ⊥) → c ≡ 1 → k < n → m ≡ kids k → ended (row li kids n (lv - 1) m (k + 1)) ≡ ended (row li kids n lv c k)
  end_last m p e l em = sym (rw (row_in li kids n lv c k p (λ z. omega arith) l, ← em) (ended_last (row li kids n (lv - 1) m (k + 1)) (λ i. row li kids n lv (c - 1) i) k (λ j. row_none li kids n lv (c - 1) j (omega arith))))

  module _ (m : ℕ) (w : Walked) (p : lv ≡ 0 → ⊥) (q : c ≡ 0 → ⊥) (l : k < n) (em : m ≡ kids k) (ew : w ≡ ended (row li kids n (lv - 1) m (k + 1))) where
    pub end_goes : (j : ℕ) (r : Walked) → w ≡ Ok j → r ≡ ended (row li kids n lv (c - 1) j) → r ≡ ended (row li kids n lv c k)
    end_goes j r e f = f ∙ sym (rw (row_in li kids n lv c k p q l, ← em) (ended_goes (row li kids n (lv - 1) m (k + 1)) (λ i. row li kids n lv (c - 1) i) k j w ew e))

    pub end_stops : (t : Refusal) → w ≡ Err t → Err t ≡ ended (row li kids n lv c k)
    end_stops t e = rw (row_in li kids n lv c k p q l, ← em) (ended_stops (row li kids n (lv - 1) m (k + 1)) (λ i. row li kids n lv (c - 1) i) k t w ew e)
