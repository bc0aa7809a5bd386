-- The rules of the table of steps: each is one test that computes over the whole table. A decimal's step has them by arithmetic.
use Prim.Native.Nat.{ℕ, ◌<◌}
use mathlib.Core.Path.{◌≡◌, refl, sym}
use mathlib.Core.Logic.{◌⊎◌, inl, inr, ⊎_elim}
use mathlib.Core.Bool.{Bool, true, false, not, ◌&&◌, ◌||◌, or-true, true≢false}
use mathlib.Core.List.{List, [], ◌∷◌, map}
use native.Mathlib.Omega.{arith}
use lib.Dec.{eqb, leb, ltb}
use borrow.Author.Tests.{eqb-true, ltb-true}
use Rattle.paper.specs.Answer.{any, all}
use Rattle.paper.specs.Promotions.{precision, scale, is_decimal, known_code, Step, step, promotions, is_step, more_digits}
use Rattle.paper.specs.Promotions.{allowed}
use Rattle.laws.proofs.RoundTrip.{both}
use Rattle.theorems.specs.Promoted.{Chain, one_step, more_steps, OnlyRises}
use Rattle.theorems.specs.Columns.{last_of, Widening, Stepwise}

-- ---- the table

either : (a b : Bool) → (a || b) ≡ true → (a ≡ true) ⊎ (b ≡ true)
either true b e = inl refl
either false b e = inr e

-- Where each row of a list passes a test, each step of it does.
module _ (test : Step → Bool) (v a b : ℕ) where
  row_passes : (s : Step) → test s ≡ true → is_step v a b s ≡ true → test (step v a b) ≡ true
  row_passes s t e =
      let p = both (eqb s.version v) (eqb s.old a && eqb s.new b) e in
      let q = both (eqb s.old a) (eqb s.new b) p.1 in
      rw (← (eqb-true s.version v p.0), ← (eqb-true s.old a q.0), ← (eqb-true s.new b q.1)) t

  step_passes : (l : List Step) → all test l ≡ true → any (is_step v a b) l ≡ true → test (step v a b) ≡ true
  step_passes [] t e = absurd (true≢false (sym e))
  step_passes (s ∷ l) t e =
      let p = both (test s) (all test l) t in
      ⊎_elim (row_passes s p.0) (step_passes l p.1) (either (is_step v a b s) (any (is_step v a b) l) e)

-- A step is one of the table or one of decimals.
by_table : (P : Type 0) (v a b : ℕ) → allowed v a b ≡ true → (any (is_step v a b) promotions ≡ true → P)
    → (more_digits a b ≡ true → P) → P
unfolding allowed
by_table P v a b e table decimal = ⊎_elim table decimal (either (any (is_step v a b) promotions) (more_digits a b) e)

-- ---- decimals

record Digits (a b : ℕ) : Type 0 where
  old : is_decimal a ≡ true
  new : is_decimal b ≡ true
  more : precision a < precision b
  same : scale a ≡ scale b

digits : (a b : ℕ) → more_digits a b ≡ true → Digits a b
unfolding more_digits
digits a b e =
    let p = both (is_decimal a) _ e in
    let q = both (is_decimal b) _ p.1 in
    let r = both (ltb (precision a) (precision b)) (eqb (scale a) (scale b)) q.1 in
    record { old = p.0; new = q.0; more = ltb-true _ _ r.0; same = eqb-true _ _ r.1 }

-- ---- the rules

pub two_in_three : (a b : ℕ) → allowed 2 a b ≡ true → allowed 3 a b ≡ true
unfolding allowed
two_in_three a b e =
    by_table _ 2 a b e
    (λ t. rw (step_passes (λ s. not (eqb s.version 2) || any (is_step 3 s.old s.new) promotions) 2 a b promotions refl t))
    (λ d. rw d (or-true (any (is_step 3 a b) promotions)))

pub rises : (v a b : ℕ) → allowed v a b ≡ true → a < b
rises v a b e =
    by_table _ v a b e
    (λ t. ltb-true a b (step_passes (λ s. ltb s.old s.new) v a b promotions refl t))
    (λ d. let g = digits a b d in omega arith)

decimal_known : (a : ℕ) → is_decimal a ≡ true → known_code a ≡ true
unfolding known_code
decimal_known a e = rw e (or-true (leb 1 a && leb a 9))

pub in_table : (v a b : ℕ) → allowed v a b ≡ true → (known_code a ≡ true) × (known_code b ≡ true)
unfolding known_code
in_table v a b e =
    by_table _ v a b e
    (λ t.
    both (known_code a) (known_code b)
    (step_passes (λ s. known_code s.old && known_code s.new) v a b promotions refl t))
    (λ d. let g = digits a b d in (decimal_known a g.old, decimal_known b g.new))

pub not_to_itself : (v a : ℕ) → allowed v a a ≡ true → ⊥
not_to_itself v a e = let r = rises v a a e in omega arith

pub chain_rises : (a b : ℕ) → Chain a b → a < b
chain_rises a b (one_step v e) = rises v a b e
chain_rises a b (more_steps {next = c} v e l) =
    let r = rises v a c e in
    let s = chain_rises c b l in
    omega arith

-- Widenings, each a step from the code before it, lead up.
pub stepwise_rises : (code : ℕ) (ws : List Widening) → Stepwise code ws → OnlyRises code (last_of code (map (λ w. w.code) ws))
stepwise_rises code [] h = record { not_lower = omega arith; by_steps = inl refl }
stepwise_rises code (w ∷ ws) h =
    let later = stepwise_rises w.code ws h.1 in
    record {
      not_lower =
          let r = rises w.version code w.code h.0 in
          let s = later.not_lower in
          omega arith;
      by_steps =
          inr
          (⊎_elim (λ e. one_step w.version (rw (← e) h.0)) (more_steps w.version h.0) later.by_steps);
    }

pub never_back : (a : ℕ) → Chain a a → ⊥
never_back a l = let r = chain_rises a a l in omega arith
