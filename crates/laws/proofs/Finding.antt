-- The first place at which a test holds, over the values of a function.
use Prim.Native.Nat.{ℕ, zero, suc, ◌+◌, ◌≤◌, ◌<◌}
use mathlib.Core.Path.{◌≡◌, refl, sym, ap, subst, ◌∙◌}
use mathlib.Core.Logic.{◌⊎◌, inl, inr, ⊎_elim}
use mathlib.Core.Bool.{Bool, true, false, ◌||◌, cond}
use mathlib.Core.List.{[]}
use mathlib.Core.Option.{none, some}
use native.Mathlib.Nat.{add-zero}
use native.Mathlib.Omega.{arith}
use lib.Dec.{eqb, ltb}
use borrow.Author.Tests.{eqb-true, eqb-false, eq-eqb, ne_eqb, ltb-true, ltb-false}
use Rattle.paper.specs.Answer.{any, place_of, repeated}
use Rattle.paper.specs.Bytes.{from}
use Rattle.paper.specs.Renumber.{renamed}
use Rattle.laws.specs.Members.{◌∈◌}
use Rattle.laws.proofs.Basics.{none≢some, some_is, Distinct, none_twice, eqb_self}

same_or_more : (j i : ℕ) → j ≤ i → (i ≡ j) ⊎ (suc j ≤ i)
same_or_more j i l = go (eqb i j) refl
  where
    go : (b : Bool) → eqb i j ≡ b → (i ≡ j) ⊎ (suc j ≤ i)
    go true e = inl (eqb-true i j e)
    go false e = let w = eqb-false i j e in inr (omega arith)

module _ {A : Type 0} (t : A → Bool) (f : ℕ → A) where
  -- it holds at none
  pub place_none : (j m : ℕ) → place_of t j (from f j m) ≡ none → (i : ℕ) → j ≤ i → i < j + m → t (f i) ≡ false
  unfolding from
  place_none j zero e i l h = absurd (omega arith)
  place_none j (suc m) e i l h = go (t (f j)) refl e (place_none (suc j) m)
    where
      go : (b : Bool) → t (f j) ≡ b → cond b (some j) (place_of t (suc j) (from f (suc j) m)) ≡ none
          → (place_of t (suc j) (from f (suc j) m) ≡ none → (i : ℕ) → suc j ≤ i → i < suc j + m → t (f i) ≡ false) → t (f i) ≡ false
      go true q d ih = absurd (none≢some (sym d))
      go false q d ih = ⊎_elim (λ w. ap (λ (z : ℕ). t (f z)) w ∙ q) (λ w. ih d i w (omega arith)) (same_or_more j i l)

  -- it holds at the place that was found
  pub place_some : (j m k : ℕ) → place_of t j (from f j m) ≡ some k → (t (f k) ≡ true) × (j ≤ k) × (k < j + m)
  unfolding from
  place_some j zero k e = absurd (none≢some e)
  place_some j (suc m) k e = go (t (f j)) refl e (place_some (suc j) m k)
    where
      go : (b : Bool) → t (f j) ≡ b → cond b (some j) (place_of t (suc j) (from f (suc j) m)) ≡ some k
          → (place_of t (suc j) (from f (suc j) m) ≡ some k → (t (f k) ≡ true) × (suc j ≤ k) × (k < suc j + m)) → (t (f k) ≡ true) × (j ≤ k) × (k < j + suc m)
      go true q d ih = let w : j ≡ k = some_is d in (subst (λ (z : ℕ). t (f z) ≡ true) w q, omega arith, omega arith)
      go false q d ih = let r = ih d in (r.0, (let w = r.1 in omega arith), (let w = r.2 in omega arith))

  pub any_more : (j m : ℕ) → any t (from f j (m + 1)) ≡ (any t (from f j m) || t (f (j + m)))
  unfolding from
  any_more j zero = rw (add-zero j) (or_false (t (f j)))
    where
      or_false : (b : Bool) → (b || false) ≡ b
      or_false true = refl
      or_false false = refl
  any_more j (suc m) =
      let e : suc m + 1 ≡ suc (m + 1) = omega arith in
      let d : j + suc m ≡ suc j + m = omega arith in
      rw (e, d) (or_assoc (t (f j)) _ (any t (from f (suc j) m)) (t (f (suc j + m))) (any_more (suc j) m))
    where
      or_assoc : (b x y z : Bool) → x ≡ (y || z) → (b || x) ≡ ((b || y) || z)
      or_assoc true x y z e = refl
      or_assoc false x y z e = e

-- ---- distinct values

pub in_from : (f : ℕ → ℕ) (j m i : ℕ) → j ≤ i → i < j + m → f i ∈ from f j m
unfolding from
in_from f j zero i l h = absurd (omega arith)
in_from f j (suc m) i l h = ⊎_elim (λ w. inl (ap f w)) (λ w. inr (in_from f (suc j) m i w (omega arith))) (same_or_more j i l)

distinct_at : (f : ℕ → ℕ) (j m : ℕ) → Distinct (from f j m) → (a b : ℕ) → j ≤ a → a < b → b < j + m → f a ≡ f b → ⊥
unfolding from
distinct_at f j zero d a b l h g e = omega arith
distinct_at f j (suc m) d a b l h g e =
    ⊎_elim (λ w. d.0 (subst (λ z. z ∈ from f (suc j) m) (sym e ∙ ap f w) (in_from f (suc j) m b (omega arith) (omega arith)))) (λ w. distinct_at f (suc j) m d.1 a b w h (omega arith) e) (same_or_more j a l)

either : (a b : ℕ) → (a ≡ b → ⊥) → (a < b) ⊎ (b < a)
either a b n = go (ltb a b) refl
  where
    go : (t : Bool) → ltb a b ≡ t → (a < b) ⊎ (b < a)
    go true e = inl (ltb-true a b e)
    go false e = let w = ltb-false a b e in inr (omega arith)

-- Where no value equals an earlier one, equal values stand at one place.
pub one_place : (f : ℕ → ℕ) (m : ℕ) → repeated eqb [] 0 (from f 0 m) ≡ none → (a b : ℕ) → a < m → b < m → f a ≡ f b → a ≡ b
one_place f m e a b la lb q =
    let d = none_twice eqb eqb_self 0 (from f 0 m) e in
    go (eqb a b) refl d
  where
    go : (t : Bool) → eqb a b ≡ t → Distinct (from f 0 m) → a ≡ b
    go true w d = eqb-true a b w
    go false w d = let n = eqb-false a b w in ⊎_elim (λ l. absurd (distinct_at f 0 m d a b (omega arith) l (omega arith) q)) (λ l. absurd (distinct_at f 0 m d b a (omega arith) l (omega arith) (sym q))) (either a b n)

pub eqb_flip : (a b : ℕ) → eqb a b ≡ eqb b a
eqb_flip a b = go (eqb a b) refl
  where
    go : (t : Bool) → eqb a b ≡ t → t ≡ eqb b a
    go true e = sym (eq-eqb b a (sym (eqb-true a b e)))
    go false e = sym (ne_eqb b a (λ q. eqb-false a b e (sym q)))

-- The id in the second list where v stands in the first.
pub renamed_at : (f g : ℕ → ℕ) (v j m k : ℕ) → place_of (eqb v) j (from f j m) ≡ some k → renamed (from f j m) (from g j m) v ≡ g k
unfolding from
renamed_at f g v j zero k e = absurd (none≢some e)
renamed_at f g v j (suc m) k e = go (eqb v (f j)) refl e (renamed_at f g v (suc j) m k)
  where
    go : (b : Bool) → eqb v (f j) ≡ b → cond b (some j) (place_of (eqb v) (suc j) (from f (suc j) m)) ≡ some k
        → (place_of (eqb v) (suc j) (from f (suc j) m) ≡ some k → renamed (from f (suc j) m) (from g (suc j) m) v ≡ g k) → cond (eqb (f j) v) (g j) (renamed (from f (suc j) m) (from g (suc j) m) v) ≡ g k
    go true q d ih = rw (eqb_flip (f j) v, q) (ap g (some_is d))
    go false q d ih = rw (eqb_flip (f j) v, q) (ih d)
