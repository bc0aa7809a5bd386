-- Which numbers are among those of a list.
use Prim.Native.Nat.{ℕ}
use mathlib.Core.Path.{◌≡◌, refl, sym, ap, ◌∙◌}
use mathlib.Core.Logic.{inl, inr}
use mathlib.Core.Bool.{Bool, true, false, ◌||◌, or_assoc, or-false}
use mathlib.Core.List.{List, [], ◌∷◌, ◌++◌, map}
use lib.Dec.{eqb}
use borrow.Author.Tests.{eq-eqb, ne_eqb, eqb-true, eqb-false}
use Rattle.paper.specs.Answer.{among}
use Rattle.laws.specs.Members.{◌∈◌}
use Rattle.laws.proofs.Basics.{Distinct, distinct_one, in_map}

pub among_append : (x : ℕ) (s t : List ℕ) → among x (s ++ t) ≡ (among x s || among x t)
among_append x [] t = refl
among_append x (y ∷ s) t = ap (λ (b : Bool). eqb x y || b) (among_append x s t) ∙ sym (or_assoc (eqb x y) (among x s) (among x t))

pub among_none : (x : ℕ) (s : List ℕ) → (x ∈ s → ⊥) → among x s ≡ false
among_none x [] f = refl
among_none x (y ∷ s) f = rw (ne_eqb x y (λ e. f (inl e)), among_none x s (λ h. f (inr h)))

pub among_left : (x : ℕ) (s t : List ℕ) → (x ∈ t → ⊥) → among x (s ++ t) ≡ among x s
among_left x s t f = rw (among_append x s t, among_none x t f) (or-false (among x s))

pub among_right : (x : ℕ) (s t : List ℕ) → (x ∈ s → ⊥) → among x (s ++ t) ≡ among x t
among_right x s t f = rw (among_append x s t, among_none x s f)

-- Where no value of g stands twice in s, what is asked of the values is asked of the elements.
module _ (g : ℕ → ℕ) (s : List ℕ) (d : Distinct (map g s)) where
  pub among_values : (x : ℕ) (t : List ℕ) → x ∈ s → ((y : ℕ) → y ∈ t → y ∈ s) → among (g x) (map g t) ≡ among x t
  among_values x [] h f = refl
  among_values x (y ∷ t) h f = rw (among_values x t h (λ z k. f z (inr k))) (ap (λ (b : Bool). b || among x t) (go (eqb x y) refl))
    where
      go : (b : Bool) → eqb x y ≡ b → eqb (g x) (g y) ≡ b
      go true e = eq-eqb (g x) (g y) (ap g (eqb-true x y e))
      go false e = ne_eqb (g x) (g y) (λ z. eqb-false x y e (distinct_one g s d x y h (f y (inl refl)) z))

pub distinct_values : {A B : Type 0} (g : A → B) (s : List A) → Distinct (map g s) → Distinct s
distinct_values g [] d = tt
distinct_values g (x ∷ s) d = (λ h. d.0 (in_map g x s h), distinct_values g s d.1)
