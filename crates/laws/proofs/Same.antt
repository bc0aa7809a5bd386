-- `same` tells equal lists: it holds of them and of no others.
use Prim.Native.Nat.{ℕ}
use mathlib.Core.Path.{◌≡◌, refl, sym}
use mathlib.Core.Bool.{Bool, true, false, ◌&&◌, true≢false}
use mathlib.Core.List.{List, [], ◌∷◌}
use lib.Dec.{eqb}
use borrow.Author.Tests.{eqb-true, eq-eqb}
use Rattle.paper.specs.Answer.{same}

pub same_self : (x : List ℕ) → same x x ≡ true
same_self [] = refl
same_self (a ∷ x) = rw (eq-eqb a a refl) (same_self x)

pub same_true : (x y : List ℕ) → same x y ≡ true → x ≡ y
same_true [] [] e = refl
same_true [] (b ∷ y) e = absurd (true≢false (sym e))
same_true (a ∷ x) [] e = absurd (true≢false (sym e))
same_true (a ∷ x) (b ∷ y) e = go (eqb a b) refl (same_true x y) e
  where
    go : (t : Bool) → eqb a b ≡ t → (same x y ≡ true → x ≡ y) → (t && same x y) ≡ true → (a ∷ x) ≡ (b ∷ y)
    go true q f h = rw (eqb-true a b q, f h)
    go false q f h = absurd (true≢false (sym h))

pub same_is : (x y : List ℕ) → x ≡ y → same x y ≡ true
same_is x y e = rw e (same_self y)

pub differ : (x y : List ℕ) → (x ≡ y → ⊥) → same x y ≡ false
differ x y h = go (same x y) refl
  where
    go : (t : Bool) → same x y ≡ t → t ≡ false
    go true e = absurd (h (same_true x y e))
    go false e = refl
