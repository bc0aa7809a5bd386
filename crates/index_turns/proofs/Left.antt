-- What is left of an asked name behind the names above tells whether a name is it.
use mathlib.Core.Path.{◌≡◌, refl}
use mathlib.Core.Bool.{Bool, true, false, ◌&&◌, cond}
use mathlib.Core.List.{List, [], ◌∷◌, ◌++◌}
use mathlib.Core.Option.{none}
use Prim.Native.Nat.{ℕ}
use lib.Dec.{eqb}
use Rattle.paper.specs.Answer.{same, among}
use Rattle.paper.specs.Rows.{dotted}
use Rattle.laws.proofs.Basics.{neither}
use Rattle.index_turns.specs.Turn.{strip, then_strip, left_is, inside}

pub same_strip : (p y x : List ℕ) → same (p ++ y) x ≡ left_is (strip p x) y
same_strip [] y x = refl
same_strip (a ∷ p) y [] = refl
same_strip (a ∷ p) y (b ∷ x) = go (eqb a b) (same_strip p y x)
  where
    go : (t : Bool) → same (p ++ y) x ≡ left_is (strip p x) y → (t && same (p ++ y) x) ≡ left_is (cond t (strip p x) none) y
    go true e = e
    go false e = refl

strip_append : (p q x : List ℕ) → strip (p ++ q) x ≡ then_strip (strip p x) q
strip_append [] q x = refl
strip_append (a ∷ p) q [] = refl
strip_append (a ∷ p) q (b ∷ x) = go (eqb a b) (strip_append p q x)
  where
    go : (t : Bool) → strip (p ++ q) x ≡ then_strip (strip p x) q → cond t (strip (p ++ q) x) none ≡ then_strip (cond t (strip p x) none) q
    go true e = e
    go false e = refl

pub strip_below : (b : Bool) (p y x : List ℕ) → strip (cond b p (dotted p y)) x ≡ inside b (strip p x) y
strip_below true p y x = refl
strip_below false p y x = strip_append p (y ++ (46 ∷ [])) x

-- A name without a dot goes on in no record.
pub undotted : (p y : List ℕ) → among 46 y ≡ false → strip (p ++ (46 ∷ [])) y ≡ none
undotted [] [] e = refl
undotted [] (b ∷ y) e = rw (neither (eqb 46 b) (among 46 y) e).0
undotted (a ∷ p) [] e = refl
undotted (a ∷ p) (b ∷ y) e = go (eqb a b) (undotted p y (neither (eqb 46 b) (among 46 y) e).1)
  where
    go : (t : Bool) → strip (p ++ (46 ∷ [])) y ≡ none → cond t (strip (p ++ (46 ∷ [])) y) none ≡ none
    go true h = h
    go false h = refl
