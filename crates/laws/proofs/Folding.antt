-- Folding keeps each byte's place; a folded byte folds to itself; no other byte folds to a dot, and a dot to no other.
use mathlib.Core.Path.{◌≡◌, refl, sym, ap, ◌∙◌}
use mathlib.Core.Logic.{◌⊎◌, inl, inr, ⊎_elim}
use mathlib.Core.Bool.{Bool, true, false}
use mathlib.Core.List.{List, [], ◌∷◌, ◌++◌}
use Prim.Native.Nat.{ℕ, zero, suc, ◌+◌, ◌<◌, ◌≤◌}
use native.Mathlib.Omega.{arith}
use borrow.Author.Tests.{ne_eqb, le-leb, lt-leb, leb-true, leb-false}
use lib.Dec.{eqb, leb}
use lib.ListN.{length, get_or, take, drop}
use Rattle.paper.specs.Answer.{among}
use Rattle.paper.specs.Folded.{fold, folded}
use Rattle.paper.specs.Rows.{dotted}

-- ---- a byte

pub fold_low : (x : ℕ) → x < 65 → fold x ≡ x
unfolding fold
fold_low x l = rw (lt-leb 65 x l)

pub fold_high : (x : ℕ) → 90 < x → fold x ≡ x
unfolding fold
fold_high x l = rw (le-leb 65 x (omega arith), lt-leb x 90 l)

pub fold_letter : (x : ℕ) → 65 ≤ x → x ≤ 90 → fold x ≡ x + 32
unfolding fold
fold_letter x l h = rw (le-leb 65 x l, le-leb x 90 h)

-- A byte that folds to itself, or a letter.
pub folds : (x : ℕ) → (fold x ≡ x) ⊎ ((65 ≤ x) × ((x ≤ 90) × (fold x ≡ x + 32)))
folds x = low (leb 65 x) refl
  where
    high : (b : Bool) → leb x 90 ≡ b → 65 ≤ x → (fold x ≡ x) ⊎ ((65 ≤ x) × ((x ≤ 90) × (fold x ≡ x + 32)))
    high true e l = let h = leb-true x 90 e in inr (l, (h, fold_letter x l h))
    high false e l = inl (fold_high x (leb-false x 90 e))

    low : (b : Bool) → leb 65 x ≡ b → (fold x ≡ x) ⊎ ((65 ≤ x) × ((x ≤ 90) × (fold x ≡ x + 32)))
    low true e = high (leb x 90) refl (leb-true 65 x e)
    low false e = inl (fold_low x (leb-false 65 x e))

pub fold_twice : (x : ℕ) → fold (fold x) ≡ fold x
fold_twice x = ⊎_elim (λ e. ap fold e) (λ h. ap fold h.1.1 ∙ fold_high (x + 32) (let l = h.0 in omega arith) ∙ sym h.1.1) (folds x)

pub fold_dot : (x : ℕ) → eqb (fold x) 46 ≡ eqb x 46
fold_dot x = ⊎_elim (λ e. ap (λ (i : ℕ). eqb i 46) e) (λ h. let l = h.0 in ap (λ (i : ℕ). eqb i 46) h.1.1 ∙ ne_eqb (x + 32) 46 (λ z. omega arith) ∙ sym (ne_eqb x 46 (λ z. omega arith))) (folds x)

pub dot_fold : (x : ℕ) → eqb 46 (fold x) ≡ eqb 46 x
dot_fold x = ⊎_elim (λ e. ap (eqb 46) e) (λ h. let l = h.0 in ap (eqb 46) h.1.1 ∙ ne_eqb 46 (x + 32) (λ z. omega arith) ∙ sym (ne_eqb 46 x (λ z. omega arith))) (folds x)

-- ---- a name

pub folded_length : (x : List ℕ) → length (folded x) ≡ length x
unfolding folded
folded_length [] = refl
folded_length (a ∷ x) = ap suc (folded_length x)

pub folded_append : (x y : List ℕ) → folded (x ++ y) ≡ folded x ++ folded y
unfolding folded
folded_append [] y = refl
folded_append (a ∷ x) y = ap (λ z. fold a ∷ z) (folded_append x y)

pub folded_twice : (x : List ℕ) → folded (folded x) ≡ folded x
unfolding folded
folded_twice [] = refl
folded_twice (a ∷ x) = rw (fold_twice a, folded_twice x)

pub folded_dotted : (x y : List ℕ) → folded (dotted x y) ≡ dotted (folded x) (folded y)
unfolding folded fold
folded_dotted x y = folded_append x (y ++ (46 ∷ [])) ∙ ap (λ z. folded x ++ z) (folded_append y (46 ∷ []))

pub folded_dots : (x : List ℕ) → among 46 (folded x) ≡ among 46 x
unfolding folded
folded_dots [] = refl
folded_dots (a ∷ x) = rw (dot_fold a, folded_dots x)

pub folded_take : (n : ℕ) (x : List ℕ) → take n (folded x) ≡ folded (take n x)
unfolding folded
folded_take zero x = refl
folded_take (suc n) [] = refl
folded_take (suc n) (a ∷ x) = ap (λ z. fold a ∷ z) (folded_take n x)

pub folded_drop : (n : ℕ) (x : List ℕ) → drop n (folded x) ≡ folded (drop n x)
unfolding folded
folded_drop zero x = refl
folded_drop (suc n) [] = refl
folded_drop (suc n) (a ∷ x) = folded_drop n x

pub folded_at : (x : List ℕ) (k : ℕ) → get_or (folded x) k 0 ≡ fold (get_or x k 0)
unfolding folded fold
folded_at [] k = refl
folded_at (a ∷ x) zero = refl
folded_at (a ∷ x) (suc k) = folded_at x k
