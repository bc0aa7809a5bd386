-- Comparing two parts byte by byte: `search comparing`.
use Rattle.std.proofs.Common.{◌≡◌, ℕ, zero, suc, ◌+◌, ◌-◌, ◌<◌, ◌≤◌, Bool, true, false, ◌&&◌, eqb, List, [], ◌∷◌, length, get_or, drop, sym, refl, ap, ◌∙◌, add-one, arith, drop-cons, eq-eqb, ne_eqb}
use lib.Seq.{drop-length}
use Rattle.paper.specs.Answer.{same}

and_false : (t b : Bool) → false ≡ b → false ≡ (t && b)
and_false true b e = e
and_false false b e = refl

pub same_apart : (a b : List ℕ) → (length a ≡ length b → ⊥) → false ≡ same a b
same_apart [] [] h = absurd (h refl)
same_apart [] (y ∷ ys) h = refl
same_apart (x ∷ xs) [] h = refl
same_apart (x ∷ xs) (y ∷ ys) h = and_false (eqb x y) (same xs ys) (same_apart xs ys (λ e. h (ap suc e)))

-- one byte that differs is enough
same_not : (a b : List ℕ) (k : ℕ) → k < length a → (get_or a k 0 ≡ get_or b k 0 → ⊥) → false ≡ same a b
same_not [] b k l d = absurd (omega arith)
same_not (x ∷ xs) [] k l d = refl
same_not (x ∷ xs) (y ∷ ys) zero l d = rw (ne_eqb x y d)
same_not (x ∷ xs) (y ∷ ys) (suc k) l d = and_false (eqb x y) (same xs ys) (same_not xs ys k (omega arith) d)

pub same_last : (a b : List ℕ) (n : ℕ) → n ≡ length a → 0 < n → (get_or a (n - 1) 0 ≡ get_or b (n - 1) 0 → ⊥) → false ≡ same a b
same_last a b n e l d = same_not a b (n - 1) (omega arith) d

same_self : (a : List ℕ) → true ≡ same a a
same_self [] = refl
same_self (x ∷ xs) = rw (eq-eqb x x refl) (same_self xs)

module _ (W : Bool) (a b : List ℕ) (i n : ℕ) (en : n ≡ length a) (e : W ≡ same (drop i a) (drop i b)) where
  pub same_goes : i < n → length a ≡ length b → get_or a i 0 ≡ get_or b i 0 → W ≡ same (drop (i + 1) a) (drop (i + 1) b)
  same_goes l q d = e ∙ rw (add-one i, drop-cons a i 0 (omega arith), drop-cons b i 0 (omega arith), d, eq-eqb (get_or b i 0) (get_or b i 0) refl)

  pub same_stops : i < n → length a ≡ length b → (get_or a i 0 ≡ get_or b i 0 → ⊥) → false ≡ W
  same_stops l q d = sym (e ∙ rw (drop-cons a i 0 (omega arith), drop-cons b i 0 (omega arith), ne_eqb (get_or a i 0) (get_or b i 0) d))

  pub same_ends : n ≤ i → i ≤ n → length a ≡ length b → true ≡ W
  same_ends l l' q = let d : i ≡ length a = omega arith in let d' : i ≡ length b = omega arith in sym (e ∙ ap (λ (z : List ℕ). same z (drop i b)) (ap (λ (z : ℕ). drop z a) d ∙ drop-length a) ∙ ap (λ (z : List ℕ). same [] z) (ap (λ (z : ℕ). drop z b) d' ∙ drop-length b))

pub ruleset comparing = (same_apart, same_last, same_goes, same_stops, same_ends)
