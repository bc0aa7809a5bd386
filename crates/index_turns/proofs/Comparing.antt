-- Two names once they are folded: up to the place reached they are the same, so what is left decides. `search folding`, `search
-- comparing`.
use mathlib.Core.Path.{◌≡◌, refl, sym, ◌∙◌}
use mathlib.Core.Bool.{Bool, true, false, not, ◌&&◌}
use mathlib.Core.List.{List}
use Prim.Native.Nat.{ℕ, ◌+◌, ◌-◌, ◌<◌, ◌≤◌}
use native.Mathlib.Numerals.{add-one}
use native.Mathlib.Omega.{arith}
use borrow.Author.Tests.{eqb-false, leb-true, leb-false, not-true}
use lib.Dec.{eqb, leb}
use lib.ListN.{length, get_or, drop, drop_of_length-le}
use lib.Seq.{drop-cons}
use Rattle.std.specs.Char.{to_ascii_lowercase}
use Rattle.paper.specs.Answer.{same}
use Rattle.paper.specs.Folded.{fold, folded}
use Rattle.laws.proofs.Folding.{fold_low, fold_high, fold_letter, folded_length, folded_at}
use Rattle.std.proofs.lemmas.Str.Ascii.{lowercase_is}
use Rattle.record.proofs.Comparing.{same_apart, same_last}
use Rattle.index_turns.specs.Turn.{spelt}

pub fold_is : (x : ℕ) → to_ascii_lowercase x ≡ fold x
fold_is x = low (leb 65 x) refl
  where
    high : (b : Bool) → leb x 90 ≡ b → 65 ≤ x → to_ascii_lowercase x ≡ fold x
    high true e l = let h = leb-true x 90 e in (lowercase_is x).0 (l, h) ∙ sym (fold_letter x l h)
    high false e l = let h = leb-false x 90 e in (lowercase_is x).2 h ∙ sym (fold_high x h)

    low : (b : Bool) → leb 65 x ≡ b → to_ascii_lowercase x ≡ fold x
    low true e = high (leb x 90) refl (leb-true 65 x e)
    low false e = let h = leb-false 65 x e in (lowercase_is x).1 h ∙ sym (fold_low x h)

pub at_alike : (a b : List ℕ) (i x y : ℕ) → x ≡ fold (get_or a i 0) → y ≡ fold (get_or b i 0) → eqb x y ≡ eqb (get_or (folded a) i 0) (get_or (folded b) i 0)
at_alike a b i x y ex ey = rw (folded_at a i, folded_at b i, ex, ey)

pub ruleset folding = (fold_is, at_alike)

module _ (a b : List ℕ) where
  lengths : length a ≡ length b → length (folded a) ≡ length (folded b)
  lengths q = folded_length a ∙ q ∙ sym (folded_length b)

  pub folded_apart : (length a ≡ length b → ⊥) → false ≡ same (folded a) (folded b)
  folded_apart h = same_apart (folded a) (folded b) (λ q. h (sym (folded_length a) ∙ q ∙ folded_length b))

  pub folded_last : (t : Bool) → 0 < length a → t ≡ eqb (get_or (folded a) (length a - 1) 0) (get_or (folded b) (length a - 1) 0) → not t ≡ true → false ≡ same (folded a) (folded b)
  folded_last t l et q = same_last (folded a) (folded b) (length a) (sym (folded_length a)) l (eqb-false _ _ (sym et ∙ not-true t q))

  pub folded_starts : same (folded a) (folded b) ≡ (true && same (drop 0 (folded a)) (drop 0 (folded b)))
  folded_starts = refl

  module _ (W so_far : Bool) (i : ℕ) (e : W ≡ (so_far && same (drop i (folded a)) (drop i (folded b)))) where
    pub folded_goes : (t : Bool) → i < length a → length a ≡ length b → t ≡ eqb (get_or (folded a) i 0) (get_or (folded b) i 0) → W ≡ ((so_far && t) && same (drop (i + 1) (folded a)) (drop (i + 1) (folded b)))
    folded_goes t l q et =
        e ∙ rw (add-one i, drop-cons (folded a) i 0 (omega (arith, folded_length a)), drop-cons (folded b) i 0 (omega (arith, folded_length b)), et) (go so_far _ _)
      where
        go : (s x y : Bool) → (s && (x && y)) ≡ ((s && x) && y)
        go true x y = refl
        go false x y = refl

    pub folded_ends : length a ≤ i → length a ≡ length b → so_far ≡ W
    folded_ends l q =
        let la : length (folded a) ≤ i = omega (arith, folded_length a) in
        let lb : length (folded b) ≤ i = omega (arith, folded_length b) in
        sym (e ∙ rw (drop_of_length-le (folded a) la, drop_of_length-le (folded b) lb) (go so_far))
      where
        go : (s : Bool) → (s && true) ≡ s
        go true = refl
        go false = refl

-- ---- the one comparison

pub alike_folded : (b r : Bool) (x y : List ℕ) → b ≡ true → r ≡ same (folded x) (folded y) → r ≡ same (spelt b x) (spelt b y)
unfolding spelt
alike_folded b r x y e h = rw e h

pub alike_exact : (b r : Bool) (x y : List ℕ) → b ≡ false → r ≡ same x y → r ≡ same (spelt b x) (spelt b y)
unfolding spelt
alike_exact b r x y e h = rw e h

pub ruleset comparing = (folded_apart, folded_last, folded_starts, folded_goes, folded_ends, alike_folded, alike_exact)
