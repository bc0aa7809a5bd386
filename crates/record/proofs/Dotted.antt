-- Whether a name has a dot, byte by byte: `search dotting`.
use Rattle.std.proofs.Common.{◌≡◌, ℕ, ◌+◌, ◌<◌, ◌≤◌, Bool, true, false, List, length, get_or, drop, sym, ◌∙◌, add-one, drop_of_length-le, drop-cons, eq-eqb, ne_eqb}
use Rattle.paper.specs.Answer.{among}

module _ (W : Bool) (x : List ℕ) (i : ℕ) (h : W ≡ among 46 (drop i x)) where
  pub dot_goes : i < length x → (get_or x i 0 ≡ 46 → ⊥) → W ≡ among 46 (drop (i + 1) x)
  dot_goes l d = h ∙ rw (add-one i, drop-cons x i 0 l, ne_eqb 46 (get_or x i 0) (λ z. d (sym z)))

  pub dot_stops : i < length x → get_or x i 0 ≡ 46 → true ≡ W
  dot_stops l d = sym (h ∙ rw (drop-cons x i 0 l, eq-eqb 46 (get_or x i 0) (sym d)))

  pub dot_ends : length x ≤ i → false ≡ W
  dot_ends l = sym (h ∙ rw (drop_of_length-le x l))

pub ruleset dotting = (dot_goes, dot_stops, dot_ends)
