-- Numbers in a row, and how often one stands in a list.
use Rattle.std.specs.Prelude.{ℕ, zero, suc, ◌+◌, cond, List, [], ◌∷◌, eqb}

-- So many numbers, from a start on.
abbrev pub range : (start many : ℕ) → List ℕ
range start zero = []
range start (suc many) = start ∷ range (suc start) many

abbrev pub tally : ℕ → List ℕ → ℕ
tally x [] = 0
tally x (y ∷ s) = cond (eqb x y) 1 0 + tally x s
