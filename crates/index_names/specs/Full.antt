-- Full names of the slots of a forest in slot order, and the place of the record above each: one more than its slot, 0 at a root.
use Rattle.std.specs.Prelude.{ℕ, zero, suc, List, [], ◌∷◌, ◌++◌, get_or}
use Rattle.paper.specs.Forest.{Forest, empty, node}
use Rattle.paper.specs.Rows.{dotted}

unfoldable pub fulls : (ℕ → List ℕ) → List ℕ → Forest ℕ → List (List ℕ)
fulls name pre empty = []
fulls name pre (node k m n) = (pre ++ name k) ∷ (fulls name (dotted pre (name k)) m ++ fulls name pre n)

unfoldable pub ups : ℕ → Forest ℕ → List ℕ
ups u empty = []
ups u (node k m n) = u ∷ (ups (suc k) m ++ ups u n)

-- The full name of a slot by the places above it, of which at most `steps` are gone up to.
abbrev pub under : (ℕ → List ℕ) → List ℕ → ℕ → List ℕ
under up name zero = name
under up name (suc p) = up p ++ (46 ∷ name)

unfoldable pub climbed : (ℕ → List ℕ) → List ℕ → ℕ → ℕ → List ℕ
climbed name us zero k = name k
climbed name us (suc steps) k = under (climbed name us steps) (name k) (get_or us k 0)

-- Places above fall, so k steps are enough.
unfoldable pub full_at : (ℕ → List ℕ) → List ℕ → ℕ → List ℕ
full_at name us k = climbed name us k k
