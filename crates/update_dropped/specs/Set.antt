-- What a set of ids holds: the first n of its 64 numbers.
use Rattle.std.specs.Prelude.{◌≡◌, ◌||◌, List, map, ℕ, ◌+◌, ◌≤◌, eqb, take}
use Rattle.paper.specs.Answer.{among}
use Rattle.paper.specs.Bytes.{turned}
use Rattle.update_dropped.specs.declared.Dropped.{Dropped}

-- The 32 bits of the ids that it holds, and the ids as the paper has them.
abbrev pub elems : Dropped → List ℕ
elems s = take s.n s.ids

unfoldable pub dropped_ids : Dropped → List ℕ
dropped_ids s = map turned (elems s)

-- How many they are.
abbrev pub count : Dropped → ℕ
count s = s.n

-- r is s with the id of 32 bits x.
pub record Inserted (x : ℕ) (s r : Dropped) : Type 0 where
  pub few : count r ≤ count s + 1
  pub holds : (i : ℕ) → among i (dropped_ids r) ≡ (eqb i (turned x) || among i (dropped_ids s))
