-- The ids that stand in a row, as a set.
use Rattle.std.specs.Prelude.{ℕ, ◌≡◌, List, get_or}
use Rattle.paper.specs.Answer.{among}
use Rattle.paper.specs.Bytes.{turned, from}
use Rattle.update_dropped.specs.declared.Dropped.{Dropped}
use Rattle.update_dropped.specs.Set.{dropped_ids}

-- The first ids of a row, as the paper has them.
unfoldable pub row_ids : List ℕ → ℕ → List ℕ
row_ids row total = from (λ j. turned (get_or row j 0)) 0 total

pub record Gathered (row : List ℕ) (total : ℕ) (r : Dropped) : Type 0 where
  pub holds : (x : ℕ) → among x (dropped_ids r) ≡ among x (row_ids row total)
