-- A tree that is only read: refusal 2, then 3 to 6.
use Rattle.std.specs.Prelude.{ℕ, List}
use Rattle.paper.specs.Answer.{Answer, ◌>>◌}
use Rattle.paper.specs.Refusals.{limited}
use Rattle.paper.specs.Forest.{Forest}
use Rattle.paper.specs.Field.{Field}
use Rattle.paper.specs.Limits.{sized}
use Rattle.paper.specs.Decode.{decode}

unfoldable pub only_read : (records pool : List ℕ) → Answer (Forest Field)
only_read records pool = do
  limited (sized records pool)
  decode 0 records pool
