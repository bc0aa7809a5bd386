-- The part of the entry up to refusal 6.
use Rattle.std.specs.Prelude.{ℕ, ◌&&◌, List, leb, length}
use Rattle.paper.specs.Answer.{Answer, ◌>>◌}
use Rattle.paper.specs.Refusals.{roomy, limited}
use Rattle.paper.specs.Forest.{Forest}
use Rattle.paper.specs.Field.{Field}
use Rattle.paper.specs.Decode.{decode}
use Rattle.paper.specs.Limits.{room, sized_ids}

unfoldable pub opened : (records pool identifiers : List ℕ) (room_records room_names room_identifiers : ℕ)
    → Answer (Forest Field)
opened records pool identifiers room_records room_names room_identifiers = do
  roomy (room room_records room_names && leb (length identifiers) room_identifiers)
  limited (sized_ids 64 records pool identifiers)
  decode 0 records pool
