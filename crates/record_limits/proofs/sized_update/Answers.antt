-- The code is the definition.
use Rattle.paper.specs.Limits.{sized_update}
use Rattle.record_limits.proofs.sized_update.Goals as goal

pub returns : goal.returns
unfolding sized_update
returns c = record { says = λ last version room_records room_names. cc }
