-- The code is the definition.
use Rattle.paper.specs.Limits.{room}
use Rattle.record_limits.proofs.room.Goals as goal

pub returns : goal.returns
unfolding room
returns c = cc
