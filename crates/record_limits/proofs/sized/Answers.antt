-- The code is the definition.
use Rattle.paper.specs.Limits.{sized, pool_sized}
use Rattle.record_limits.proofs.sized.Goals as goal

pub returns : goal.returns
unfolding sized pool_sized
returns c = cc
