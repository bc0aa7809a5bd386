-- The code is the definition.
use Rattle.paper.specs.Limits.{sized_ids}
use Rattle.record_limits.proofs.sized_ids.Goals as goal

pub returns : goal.returns
unfolding sized_ids
returns g c = cc
