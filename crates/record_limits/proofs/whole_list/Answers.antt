-- The code is the definition.
use Rattle.paper.specs.Limits.{whole}
use Rattle.record_limits.proofs.whole_list.Goals as goal

pub returns : goal.returns
unfolding whole
returns c = cc
