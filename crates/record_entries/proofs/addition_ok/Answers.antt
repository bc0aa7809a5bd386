-- The code is the definition.
use Rattle.paper.specs.Lists.{ok_addition}
use Rattle.record_entries.proofs.addition_ok.Goals as goal

pub returns : goal.returns
unfolding ok_addition
returns c = cc
