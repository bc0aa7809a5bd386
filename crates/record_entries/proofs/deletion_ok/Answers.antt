-- The code is the definition.
use Rattle.paper.specs.Lists.{ok_deletion}
use Rattle.record_entries.proofs.deletion_ok.Goals as goal

pub returns : goal.returns
unfolding ok_deletion
returns c = cc
