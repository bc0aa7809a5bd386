-- The code is the definition.
use Rattle.paper.specs.Lists.{ok_edit}
use Rattle.record_entries.proofs.edit_ok.Goals as goal

pub returns : goal.returns
unfolding ok_edit
returns c = cc
