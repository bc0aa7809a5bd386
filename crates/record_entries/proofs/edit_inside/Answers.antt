-- The code is the definition; sums of 32 and 16 or 8 bits fit.
use Rattle.paper.specs.Lists.{edit_in}
use Rattle.record_entries.proofs.edit_inside.Goals as goal

pub returns : goal.returns
unfolding edit_in
returns c = cc
