-- The code is the definition; a sum of 32 and 16 bits fits.
use Rattle.paper.specs.Lists.{path_in}
use Rattle.record_entries.proofs.path_ok.Goals as goal

pub returns : goal.returns
unfolding path_in
returns c = cc
