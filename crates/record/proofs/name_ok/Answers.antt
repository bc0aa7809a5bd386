-- The code is the definition; a sum of 32 and 8 bits fits.
use Rattle.paper.specs.Bytes.{in_pool}
use Rattle.record.proofs.name_ok.Goals as goal

pub returns : goal.returns
unfolding in_pool
returns c = cc
