-- What the low 32 bits leave out is a multiple of 2^32.
use Rattle.std.proofs.Common.{rules}
use Rattle.paper.specs.Bytes.{turned}
use Rattle.record.proofs.turn_back.Goals as goal

pub returns : goal.returns
unfolding turned
returns c = search rules
