-- The sum modulo 2^32 is the definition of `turned`. Assumes nothing.
use Rattle.std.proofs.Common.{rules}
use Rattle.paper.specs.Bytes.{turned}
use Rattle.record.proofs.turn.Goals as goal

pub returns : goal.returns
unfolding turned
returns c = search rules
