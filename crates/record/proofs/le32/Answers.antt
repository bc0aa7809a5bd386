-- The definition is opened at the return; the rest is arithmetic.
use Rattle.std.proofs.Common.{rules}
use Rattle.paper.specs.Bytes.{word16, word32}
use Rattle.record.proofs.le32.Goals as goal

pub returns : goal.returns
unfolding word16 word32
returns c = search rules
