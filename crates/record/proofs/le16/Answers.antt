-- The definition is opened at the return; the rest is arithmetic.
use Rattle.std.proofs.Common.{rules}
use Rattle.paper.specs.Bytes.{word16}
use Rattle.record.proofs.le16.Goals as goal

pub returns : goal.returns
unfolding word16
returns c = search rules
