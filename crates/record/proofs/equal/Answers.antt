-- Up to the place reached the two are the same, so what is left decides.
use Rattle.record.proofs.Comparing.{comparing}
use Rattle.std.proofs.Common.{rules}
use Rattle.record.proofs.equal.Goals as goal

pub returns-then-n-b : goal.returns-then-n-b
returns-then-n-b c = search (comparing, rules)

pub returns-then-a-n : goal.returns-then-a-n
returns-then-a-n c = search (comparing, rules)
