-- Up to the place reached it is known whether the two fold to the same, so what is left decides the rest.
use Rattle.index_turns.proofs.Comparing.{comparing}
use borrow.Author.Rules.{rules}
use Rattle.index_turns.proofs.equal_folded.Goals as goal

pub returns-then-n-b : goal.returns-then-n-b
returns-then-n-b c = search (comparing, rules)

pub returns-then-not-alike_at : goal.returns-then-not-alike_at
returns-then-not-alike_at c = search (comparing, rules)

pub loop-i-preserved : goal.loop-i-preserved
loop-i-preserved c = search (comparing, rules)

pub returns : goal.returns
returns c = search (comparing, rules)
