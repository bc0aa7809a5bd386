-- What is left of the lengths gives the whole sum; a name has at most 255 bytes, so it cannot wrap.
use Rattle.plan.proofs.Summing.{summing}
use borrow.Author.Rules.{rules}
use Rattle.plan.proofs.names_fit.Goals as goal

pub loop-i-preserved : goal.loop-i-preserved
loop-i-preserved c = search (summing, rules)

pub returns : goal.returns
returns c = search (summing, rules)
