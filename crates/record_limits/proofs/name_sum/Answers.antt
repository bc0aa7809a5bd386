-- What is summed and what is left make the whole sum.
use Rattle.record_limits.proofs.Summing.{summing}
use borrow.Author.Rules.{rules}
use Rattle.record_limits.proofs.name_sum.Goals as goal

pub loop-i-preserved : goal.loop-i-preserved
loop-i-preserved c = search (summing, rules)

pub returns : goal.returns
returns c = search (summing, rules)
