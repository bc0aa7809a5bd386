-- What is left to write gives the whole; each record has room, since a plan's records are within the limit.
use Rattle.plan_write.proofs.Writing.{rowing}
use borrow.Author.Rules.{rules}
use Rattle.plan_write.proofs.put_records.Goals as goal

pub loop-i-preserved : goal.loop-i-preserved
loop-i-preserved c = search (rowing, rules)

pub returns : goal.returns
returns c = search (rowing, rules)
