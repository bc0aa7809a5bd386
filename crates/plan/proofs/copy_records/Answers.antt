-- After i turns the first i records are planned.
use Rattle.plan.proofs.Taking.{copying}
use borrow.Author.Rules.{rules}
use Rattle.plan.proofs.copy_records.Goals as goal

pub loop-i-init : goal.loop-i-init
loop-i-init c = search (copying, rules)

pub loop-i-preserved : goal.loop-i-preserved
loop-i-preserved c = search (copying, rules)
