-- Each turn passes the question on to the place above, and levels are left as long as there is one.
use borrow.Author.Rules.{rules}
use Rattle.update_gone.proofs.Leaving.{leaving}
use Rattle.update_gone.proofs.is_gone.Goals as goal

pub loop-init : goal.loop-init
loop-init c = search (leaving, rules)

pub loop-preserved : goal.loop-preserved
loop-preserved c = search (leaving, rules)
