-- After each turn a longer run of the records stands in the plan.
use borrow.Author.Rules.{rules}
use Rattle.update_rebuild.proofs.Adding.{adding}
use Rattle.update_rebuild.proofs.put_added.Goals as goal

pub loop-i-init : goal.loop-i-init
loop-i-init c = search (adding, rules)

pub loop-i-preserved : goal.loop-i-preserved
loop-i-preserved c = search (adding, rules)
