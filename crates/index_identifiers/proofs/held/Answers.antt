-- Each turn passes the question on to the place above, and levels are left as long as there is one.
use Rattle.index_identifiers.proofs.Above.{holding_up}
use borrow.Author.Rules.{rules}
use Rattle.index_identifiers.proofs.held.Goals as goal

pub loop-place-init : goal.loop-place-init
loop-place-init c = search (holding_up, rules)

pub returns-then-not-holding : goal.returns-then-not-holding
returns-then-not-holding c = search (holding_up, rules)

pub overflow_sub-left : goal.overflow_sub-left
overflow_sub-left c = search (holding_up, rules)

pub loop-place-smaller : goal.loop-place-smaller
loop-place-smaller c = search (holding_up, rules)

pub loop-place-preserved : goal.loop-place-preserved
loop-place-preserved c = search (holding_up, rules)

pub returns : goal.returns
returns c = search (holding_up, rules)
