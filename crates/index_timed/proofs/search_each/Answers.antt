-- Each id counts where it is found. Assumes nothing.
use borrow.Author.Rules.{rules}
use Rattle.index_timed.proofs.Timing.{rounds}
use Rattle.index_timed.proofs.search_each.Goals as goal

pub loop-i-init : goal.loop-i-init
loop-i-init c = search (rounds, rules)

pub loop-i-preserved : goal.loop-i-preserved
loop-i-preserved c = search (rounds, rules)
