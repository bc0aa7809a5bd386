-- The count goes from round to round. Assumes nothing.
use borrow.Author.Rules.{rules}
use Rattle.index_timed.proofs.Timing.{rounds}
use Rattle.index_timed.proofs.search_rounds.Goals as goal

pub loop-k-init : goal.loop-k-init
loop-k-init c = search (rounds, rules)

pub loop-k-preserved : goal.loop-k-preserved
loop-k-preserved c = search (rounds, rules)
