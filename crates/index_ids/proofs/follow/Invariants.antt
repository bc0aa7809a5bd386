-- What is left of the way gives the whole answer; each step asks a bit that was left.
use Rattle.paper.specs.Bytes.{turned}
use Rattle.plan.specs.Table.{numbers}
use Rattle.index_ids.proofs.IdLaws.{Following}
use Rattle.index_ids.proofs.follow.Given as goal

abbrev pub invariant-loop-at : goal.invariant-loop-at
invariant-loop-at l = Following (numbers l.plan) l.index l.k (turned l.id) l.line l.c l.bits l.left l.at

abbrev pub decreases-loop-at : goal.decreases-loop-at
decreases-loop-at l = l.left
