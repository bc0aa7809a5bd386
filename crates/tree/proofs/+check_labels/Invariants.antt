-- The levels left fall at each call, and the siblings left at each turn.
use Rattle.tree.proofs.Labels.{Onward}
use Rattle.tree.proofs.+check_labels.Given as goal

abbrev pub invariant-loop-left : goal.invariant-loop-left
invariant-loop-left l = Onward l.pool l.recs l.list l.n l.levels l.count l.slot l.initial.part l.left l.at l.part

abbrev pub decreases-loop-left : goal.decreases-loop-left
decreases-loop-left l = l.left

abbrev pub decreases-check_labels : goal.decreases-check_labels
decreases-check_labels l = l.levels
