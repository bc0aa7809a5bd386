-- The levels left fall at each call, and the records left at each turn; what is left ends where the whole row ends.
use Rattle.paper.specs.Bytes.{kids_at}
use Rattle.tree.proofs.Ending.{Ends}
use Prim.Native.Nat.{◌-◌}
use Rattle.tree.proofs.+row_end.Given as goal

abbrev pub invariant-loop-left : goal.invariant-loop-left
invariant-loop-left l = Ends l.list (kids_at l.recs) l.n l.levels l.count l.slot l.spare l.left l.at

abbrev pub decreases-loop-left : goal.decreases-loop-left
decreases-loop-left l = l.n - l.at

abbrev pub decreases-row_end : goal.decreases-row_end
decreases-row_end l = l.levels
