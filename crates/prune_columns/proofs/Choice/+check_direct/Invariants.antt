-- The siblings that are left say what all say; levels left fall. Assumes nothing.
use Prim.Native.Nat.{◌-◌}
use Rattle.prune_columns.proofs.Directing.{Left}
use Rattle.prune_columns.proofs.Choice.+check_direct.Given as goal

abbrev pub invariant-loop-passed : goal.invariant-loop-passed
invariant-loop-passed l = Left l.self.records.now l.self.marks.now l.self.full l.row.levels l.row.count l.row.slot l.initial.own (l.row.count - l.passed) l.at l.own

abbrev pub decreases-check_direct : goal.decreases-check_direct
decreases-check_direct l = l.row.levels
