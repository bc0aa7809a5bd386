-- After i turns the first i records are planned.
use Rattle.plan.proofs.Taking.{Copying}
use Rattle.plan.proofs.copy_records.Given as goal

abbrev pub invariant-loop-i : goal.invariant-loop-i
invariant-loop-i l = Copying l.records l.slot l.count l.initial.plan l.at l.i l.plan
