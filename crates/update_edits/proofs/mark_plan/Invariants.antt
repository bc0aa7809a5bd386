-- After i turns the first i sources are marked.
use Rattle.update_edits.specs.Marks.{RemarkedIn}
use Rattle.update_edits.proofs.mark_plan.Given as goal

abbrev pub invariant-loop-i : goal.invariant-loop-i
invariant-loop-i l = RemarkedIn l.marks l.i l.initial.plan l.plan
