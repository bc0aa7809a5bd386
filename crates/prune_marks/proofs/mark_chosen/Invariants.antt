-- Each chosen id marks the one slot that has it. Assumes nothing.
use Rattle.plan.specs.Table.{numbers}
use Rattle.prune_marks.proofs.Marking.{Marking}
use Rattle.prune_marks.proofs.mark_chosen.Given as goal

abbrev pub invariant-loop-i : goal.invariant-loop-i
invariant-loop-i l = Marking l.selected (numbers l.plan) l.m l.marks l.i
