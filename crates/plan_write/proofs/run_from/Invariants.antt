-- The run so far and what is left behind it give all names from place i on.
use Rattle.plan_write.proofs.Running.{Running}
use Rattle.record.specs.Trees.{trees_in}
use Rattle.plan_write.proofs.run_from.Given as goal

abbrev pub invariant-loop-next : goal.invariant-loop-next
invariant-loop-next l = Running (trees_in l.trees) l.plan l.m l.i l.from l.end l.next
