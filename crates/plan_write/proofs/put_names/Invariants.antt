-- What is left to write gives the whole; each name and each run has room, since a plan's name sum is within the limit.
use Rattle.plan_write.proofs.Writing.{Naming}
use Prim.Native.Nat.{◌-◌}
use Rattle.record.specs.Trees.{trees_in}
use Rattle.plan_write.proofs.put_names.Given as goal

abbrev pub invariant-loop-i : goal.invariant-loop-i
invariant-loop-i l = Naming (trees_in l.trees) l.plan l.m l.initial.out l.i l.to l.out

abbrev pub decreases-loop-i : goal.decreases-loop-i
decreases-loop-i l = l.m - l.i
