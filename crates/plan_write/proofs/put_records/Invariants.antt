-- What is left to write gives the whole; each record has room, since a plan's records are within the limit.
use Rattle.plan_write.proofs.Writing.{Rowing}
use Rattle.record.specs.Trees.{trees_in}
use Rattle.plan_write.proofs.put_records.Given as goal

abbrev pub invariant-loop-i : goal.invariant-loop-i
invariant-loop-i l = Rowing (trees_in l.trees) l.plan l.m l.initial.out l.i l.at l.out
