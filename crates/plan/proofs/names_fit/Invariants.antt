-- What is left of the lengths gives the whole sum; a name has at most 255 bytes, so it cannot wrap.
use Rattle.plan.proofs.Summing.{Adding}
use Rattle.record.specs.Trees.{trees_in}
use Rattle.plan.specs.Table.{sources}
use Rattle.plan.proofs.names_fit.Given as goal

abbrev pub invariant-loop-i : goal.invariant-loop-i
invariant-loop-i l = Adding (trees_in l.trees).records (trees_in l.trees).added_records (trees_in l.trees).edits (sources l.plan) l.m l.i l.sum
