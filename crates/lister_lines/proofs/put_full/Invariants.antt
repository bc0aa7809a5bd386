-- The own name is put at the end, then what stands above it: `Climbing`.
use Rattle.record.specs.Trees.{trees_in}
use Rattle.lister_lines.proofs.Climbing.{Climbing}
use Rattle.lister_lines.proofs.put_full.Given as goal

abbrev pub invariant-loop-slot : goal.invariant-loop-slot
invariant-loop-slot l = Climbing (trees_in l.names.trees.now) l.names.plan.now l.names.m l.names.index.now l.slot l.at l.initial.out l.stop l.here l.end l.out

abbrev pub decreases-loop-slot : goal.decreases-loop-slot
decreases-loop-slot l = l.here
