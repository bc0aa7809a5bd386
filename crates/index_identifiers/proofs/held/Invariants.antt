-- Each turn passes the question on to the place above, and levels are left as long as there is one.
use Rattle.record.specs.Trees.{trees_in}
use Rattle.plan.specs.Table.{sources}
use Rattle.index_ids.specs.Table.{ups_in}
use Rattle.index_identifiers.proofs.Above.{Up}
use Rattle.index_identifiers.proofs.held.Given as goal

abbrev pub invariant-loop-place : goal.invariant-loop-place
invariant-loop-place l = Up (trees_in l.trees) (sources l.plan) (ups_in l.index) l.m l.slot l.place l.left

abbrev pub decreases-loop-place : goal.decreases-loop-place
decreases-loop-place l = l.left
