-- Whatever marks the rest of the row marks the whole; levels fall.
use Prim.Native.Nat.{◌-◌}
use Rattle.record.specs.Trees.{trees_in}
use Rattle.plan.specs.Plan.{kids_in}
use Rattle.plan.specs.Table.{members}
use Rattle.plan.specs.Named.{names_in}
use Rattle.index_names.proofs.Marking.{Onward}
use Rattle.index_names.proofs.+mark_row.Given as goal

abbrev pub invariant-loop-done : goal.invariant-loop-done
invariant-loop-done l = Onward (names_in (trees_in l.trees) l.plan) (kids_in (members l.plan)) l.m l.initial.inside.levels l.done-end l.initial.at l.up l.before.len l.before.hash l.initial.index l.inside.levels (l.done-end - l.done) l.at l.index

abbrev pub decreases-mark_row : goal.decreases-mark_row
decreases-mark_row l = l.row.levels
