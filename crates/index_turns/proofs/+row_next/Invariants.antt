-- What is left of the row ends where the whole ends; levels fall.
use mathlib.Core.Path.{◌≡◌}
use Prim.Native.Nat.{◌-◌}
use Rattle.plan.specs.Walk.{walk_in}
use Rattle.index_turns.proofs.+row_next.Given as goal

abbrev pub invariant-loop-done : goal.invariant-loop-done
invariant-loop-done l = (walk_in l.plan l.m l.row.levels l.row.count l.initial.at).next ≡ (walk_in l.plan l.m l.row.levels (l.done-end - l.done) l.at).next

abbrev pub decreases-row_next : goal.decreases-row_next
decreases-row_next l = l.row.levels
