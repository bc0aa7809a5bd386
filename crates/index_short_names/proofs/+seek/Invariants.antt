-- What is left of the row gives the whole answer; levels fall.
use mathlib.Core.Path.{◌≡◌}
use Rattle.record.specs.Trees.{trees_in}
use Rattle.plan.specs.Named.{names_in, kinds_in}
use Rattle.plan.specs.Walk.{walk_in}
use Rattle.index_ids.specs.Chain.{held}
use Rattle.index_turns.specs.Turn.{left_at}
use Rattle.index_short_names.specs.Seek.{sighting}
use Prim.Native.Nat.{◌-◌}
use Rattle.index_short_names.proofs.+seek.Given as goal

abbrev pub invariant-loop-done : goal.invariant-loop-done
invariant-loop-done l = (l.inner.levels ≡ l.fn.row.levels - 1) × (sighting (names_in (trees_in l.trees) l.plan) (kinds_in (trees_in l.trees) l.plan) l.initial.part (left_at l.x l.pos) (held l.initial.first) (walk_in l.plan l.m l.fn.row.levels l.fn.row.count l.initial.at)
    ≡ sighting (names_in (trees_in l.trees) l.plan) (kinds_in (trees_in l.trees) l.plan) l.part (left_at l.x l.pos) (held l.first) (walk_in l.plan l.m l.fn.row.levels (l.done-end - l.done) l.at))

abbrev pub decreases-seek : goal.decreases-seek
decreases-seek l = l.row.levels
