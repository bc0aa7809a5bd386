-- What is left of the row gives the whole answer; levels fall.
use mathlib.Core.Path.{◌≡◌}
use Rattle.paper.specs.Folded.{folded}
use Rattle.record.specs.Trees.{trees_in}
use Rattle.plan.specs.Named.{kinds_in}
use Rattle.plan.specs.Walk.{walk_in}
use Rattle.index_turns.specs.Turn.{left_at}
use Rattle.index_folded_names.specs.Met.{folded_in, meeting}
use Prim.Native.Nat.{◌-◌, ◌≤◌}
use Rattle.index_folded_names.proofs.+meet_row.Given as goal

abbrev pub invariant-loop-row : goal.invariant-loop-row
invariant-loop-row l = (l.row.levels ≤ l.initial.row.levels)
    × (meeting (folded_in (trees_in l.trees) l.plan) (kinds_in (trees_in l.trees) l.plan) l.short l.initial.part.role (left_at (folded l.x) l.initial.part.pos) l.initial.met (walk_in l.plan l.m l.initial.row.levels l.initial.row.count l.initial.row.slot)
    ≡ meeting (folded_in (trees_in l.trees) l.plan) (kinds_in (trees_in l.trees) l.plan) l.short l.part.role (left_at (folded l.x) l.part.pos) l.met (walk_in l.plan l.m l.row.levels l.row.count l.row.slot))

abbrev pub decreases-loop-row : goal.decreases-loop-row
decreases-loop-row l = l.m - l.row.slot

abbrev pub decreases-meet_row : goal.decreases-meet_row
decreases-meet_row l = l.row.levels
