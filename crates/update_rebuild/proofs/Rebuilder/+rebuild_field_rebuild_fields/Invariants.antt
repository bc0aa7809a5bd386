-- Siblings are planned by the loop, whose invariant is that the rest plans the whole; a record that stays is planned after its inside.
use Prim.Native.Nat.{◌+◌, ◌-◌, ◌*◌}
use Rattle.update_dropped.specs.Set.{dropped_ids}
use Rattle.update_rebuild.specs.Sources.{parent}
use Rattle.update_rebuild.specs.Planned.{additions_in, RowPlanned}
use Rattle.update_rebuild.proofs.Rebuilding.{Rebuilding}
use Rattle.update_rebuild.proofs.Rebuilder.+rebuild_field_rebuild_fields.Given as goal

abbrev pub invariant-rebuild_fields-loop-passed : goal.invariant-rebuild_fields-loop-passed
invariant-rebuild_fields-loop-passed l = let adds = additions_in l.self.added.now l.self.given l.self.decisions.now in
    let ds = dropped_ids l.self.dropped.now in
    Rebuilding l.self.records.now ds adds l.self.given.base l.levels (parent l.under.q) l.under.opens (RowPlanned l.self.records.now ds adds l.self.given.base l.levels l.fn.row.count l.initial.here.next (parent l.under.q) l.under.opens l.initial.plan l.at) (l.fn.row.count - l.passed) l.here.next l.here.at l.here.count l.here.visited l.plan

abbrev pub decreases-rebuild_field : goal.decreases-rebuild_field
decreases-rebuild_field l = l.levels * 2

abbrev pub decreases-rebuild_fields : goal.decreases-rebuild_fields
decreases-rebuild_fields l = l.row.levels * 2 + 1
