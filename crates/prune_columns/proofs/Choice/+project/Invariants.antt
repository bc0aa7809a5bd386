-- What is kept is laid one record behind the other; a measure of five to a level falls. Assumes nothing.
use Rattle.prune_columns.proofs.Projecting.{Going}
use Prim.Native.Nat.{◌+◌, ◌-◌, ◌*◌}
use Rattle.prune_columns.proofs.Choice.+project.Given as goal

abbrev pub invariant-project_fields-loop-passed : goal.invariant-project_fields-loop-passed
invariant-project_fields-loop-passed l = Going l.self.records.now l.self.marks.now l.self.full l.row.levels l.row.count l.row.slot l.initial.plan l.at (l.row.count - l.passed) l.next l.place l.kept l.plan

abbrev pub decreases-project_field : goal.decreases-project_field
decreases-project_field l = l.levels * 5 + 4

abbrev pub decreases-project_fields : goal.decreases-project_fields
decreases-project_fields l = l.row.levels * 5

abbrev pub decreases-project_list : goal.decreases-project_list
decreases-project_list l = l.row.levels * 5 + 1

abbrev pub decreases-project_map : goal.decreases-project_map
decreases-project_map l = l.row.levels * 5 + 1

abbrev pub decreases-project_selected_struct : goal.decreases-project_selected_struct
decreases-project_selected_struct l = l.levels * 5 + 3

abbrev pub decreases-project_type : goal.decreases-project_type
decreases-project_type l = l.levels * 5 + 2
