-- Siblings are a loop whose rest gives the whole; levels left, then records left, fall.
use mathlib.Core.Bool.{true, false}
use Rattle.renumber_id_reassigner.proofs.Numbering.{Left}
use Prim.Native.Nat.{◌+◌, ◌*◌, ◌-◌}
use Rattle.renumber_id_reassigner.proofs.+reassign.Given as goal

abbrev pub invariant-reassign_field_ids-loop-own : goal.invariant-reassign_field_ids-loop-own
invariant-reassign_field_ids-loop-own l = Left l.recs false l.row.levels l.row.count l.row.slot l.initial.ids l.first (l.past - l.own) l.at l.own l.inside l.ids

abbrev pub invariant-reassign_key_and_value-loop-passed : goal.invariant-reassign_key_and_value-loop-passed
invariant-reassign_key_and_value-loop-passed l = Left l.recs true l.row.levels l.row.count l.row.slot l.initial.ids l.first (l.row.count - l.passed) l.at l.own (l.own + 1) l.ids

abbrev pub decreases-reassign_field_ids : goal.decreases-reassign_field_ids
decreases-reassign_field_ids l = l.row.levels * 1025 + (1024 - l.row.slot)

abbrev pub decreases-reassign_ids_visit_type : goal.decreases-reassign_ids_visit_type
decreases-reassign_ids_visit_type l = l.levels * 1025 + (1024 - l.slot)

abbrev pub decreases-reassign_key_and_value : goal.decreases-reassign_key_and_value
decreases-reassign_key_and_value l = l.row.levels * 1025 + (1024 - l.row.slot)
