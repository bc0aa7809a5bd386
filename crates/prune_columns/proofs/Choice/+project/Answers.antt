-- What is kept is laid one record behind the other; a measure of five to a level falls. Assumes nothing.
use borrow.Author.Rules.{rules}
use Rattle.tree_walk.proofs.Standing.{standing, passing}
use Rattle.prune_columns.proofs.Planning.{planning}
use Rattle.prune_columns.proofs.Projecting.{going, single, typing, list_kept, pairing, row_spot, map_span}
use Rattle.prune_columns.proofs.Choice.+project.Goals as goal

pub project_field-returns-then-self-is_struct : goal.project_field-returns-then-self-is_struct
project_field-returns-then-self-is_struct t c = search (single, planning, rules)

pub project_field-returns-then-is_chosen : goal.project_field-returns-then-is_chosen
project_field-returns-then-is_chosen t c = search (single, planning, rules)

pub project_field-returns-then-inside-eq0 : goal.project_field-returns-then-inside-eq0
project_field-returns-then-inside-eq0 t c = search (single, planning, rules)

pub project_field-returns : goal.project_field-returns
project_field-returns t c = search (single, planning, rules)

pub project_fields-overflow_sub-row : goal.project_fields-overflow_sub-row
project_fields-overflow_sub-row t c = search (going, passing, rules)

pub project_fields-project_field-one-requires : goal.project_fields-project_field-one-requires
project_fields-project_field-one-requires t c = search (going, passing, rules)

pub project_fields-overflow_add-kept : goal.project_fields-overflow_add-kept
project_fields-overflow_add-kept t c = search (going, passing, rules)

pub project_fields-loop-passed-preserved : goal.project_fields-loop-passed-preserved
project_fields-loop-passed-preserved t c = search (going, passing, rules)

pub project_fields-returns : goal.project_fields-returns
project_fields-returns t c = search (going, passing, rules)

pub project_list-returns : goal.project_list-returns
project_list-returns t c = search (list_kept, rules)

pub project_map-kids_at-kids-requires : goal.project_map-kids_at-kids-requires
project_map-kids_at-kids-requires t c = search (pairing, standing, rules)

pub project_map-overflow_sub-value : goal.project_map-overflow_sub-value
project_map-overflow_sub-value t c = search (pairing, standing, rules)

pub project_map-row_past-value-requires : goal.project_map-row_past-value-requires
project_map-row_past-value-requires t c = search (pairing, standing, rules)

pub project_map-overflow_sub-row : goal.project_map-overflow_sub-row
project_map-overflow_sub-row t c = search (pairing, standing, rules)

pub project_map-project_fields-rest-requires : goal.project_map-project_fields-rest-requires
project_map-project_fields-rest-requires t c = search (pairing, standing, rules)

pub project_map-overflow_sub-row-then-rest-gt0 : goal.project_map-overflow_sub-row-then-rest-gt0
project_map-overflow_sub-row-then-rest-gt0 t c = search (pairing, standing, rules)

pub project_map-project_whole-requires : goal.project_map-project_whole-requires
project_map-project_whole-requires t c = search (row_spot, rules)

pub project_map-overflow_add-result : goal.project_map-overflow_add-result
project_map-overflow_add-result t c = search (pairing, standing, rules)

pub project_map-returns-then-rest-gt0 : goal.project_map-returns-then-rest-gt0
project_map-returns-then-rest-gt0 t c = search (pairing, standing, rules)

pub project_map-is_chosen-requires : goal.project_map-is_chosen-requires
project_map-is_chosen-requires t c = search (pairing, standing, rules)

pub project_map-copy_trees-requires : goal.project_map-copy_trees-requires
project_map-copy_trees-requires t c = let p = c.project_fields-rest.ensures in search (map_span, p, rules)

pub project_map-returns-then-is_chosen : goal.project_map-returns-then-is_chosen
project_map-returns-then-is_chosen t c = search (pairing, standing, rules)

pub project_map-returns : goal.project_map-returns
project_map-returns t c = search (pairing, standing, rules)

pub project_selected_struct-returns : goal.project_selected_struct-returns
project_selected_struct-returns t c = search (single, planning, rules)

pub project_type-returns-then-members-eq0 : goal.project_type-returns-then-members-eq0
project_type-returns-then-members-eq0 t c = search (typing, rules)
