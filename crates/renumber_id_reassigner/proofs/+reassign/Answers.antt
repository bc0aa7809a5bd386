-- Siblings are a loop whose rest gives the whole; levels left, then records left, fall.
use native.Mathlib.Omega.{arith}
use borrow.Author.Rules.{rules}
use Rattle.tree_walk.proofs.Standing.{left_some, left_less, passing}
use Rattle.renumber_id_reassigner.proofs.Numbering.{numbering, level_left, member_goes}
use Rattle.renumber_id_reassigner.proofs.+reassign.Goals as goal

pub reassign_field_ids-overflow_sub-row : goal.reassign_field_ids-overflow_sub-row
reassign_field_ids-overflow_sub-row t c = search (numbering, passing, rules)

pub reassign_field_ids-reassign_ids_visit_type-after-requires : goal.reassign_field_ids-reassign_ids_visit_type-after-requires
reassign_field_ids-reassign_ids_visit_type-after-requires t c = (omega (arith, level_left _ _ _ _ _ _ _ _ _ _ _ _ c.loop-own.invariant (left_some c.loop-own-test.true)), search (numbering, passing, rules))

pub reassign_field_ids-overflow_add-past : goal.reassign_field_ids-overflow_add-past
reassign_field_ids-overflow_add-past t c = search (numbering, passing, rules)

pub reassign_field_ids-loop-own-init : goal.reassign_field_ids-loop-own-init
reassign_field_ids-loop-own-init t c = search (numbering, passing, rules)

pub reassign_field_ids-bounds-ids-at : goal.reassign_field_ids-bounds-ids-at
reassign_field_ids-bounds-ids-at t c = search (numbering, passing, rules)

pub reassign_field_ids-loop-own-preserved : goal.reassign_field_ids-loop-own-preserved
reassign_field_ids-loop-own-preserved t c = member_goes _ _ _ _ _ _ _ _ _ _ _ c.loop-own.invariant (left_some c.loop-own-test.true) _ _ _ c.turn.ensures c.reassign_ids_visit_type-after.ensures _ (left_less _ _)

pub reassign_field_ids-returns : goal.reassign_field_ids-returns
reassign_field_ids-returns t c = search (numbering, passing, rules)

pub reassign_ids_visit_type-returns-then-members-eq0 : goal.reassign_ids_visit_type-returns-then-members-eq0
reassign_ids_visit_type-returns-then-members-eq0 t c = search (numbering, passing, rules)

pub reassign_key_and_value-bounds-ids-at : goal.reassign_key_and_value-bounds-ids-at
reassign_key_and_value-bounds-ids-at t c = search (numbering, passing, rules)

pub reassign_key_and_value-overflow_sub-row : goal.reassign_key_and_value-overflow_sub-row
reassign_key_and_value-overflow_sub-row t c = search (numbering, passing, rules)

pub reassign_key_and_value-overflow_add-own : goal.reassign_key_and_value-overflow_add-own
reassign_key_and_value-overflow_add-own t c = search (numbering, passing, rules)

pub reassign_key_and_value-reassign_ids_visit_type-after-requires : goal.reassign_key_and_value-reassign_ids_visit_type-after-requires
reassign_key_and_value-reassign_ids_visit_type-after-requires t c = (omega (arith, level_left _ _ _ _ _ _ _ _ _ _ _ _ c.loop-passed.invariant (left_some c.loop-passed-test.true)), search (numbering, passing, rules))

pub reassign_key_and_value-loop-passed-preserved : goal.reassign_key_and_value-loop-passed-preserved
reassign_key_and_value-loop-passed-preserved t c = search (numbering, passing, rules)

pub reassign_key_and_value-returns : goal.reassign_key_and_value-returns
reassign_key_and_value-returns t c = search (numbering, passing, rules)
