-- Siblings are planned by the loop, whose invariant is that the rest plans the whole; a record that stays is planned after its inside.
use borrow.Author.Rules.{rules}
use Rattle.update_rebuild.proofs.Rebuilding.{inside_few, one_wide, one_leaf, one_stops, one_few, one_past, rebuild_ends, seen_few, inside_reads, inside_stands, next_room, next_low, held_past, held_few, left_some, left_less, rebuild_skips, rebuild_stops, rebuild_goes}
use Rattle.update_rebuild.proofs.Rebuilder.+rebuild_field_rebuild_fields.Goals as goal

pub rebuild_field-returns-then-at-ge1024 : goal.rebuild_field-returns-then-at-ge1024
rebuild_field-returns-then-at-ge1024 t c = search (one_wide, rules)

pub rebuild_field-returns-then-is_leaf : goal.rebuild_field-returns-then-is_leaf
rebuild_field-returns-then-is_leaf t c = search (one_leaf, rules)

pub rebuild_field-returns-in_err-w : goal.rebuild_field-returns-in_err-w
rebuild_field-returns-in_err-w t c = rw c.from_residual.ensures (search (one_stops, rules, c.in_err-w.was))

pub rebuild_field-past-requires : goal.rebuild_field-past-requires
rebuild_field-past-requires t c = let few = inside_few c.requires.0 in (search rules, search rules, search (one_few, rules, c.in_ok-w.was))

pub rebuild_field-returns : goal.rebuild_field-returns
rebuild_field-returns t c = one_past _ _ _ _ _ _ _ _ _ _ _ c.head_at-head.ensures _ _ c.rebuild_fields.ensures _ _ _ c.requires.0.low c.in_ok-w.was (search rules) c.past.ensures

pub rebuild_fields-drops_member-requires : goal.rebuild_fields-drops_member-requires
rebuild_fields-drops_member-requires t c = search (next_room, left_some, rules)

pub rebuild_fields-overflow_sub-levels : goal.rebuild_fields-overflow_sub-levels
rebuild_fields-overflow_sub-levels t c = search (next_low, left_some, rules)

pub rebuild_fields-tree_end-requires : goal.rebuild_fields-tree_end-requires
rebuild_fields-tree_end-requires t c = search (inside_stands, inside_reads, left_some, rules)

pub rebuild_fields-over-here-requires : goal.rebuild_fields-over-here-requires
rebuild_fields-over-here-requires t c = search (seen_few, held_past, held_few, left_some, rules)

pub rebuild_fields-loop-passed-preserved-then-drops_member : goal.rebuild_fields-loop-passed-preserved-then-drops_member
rebuild_fields-loop-passed-preserved-then-drops_member t c = search (rebuild_skips, left_some, left_less, rules)

pub rebuild_fields-rebuild_field-requires : goal.rebuild_fields-rebuild_field-requires
rebuild_fields-rebuild_field-requires t c = search (inside_reads, left_some, rules)

pub rebuild_fields-returns-in_err-here : goal.rebuild_fields-returns-in_err-here
rebuild_fields-returns-in_err-here t c = rw c.from_residual.ensures (rebuild_stops c.loop-passed.invariant (search rules) c.drops_member.ensures (search rules) c.rebuild_field.ensures c.in_err-here.was)

pub rebuild_fields-loop-passed-preserved : goal.rebuild_fields-loop-passed-preserved
rebuild_fields-loop-passed-preserved t c = rebuild_goes c.loop-passed.invariant (left_some c.loop-passed-test.true) c.drops_member.ensures c.if-drops_member.false c.rebuild_field.ensures c.in_ok-here.was (left_less _ _)

pub rebuild_fields-returns : goal.rebuild_fields-returns
rebuild_fields-returns t c = rebuild_ends c.loop-passed.invariant (search rules) (search rules)
