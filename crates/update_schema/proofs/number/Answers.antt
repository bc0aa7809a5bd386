-- The column has as many records as lie between its slot and its end.
use mathlib.Core.Path.{refl}
use Rattle.std.proofs.lemmas.Result.{err_from_is_err_and}
use Rattle.update_schema.proofs.Numbering.{column_ends, column_few, number_over, number_spots}
use native.Mathlib.Omega.{arith}
use Rattle.update_schema.proofs.number.Goals as goal

pub overflow_sub-next : goal.overflow_sub-next
overflow_sub-next c = let e = column_ends _ _ _ _ c.requires.0 c.tree_end-next.ensures in omega (arith, e)

pub assign_fresh_ids-requires : goal.assign_fresh_ids-requires
assign_fresh_ids-requires c = let p = c.requires in let z = column_few _ _ _ p.0 in let e = column_ends _ _ _ _ p.0 c.tree_end-next.ensures in (p.1, omega (arith, z, e, p.0.small))

pub returns-in_err-start : goal.returns-in_err-start
returns-in_err-start c = let p = err_from_is_err_and c.from_residual.result c.from_residual.ensures.1 in rw (p.1, p.2) (number_over _ _ _ _ _ _ _ _ (column_ends _ _ _ _ c.requires.0 c.tree_end-next.ensures) refl c.assign_fresh_ids.ensures _ c.in_err-start.was)

pub returns : goal.returns
returns c = number_spots _ _ _ _ _ _ _ _ (column_ends _ _ _ _ c.requires.0 c.tree_end-next.ensures) refl c.assign_fresh_ids.ensures _ _ c.in_ok-start.was
