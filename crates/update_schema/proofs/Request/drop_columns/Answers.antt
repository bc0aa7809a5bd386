-- What is left of the deletions, behind the ids in the row, is the whole.
use Rattle.std.proofs.lemmas.Result.{err_from_is_err_and}
use Rattle.update_schema.proofs.Rows.{drops_stored}
use Rattle.update_schema.proofs.Found.{found_known}
use Rattle.update_schema.proofs.Deleting.{entry_here, delete_starts, delete_stops, delete_goes, delete_ends}
use native.Mathlib.Omega.{arith}
use Rattle.update_schema.proofs.Request.drop_columns.Goals as goal

pub loop-k-init : goal.loop-k-init
loop-k-init c = (delete_starts _ _ _ _ _ _, c.requires.1)

pub path_at-path-requires : goal.path_at-path-requires
path_at-path-requires c = entry_here _ _ _ _ _ c.requires.0.deletions_there c.loop-k-test.true

pub returns-in_err-id : goal.returns-in_err-id
returns-in_err-id c = let p = err_from_is_err_and c.from_residual.result c.from_residual.ensures.1 in rw (p.1, p.2) record { drops = delete_stops _ _ _ _ _ _ _ c.loop-k.invariant.0 c.loop-k-test.true _ _ _ c.path_at-path.ensures.0 (found_known _ _ _ _ _ c.requires.0.based _) c.look_name-found.ensures c.drop_one.ensures _ _ c.in_err-id.was; room = c.loop-k.invariant.1 }

pub loop-k-preserved : goal.loop-k-preserved
loop-k-preserved c = let v = c.loop-k.invariant in (delete_goes _ _ _ _ _ _ _ v.0 c.loop-k-test.true _ _ _ c.path_at-path.ensures.0 (found_known _ _ _ _ _ c.requires.0.based _) c.look_name-found.ensures c.drop_one.ensures _ _ c.in_ok-id.was c.from.ensures (let e = c.requires.0.deletions_there in omega (arith, v.1.drops_room, e.few, c.loop-k-test.true)), drops_stored _ _ _ v.1)

pub returns : goal.returns
returns c = record { drops = delete_ends _ _ _ _ _ _ _ c.loop-k.invariant.0 c.loop-k-test.false; room = c.loop-k.invariant.1 }
