-- What is left of the edits, behind those that the marks carry, is the whole. Assumes nothing.
use Rattle.std.proofs.lemmas.Result.{err_from_is_err_and}
use Rattle.update_edited.proofs.Editing.{all_begin, path_asks, one_asks, mark_asks, all_stop, all_go, edit_ends}
use Rattle.update_edited.proofs.edit_all.Goals as goal

pub loop-k-init : goal.loop-k-init
loop-k-init c = all_begin _ _ _ _ _ c.requires _

pub edit_path_at-path-requires : goal.edit_path_at-path-requires
edit_path_at-path-requires c = path_asks _ _ _ _ _ c.requires _ c.loop-k-test.true

pub edit_one-requires : goal.edit_one-requires
edit_one-requires c = one_asks _ _ _ _ _ c.requires _ c.loop-k-test.true _ _ c.look_name-found.ensures

pub returns-in_err-slot : goal.returns-in_err-slot
returns-in_err-slot c =
    let p = err_from_is_err_and c.from_residual.result c.from_residual.ensures.1 in
    rw (p.1, p.2) (all_stop _ _ _ _ _ c.requires _ c.loop-k-test.true _ _ c.look_name-found.ensures _ _ c.edit_path_at-path.ensures c.loop-k.invariant _ c.edit_one.ensures _ c.in_err-slot.was)

pub put_edit-requires : goal.put_edit-requires
put_edit-requires c = mark_asks _ _ _ _ _ c.requires _ c.loop-k-test.true _ _ c.look_name-found.ensures _ _ c.edit_path_at-path.ensures c.loop-k.invariant _ c.edit_one.ensures _ c.in_ok-slot.was

pub loop-k-preserved : goal.loop-k-preserved
loop-k-preserved c = all_go _ _ _ _ _ c.requires _ c.loop-k-test.true _ _ c.look_name-found.ensures _ _ c.edit_path_at-path.ensures c.loop-k.invariant _ c.edit_one.ensures _ _ c.in_ok-slot.was c.put_edit.ensures

pub returns : goal.returns
returns c = edit_ends _ _ _ _ _ _ _ _ c.loop-k.invariant c.loop-k-test.false
