-- What was rebuilt is marked; without edits there is nothing to mark. Assumes nothing.
use Rattle.update_write.proofs.Edited.{full_edited, unmarked_edited, mark_asks, marked_edited}
use Rattle.update_write.proofs.rebuild_edited.Goals as goal

pub returns-in_err-place : goal.returns-in_err-place
returns-in_err-place c = rw c.from_residual.ensures (full_edited _ _ _ _ _ _ _ c.rebuild.ensures c.in_err-place.was)

pub returns-then-rebuilder-eq0 : goal.returns-then-rebuilder-eq0
returns-then-rebuilder-eq0 c = unmarked_edited _ _ _ _ _ _ _ c.rebuild.ensures _ c.in_ok-place.was _ c.if-rebuilder-eq0.true c.requires.2

pub mark_plan-requires : goal.mark_plan-requires
mark_plan-requires c = mark_asks _ _ _ _ _ _ c.rebuild.ensures _ c.in_ok-place.was

pub returns : goal.returns
returns c = marked_edited _ _ _ _ _ _ _ c.rebuild.ensures _ c.in_ok-place.was _ c.requires.1 c.mark_plan.ensures
