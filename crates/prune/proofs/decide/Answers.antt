-- The marks are of the chosen ids, and the walk finds 20. Assumes nothing.
use Rattle.std.proofs.lemmas.Result.{err_from_is_err_and}
use Rattle.prune.proofs.Steps.{decide_stops, decide_goes}
use Rattle.prune.proofs.decide.Goals as goal

pub returns-in_err-check_direct : goal.returns-in_err-check_direct
returns-in_err-check_direct c =
    let p = err_from_is_err_and c.from_residual.result c.from_residual.ensures.1 in
    rw (p.1, p.2) (decide_stops _ _ _ _ c.requires.0 _ _ c.mark_chosen.ensures _ _ c.check_direct.ensures _ c.in_err-check_direct.was)

pub returns : goal.returns
returns c = decide_goes _ _ _ _ c.requires.0 _ _ c.mark_chosen.ensures _ _ c.check_direct.ensures _ c.in_ok-check_direct.was
