-- 13 and 14 first, then the place, then the ids.
use Rattle.std.proofs.lemmas.Result.{err_from_is_err_and}
use Rattle.update_schema.proofs.Placing.{spot_barred, spot_nowhere, spot_goes}
use Rattle.update_schema.proofs.Request.place_one.Goals as goal

pub returns-in_err-check_added : goal.returns-in_err-check_added
returns-in_err-check_added c = let p = err_from_is_err_and c.from_residual.result c.from_residual.ensures.1 in rw (p.1, p.2) (spot_barred _ _ _ _ _ c.requires.0.based _ _ _ _ _ _ _ c.check_added.ensures _ c.in_err-check_added.was)

pub returns-in_err-under : goal.returns-in_err-under
returns-in_err-under c = let p = err_from_is_err_and c.from_residual-in_err-under.result c.from_residual-in_err-under.ensures.1 in rw (p.1, p.2) (spot_nowhere _ _ _ _ _ c.requires.0.based _ _ _ _ _ _ _ c.check_added.ensures c.in_ok-check_added.was _ c.find_place.ensures _ c.in_err-under.was)

pub returns : goal.returns
returns c = spot_goes _ _ _ _ _ c.requires.0.based _ _ _ _ _ _ _ c.check_added.ensures c.in_ok-check_added.was _ c.find_place.ensures _ c.in_ok-under.was _ c.number.ensures
