-- Each step's answer is the paper's: open, test, decide, then the end. Assumes nothing.
use Rattle.std.proofs.lemmas.Result.{err_from_is_err_and}
use Rattle.index_ids.proofs.Tables.{fresh_index}
use Rattle.update.proofs.Applying.{open_stops, test_asks, test_stops, decide_asks, decide_stops, write_asks, all_written}
use mathlib.Core.Path.{refl}
use Rattle.update.proofs.update.Goals as goal

pub returns-in_err-roots : goal.returns-in_err-roots
returns-in_err-roots c =
    let p = err_from_is_err_and c.from_residual.result c.from_residual.ensures.1 in
    rw (p.1, p.2) (open_stops _ _ _ _ _ _ _ c.open_update.ensures _ c.in_err-roots.was)

pub index_base-requires : goal.index_base-requires
index_base-requires c = test_asks _ _ _ _ _ _ c.open_update.ensures _ _ c.in_ok-roots.was _ _ c.given_of-given.ensures _ _ c.empty-plan.ensures.room fresh_index

pub returns-in_err-index_base : goal.returns-in_err-index_base
returns-in_err-index_base c =
    let p = err_from_is_err_and c.from_residual-in_err-index_base.result c.from_residual-in_err-index_base.ensures.1 in
    rw (p.1, p.2) (test_stops _ _ _ _ _ _ _ c.open_update.ensures _ _ c.in_ok-roots.was _ c.given_of-given.ensures.0 _ _ _ _ c.index_base.ensures _ c.in_err-index_base.was)

pub decide-requires : goal.decide-requires
decide-requires c = decide_asks _ _ _ _ _ _ c.open_update.ensures _ _ c.in_ok-roots.was _ _ c.given_of-given.ensures _ _ _ _ c.index_base.ensures c.in_ok-index_base.was _ c.none-decisions.ensures.room _ refl

pub returns-in_err-last : goal.returns-in_err-last
returns-in_err-last c =
    let p = err_from_is_err_and c.from_residual-in_err-last.result c.from_residual-in_err-last.ensures.1 in
    rw (p.1, p.2) (decide_stops _ _ _ _ _ _ _ c.open_update.ensures _ _ c.in_ok-roots.was _ c.given_of-given.ensures.0 _ _ _ _ c.index_base.ensures _ _ _ c.decide.ensures _ c.in_err-last.was)

pub write_rebuilt-requires : goal.write_rebuilt-requires
write_rebuilt-requires c = write_asks _ _ _ _ _ _ _ c.open_update.ensures _ _ c.in_ok-roots.was _ c.given_of-given.ensures.0 _ _ _ _ c.index_base.ensures _ _ _ c.decide.ensures _ c.in_ok-last.was

pub returns : goal.returns
returns c = all_written _ _ _ _ _ _ _ c.open_update.ensures _ _ c.in_ok-roots.was _ c.given_of-given.ensures.0 _ _ _ _ c.index_base.ensures _ _ _ c.decide.ensures _ c.in_ok-last.was _ _ _ c.write_rebuilt.ensures
