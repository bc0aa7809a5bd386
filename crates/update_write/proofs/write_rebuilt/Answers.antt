-- What is rebuilt is a plan where it fits, so its tests and its bytes are the paper's. Assumes nothing.
use Rattle.std.proofs.lemmas.Result.{err_from_is_err_and}
use Rattle.update_write.proofs.Ending.{ending, sound_stops, rebuild_asks, names_asks, test_asks, write_asks, all_written, names_fit}
use borrow.Author.Rules.{rules}
use Rattle.update_write.proofs.write_rebuilt.Goals as goal

pub rebuild_edited-requires : goal.rebuild_edited-requires
rebuild_edited-requires c = rebuild_asks _ _ _ _ _ _ _ _ _ _ c.requires _ c.fill.ensures

pub returns-in_default : goal.returns-in_default
returns-in_default c = search (ending, rules)

pub names_fit-requires : goal.names_fit-requires
names_fit-requires c = names_asks _ _ _ _ _ _ _ _ _ _ c.requires _ c.fill.ensures _ _ c.rebuild_edited.ensures _ c.in-Some.is

pub returns-then-not-names_fit : goal.returns-then-not-names_fit
returns-then-not-names_fit c = search (ending, rules)

pub index_plan-requires : goal.index_plan-requires
index_plan-requires c = test_asks _ _ _ _ _ _ _ _ _ _ c.requires _ c.fill.ensures _ _ c.rebuild_edited.ensures _ c.in-Some.is _ c.names_fit.ensures c.if-not-names_fit.false _ c.refresh.ensures

pub returns-in_err-index_plan : goal.returns-in_err-index_plan
returns-in_err-index_plan c = let p = err_from_is_err_and c.from_residual.result c.from_residual.ensures.1 in rw (p.1, p.2) (sound_stops _ _ _ _ _ _ _ _ _ _ c.requires _ c.fill.ensures _ _ c.rebuild_edited.ensures _ c.in-Some.is _ c.names_fit.ensures c.if-not-names_fit.false _ _ _ c.index_plan.ensures _ c.in_err-index_plan.was)

pub write_plan-names-requires : goal.write_plan-names-requires
write_plan-names-requires c = write_asks _ _ _ _ _ _ _ _ _ _ c.requires _ c.fill.ensures _ _ c.rebuild_edited.ensures _ c.in-Some.is _ c.names_fit.ensures c.if-not-names_fit.false

pub overflow_cast-result-2 : goal.overflow_cast-result-2
overflow_cast-result-2 c = record { fits = names_fit _ _ _ _ _ _ _ _ _ _ c.requires _ c.fill.ensures _ _ c.rebuild_edited.ensures _ c.in-Some.is _ c.names_fit.ensures c.if-not-names_fit.false _ _ _ c.index_plan.ensures _ _ _ c.write_plan-names.ensures }

pub returns : goal.returns
returns c = all_written _ _ _ _ _ _ _ _ _ _ c.requires _ c.fill.ensures _ _ c.rebuild_edited.ensures _ c.in-Some.is _ c.names_fit.ensures c.if-not-names_fit.false _ _ _ c.index_plan.ensures _ _ _ c.write_plan-names.ensures c.in_ok-index_plan.was _ c.turn_back.ensures
