-- 10, then what the decisions and the marks say is the paper's plan. Assumes nothing.
use Rattle.std.proofs.lemmas.Result.{err_from_is_err_and}
use Rattle.update.proofs.Settling.{count_stops, decide_asks, changes_stop, edits_ask, edits_stop, all_settled}
use Rattle.update.proofs.decide.Goals as goal

pub returns-then-columns-given : goal.returns-then-columns-given
returns-then-columns-given c = count_stops _ _ _ _ _ _ _ _ _ c.requires.0 _ c.requires.1 _ c.if-columns-given.true

pub decide_changes-requires : goal.decide_changes-requires
decide_changes-requires c = decide_asks _ _ _ _ _ _ _ _ _ c.requires.0 _ c.requires.1 c.if-columns-given.false

pub returns-in_err-consumed : goal.returns-in_err-consumed
returns-in_err-consumed c =
    let p = err_from_is_err_and c.from_residual.result c.from_residual.ensures.1 in
    rw (p.1, p.2) (changes_stop _ _ _ _ _ _ _ _ _ c.requires.0 _ c.requires.1 c.if-columns-given.false _ _ c.decide_changes.ensures _ c.in_err-consumed.was)

pub edit_columns-requires : goal.edit_columns-requires
edit_columns-requires c = edits_ask _ _ _ _ _ _ _ _ _ c.requires.0 _ c.requires.1 c.if-columns-given.false

pub returns-in_err-edit_columns : goal.returns-in_err-edit_columns
returns-in_err-edit_columns c =
    let p = err_from_is_err_and c.from_residual-in_err-edit_columns.result c.from_residual-in_err-edit_columns.ensures.1 in
    rw (p.1, p.2) (edits_stop _ _ _ _ _ _ _ _ _ c.requires.0 _ c.requires.1 c.if-columns-given.false _ _ c.decide_changes.ensures _ c.in_ok-consumed.was _ _ c.edit_columns.ensures _ c.in_err-edit_columns.was)

pub returns : goal.returns
returns c = all_settled _ _ _ _ _ _ _ _ _ c.requires.0 _ c.requires.1 c.if-columns-given.false _ _ c.decide_changes.ensures _ c.in_ok-consumed.was _ _ c.edit_columns.ensures c.in_ok-edit_columns.was
