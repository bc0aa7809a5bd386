-- Nothing found, a column that goes, what is asked of the column.
use Rattle.std.proofs.lemmas.Result.{err_from_is_err_and}
use Rattle.update_edits.proofs.Deciding.{deciding}
use borrow.Author.Rules.{rules}
use Rattle.update_edits.proofs.edit_one.Goals as goal

pub returns-in_default : goal.returns-in_default
returns-in_default c = search (deciding, rules)

pub returns-then-is_gone : goal.returns-then-is_gone
returns-then-is_gone c = search (deciding, rules)

pub returns-in_err-check_edit : goal.returns-in_err-check_edit
returns-in_err-check_edit c =
    let p = err_from_is_err_and c.from_residual.result c.from_residual.ensures.1 in
    rw (p.1, p.2) (search (deciding, rules, c.in_err-check_edit.was))

pub returns : goal.returns
returns c = search (deciding, rules, c.in_ok-check_edit.was)
