-- The base refuses, or the additions tree, or both are read.
use Rattle.std.proofs.lemmas.Result.{err_from_is_err_and}
use Rattle.update_request.proofs.Opening.{openings}
use borrow.Author.Rules.{rules}
use Rattle.update_request.proofs.check_trees.Goals as goal

pub returns-in_err-roots : goal.returns-in_err-roots
returns-in_err-roots c =
    let p = err_from_is_err_and c.from_residual.result c.from_residual.ensures.1 in
    rw (p.1, p.2) (search (openings, rules, c.in_err-roots.was))

pub returns-in_err-columns : goal.returns-in_err-columns
returns-in_err-columns c =
    let p = err_from_is_err_and c.from_residual-in_err-columns.result c.from_residual-in_err-columns.ensures.1 in
    rw (p.1, p.2) (search (openings, rules, c.in_ok-roots.was, c.in_err-columns.was))

pub returns : goal.returns
returns c = search (openings, rules, c.in_ok-roots.was, c.in_ok-columns.was)
