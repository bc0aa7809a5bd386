-- The trees refuse, or the lists, or all is in order.
use Rattle.std.proofs.lemmas.Result.{err_from_is_err_and}
use Rattle.update_request.proofs.Opening.{openings}
use borrow.Author.Rules.{rules}
use Rattle.update_request.proofs.check_contents.Goals as goal

pub returns-in_err-counts : goal.returns-in_err-counts
returns-in_err-counts c =
    let p = err_from_is_err_and c.from_residual.result c.from_residual.ensures.1 in
    rw (p.1, p.2) (search (openings, rules, c.in_err-counts.was))

pub returns-in_err-check_lists : goal.returns-in_err-check_lists
returns-in_err-check_lists c =
    let p = err_from_is_err_and c.from_residual-in_err-check_lists.result c.from_residual-in_err-check_lists.ensures.1 in
    rw (p.1, p.2) (search (openings, rules, c.in_ok-counts.was, c.in_err-check_lists.was))

pub returns : goal.returns
returns c = search (openings, rules, c.in_ok-counts.was, c.in_ok-check_lists.was)
