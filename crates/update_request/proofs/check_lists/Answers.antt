-- The deletions refuse, or the additions, or the edits tell.
use Rattle.std.proofs.lemmas.Result.{err_from_is_err_and}
use Rattle.update_request.proofs.Opening.{openings}
use borrow.Author.Rules.{rules}
use Rattle.update_request.proofs.check_lists.Goals as goal

pub returns-in_err-check_entries : goal.returns-in_err-check_entries
returns-in_err-check_entries c =
    let p = err_from_is_err_and c.from_residual.result c.from_residual.ensures.1 in
    rw (p.1, p.2) (search (openings, rules, c.in_err-check_entries.was))

pub returns-in_err-check_entries-2 : goal.returns-in_err-check_entries-2
returns-in_err-check_entries-2 c =
    let p = err_from_is_err_and c.from_residual-in_err-check_entries-2.result c.from_residual-in_err-check_entries-2.ensures.1 in
    rw (p.1, p.2) (search (openings, rules, c.in_ok-check_entries.was, c.in_err-check_entries-2.was))

pub returns : goal.returns
returns c = search (openings, rules, c.in_ok-check_entries.was, c.in_ok-check_entries-2.was)
