-- 7, 8 and 9 in order are the paper's chain of tests.
use Rattle.std.proofs.lemmas.Result.{err_from_is_err_and}
use Rattle.index.proofs.Sounding.{ids_chained, sounding}
use borrow.Author.Rules.{rules}
use Rattle.index.proofs.index_plan.Goals as goal

pub returns-in_err-check_ids : goal.returns-in_err-check_ids
returns-in_err-check_ids c =
    let p = err_from_is_err_and c.from_residual.result c.from_residual.ensures.1 in
    rw (p.1, p.2) (search (sounding, rules, c.in_err-check_ids.was))

pub returns-in_err-index_names : goal.returns-in_err-index_names
returns-in_err-index_names c =
    let p = err_from_is_err_and c.from_residual-in_err-index_names.result c.from_residual-in_err-index_names.ensures.1 in
    rw (p.1, p.2) (search (sounding, rules, c.in_ok-check_ids.was, c.in_err-index_names.was))

pub check_identifiers-requires : goal.check_identifiers-requires
check_identifiers-requires c =
    let named = c.index_names.ensures in
    (search rules, search rules, ids_chained _ _ _ _ _ _ _ _ _ c.check_ids.ensures c.in_ok-check_ids.was named, named.raised)

pub returns : goal.returns
returns c = search (sounding, rules, c.in_ok-check_ids.was, c.in_ok-index_names.was)
