-- 3 over the whole list, then 4, whatever the rule is.
use Rattle.record_entries.proofs.Entries.{listing}
use Rattle.std.proofs.lemmas.Result.{err_from_is_err_and}
use borrow.Author.Rules.{rules}
use Rattle.record_entries.proofs.check_entries.Goals as goal

pub returns-in_err-check_rules : goal.returns-in_err-check_rules
returns-in_err-check_rules c =
    let p = err_from_is_err_and c.from_residual.result c.from_residual.ensures.1 in
    rw (p.1, p.2) (search (listing, rules, c.in_err-check_rules.was))

pub returns : goal.returns
returns c = search (listing, rules)
