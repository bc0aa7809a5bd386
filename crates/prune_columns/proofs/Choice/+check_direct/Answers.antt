-- The siblings that are left say what all say; levels left fall. Assumes nothing.
use Rattle.std.proofs.lemmas.Result.{err_from_is_err_and}
use borrow.Author.Rules.{rules}
use Rattle.tree_walk.proofs.Standing.{standing, passing}
use Rattle.prune_columns.proofs.Directing.{directing}
use Rattle.prune_columns.proofs.Choice.+check_direct.Goals as goal

pub inside_role-requires : goal.inside_role-requires
inside_role-requires t c = search (standing, passing, directing, rules)

pub kids_at-requires : goal.kids_at-requires
kids_at-requires t c = search (standing, passing, directing, rules)

pub overflow_sub-inside : goal.overflow_sub-inside
overflow_sub-inside t c = search (standing, passing, directing, rules)

pub check_direct-requires : goal.check_direct-requires
check_direct-requires t c = search (standing, passing, directing, rules)

pub is_direct-requires : goal.is_direct-requires
is_direct-requires t c = search (standing, passing, directing, rules)

pub returns-in_err-next : goal.returns-in_err-next
returns-in_err-next t c =
    let p = err_from_is_err_and c.from_residual.result c.from_residual.ensures.1 in
    rw (p.1, p.2) (search (standing, passing, directing, rules, c.in_err-next.was))

pub returns-then-is_direct : goal.returns-then-is_direct
returns-then-is_direct t c = search (standing, passing, directing, rules, c.in_ok-next.was)

pub loop-passed-preserved : goal.loop-passed-preserved
loop-passed-preserved t c = search (standing, passing, directing, rules, c.in_ok-next.was)

pub returns : goal.returns
returns t c = search (standing, passing, directing, rules)
