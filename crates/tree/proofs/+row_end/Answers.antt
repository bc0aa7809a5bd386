-- The levels left fall at each call, and the records left at each turn; what is left ends where the whole row ends.
use Rattle.std.proofs.lemmas.Result.{err_from_is_err_and}
use borrow.Author.Rules.{rules}
use Rattle.tree.proofs.Ending.{looping}
use Rattle.tree.proofs.+row_end.Goals as goal

pub returns-then-spare-eq0 : goal.returns-then-spare-eq0
returns-then-spare-eq0 t c = search (looping, rules)

pub returns-then-n-at : goal.returns-then-n-at
returns-then-n-at t c = search (looping, rules)

pub loop-left-preserved-then-kids-eq0 : goal.loop-left-preserved-then-kids-eq0
loop-left-preserved-then-kids-eq0 t c = search (looping, rules)

pub loop-left-preserved-then-left-eq1 : goal.loop-left-preserved-then-left-eq1
loop-left-preserved-then-left-eq1 t c = search (looping, rules)

pub returns-in_err-at : goal.returns-in_err-at
returns-in_err-at t c =
    let p = err_from_is_err_and c.from_residual.result c.from_residual.ensures.1 in
    rw (p.1, p.2) (search (looping, rules, c.in_err-at.was))

pub loop-left-smaller : goal.loop-left-smaller
loop-left-smaller t c = search (looping, rules)

pub loop-left-preserved : goal.loop-left-preserved
loop-left-preserved t c = search (looping, rules, c.in_ok-at.was)

pub returns : goal.returns
returns t c = search (looping, rules)
