-- Each root takes a record at least, and what is left gives the whole answer.
use Rattle.std.proofs.lemmas.Result.{err_from_is_err_and}
use Rattle.tree.proofs.Roots.{rooting}
use borrow.Author.Rules.{rules}
use Rattle.tree.proofs.check_shape.Goals as goal

pub loop-slot-preserved-then-kids-eq0 : goal.loop-slot-preserved-then-kids-eq0
loop-slot-preserved-then-kids-eq0 c = search (rooting, rules)

pub loop-slot-smaller : goal.loop-slot-smaller
loop-slot-smaller c = search (rooting, rules, c.in_ok-slot.was)

pub loop-slot-preserved : goal.loop-slot-preserved
loop-slot-preserved c = search (rooting, rules, c.in_ok-slot.was)

pub returns-in_err-slot : goal.returns-in_err-slot
returns-in_err-slot c =
    let p = err_from_is_err_and c.from_residual.result c.from_residual.ensures.1 in
    rw (p.1, p.2) (search (rooting, rules, c.in_err-slot.was))

pub returns : goal.returns
returns c = search (rooting, rules)
