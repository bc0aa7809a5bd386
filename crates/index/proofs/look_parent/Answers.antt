-- The place above holds the parent's id, which is looked up.
use Rattle.index.proofs.Looking.{looks}
use borrow.Author.Rules.{rules}
use Rattle.index.proofs.look_parent.Goals as goal

pub returns-in_err-k : goal.returns-in_err-k
returns-in_err-k c = rw c.from_residual.ensures (search (looks, rules, c.in_err-k.was))

pub cell-up-requires : goal.cell-up-requires
cell-up-requires c = search (looks, rules, c.in_ok-k.was)

pub returns-then-up-eq0 : goal.returns-then-up-eq0
returns-then-up-eq0 c = search (looks, rules, c.in_ok-k.was)

pub bounds-plan-up : goal.bounds-plan-up
bounds-plan-up c = search (looks, rules, c.in_ok-k.was)

pub returns : goal.returns
returns c = search (looks, rules, c.in_ok-k.was)
