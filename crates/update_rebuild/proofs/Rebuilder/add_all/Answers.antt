-- What arrives from the j-th addition on plans the rest.
use mathlib.Core.Path.{refl}
use borrow.Author.Rules.{rules}
use Rattle.update_rebuild.proofs.Arriving.{arrivals, low_goes, all_skips, low_stops}
use Rattle.update_rebuild.proofs.Rebuilder.add_all.Goals as goal

pub loop-j-init : goal.loop-j-init
loop-j-init c = search (arrivals, rules)

pub loop-j-preserved-then-ne : goal.loop-j-preserved-then-ne
loop-j-preserved-then-ne c = all_skips _ _ _ _ _ _ _ _ _ _ _ _ _ _ _ _ c.loop-j.invariant c.args.self.now.resolved c.requires.0 c.loop-j-test.true c.ne.ensures c.if-ne.true

pub returns-in_err-here : goal.returns-in_err-here
returns-in_err-here c = rw c.from_residual.ensures (low_stops _ _ _ _ _ _ _ _ _ _ _ _ _ _ _ _ c.loop-j.invariant _ _ _ _ c.args.self.now.resolved c.requires.0 c.loop-j-test.true c.ne.ensures c.if-ne.false refl c.low_32-start.ensures c.add_tree.ensures c.in_err-here.was)

pub loop-j-preserved : goal.loop-j-preserved
loop-j-preserved c = low_goes _ _ _ _ _ _ _ _ _ _ _ _ _ _ _ _ c.loop-j.invariant _ _ _ _ c.args.self.now.resolved c.requires.0 c.loop-j-test.true c.ne.ensures c.if-ne.false refl c.low_32-start.ensures c.add_tree.ensures _ c.in_ok-here.was

pub returns : goal.returns
returns c = search (arrivals, rules)
