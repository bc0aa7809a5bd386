-- What is left of the members tells whether the name is taken.
use native.Mathlib.Omega.{arith}
use borrow.Author.Rules.{rules}
use Rattle.laws.proofs.Fitting.{lowest_none}
use Rattle.update_parents.proofs.Members.{scanning, scan_in}
use Rattle.update_parents.proofs.name_taken.Goals as goal

pub takes-requires : goal.takes-requires
takes-requires c =
    let p = c.requires in
    let i = scan_in _ _ _ _ _ _ _ _ _ c.loop.invariant c.loop-test.true in
    (omega (arith, i, p.0.whole), lowest_none _ 0 _ p.1 _ (omega arith) (omega arith))

pub tree_end-at-requires : goal.tree_end-at-requires
tree_end-at-requires c = search (scanning, rules)

pub loop-preserved : goal.loop-preserved
loop-preserved c = search (scanning, rules)
