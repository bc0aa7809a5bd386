-- Whatever marks the rest of the row marks the whole; levels fall.
use Rattle.index_names.proofs.Marking.{mark_deep, onward_past, onward_done, onward_leaf, onward_goes}
use native.Mathlib.Omega.{arith}
use borrow.Author.Rules.{rules}
use Rattle.index_names.proofs.+mark_row.Goals as goal

pub returns-then-row-eq0 : goal.returns-then-row-eq0
returns-then-row-eq0 t c = search (mark_deep, rules)

pub returns-then-m-at : goal.returns-then-m-at
returns-then-m-at t c = search (onward_past, rules)

pub loop-done-preserved-then-members-eq0 : goal.loop-done-preserved-then-members-eq0
loop-done-preserved-then-members-eq0 t c = onward_leaf _ _ _ _ _ _ _ _ _ _ _ _ _ c.loop-done.invariant _ _ (search rules) (search rules) c.mark_one-dotted.ensures _ (omega arith) c.if-members-eq0.true

pub loop-done-preserved : goal.loop-done-preserved
loop-done-preserved t c = onward_goes _ _ _ _ _ _ _ _ _ _ _ _ _ c.loop-done.invariant _ _ (search rules) (search rules) c.mark_one-dotted.ensures _ (omega arith) _ _ _ (search rules) c.mark_row-at.ensures

pub returns : goal.returns
returns t c = onward_done _ _ _ _ _ _ _ _ _ _ _ _ _ _ c.loop-done.invariant (search rules) (omega arith)
