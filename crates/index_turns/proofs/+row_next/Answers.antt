-- What is left of the row ends where the whole ends; levels fall.
use mathlib.Core.Path.{refl}
use native.Mathlib.Omega.{arith}
use Rattle.index_turns.proofs.Nexts.{nexts, next_goes, next_done}
use borrow.Author.Rules.{rules}
use Rattle.index_turns.proofs.+row_next.Goals as goal

pub returns-then-row-eq0 : goal.returns-then-row-eq0
returns-then-row-eq0 t c = search (nexts, rules)

pub returns-then-m-at : goal.returns-then-m-at
returns-then-m-at t c = search (nexts, rules)

pub loop-done-preserved : goal.loop-done-preserved
loop-done-preserved t c = next_goes _ _ _ _ _ _ c.loop-done.invariant _ _ _ c.if-row-eq0.false (omega arith) (omega arith) c.if-m-at.false refl c.row_next-at.ensures

pub returns : goal.returns
returns t c = next_done _ _ _ _ _ _ c.loop-done.invariant (omega arith)
