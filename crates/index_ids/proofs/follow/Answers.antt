-- What is left of the way gives the whole answer; each step asks a bit that was left.
use Prim.Native.Nat.{◌<◌}
use native.Mathlib.Omega.{arith}
use Rattle.index_ids.proofs.IdLaws.{ids}
use borrow.Author.Rules.{rules}
use Rattle.index_ids.proofs.follow.Goals as goal

pub loop-at-init : goal.loop-at-init
loop-at-init c = search (ids, rules)

pub returns-then-same_id : goal.returns-then-same_id
returns-then-same_id c = let l : 0 < c.loop-at.at = omega arith in search (ids, rules)

pub overflow_sub-left : goal.overflow_sub-left
overflow_sub-left c = let l : 0 < c.loop-at.at = omega arith in search (ids, rules)

pub loop-at-smaller : goal.loop-at-smaller
loop-at-smaller c = let l : 0 < c.loop-at.at = omega arith in search (ids, rules)

pub loop-at-preserved : goal.loop-at-preserved
loop-at-preserved c = let l : 0 < c.loop-at.at = omega arith in search (ids, rules)

pub returns : goal.returns
returns c = search (ids, rules)
