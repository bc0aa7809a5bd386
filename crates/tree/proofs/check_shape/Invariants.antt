-- Each root takes a record at least, and what is left gives the whole answer.
use Rattle.tree.proofs.Roots.{Left}
use Prim.Native.Nat.{◌-◌}
use Rattle.paper.specs.Bytes.{kids_at}
use Rattle.paper.specs.Layout.{roots}
use Rattle.tree.specs.Says.{rooted}
use Rattle.tree.proofs.check_shape.Given as goal

abbrev pub invariant-loop-slot : goal.invariant-loop-slot
invariant-loop-slot l = Left l.list (kids_at l.recs) l.n (rooted 0 (roots l.list (kids_at l.recs) l.n l.n 0)) l.count l.slot

abbrev pub decreases-loop-slot : goal.decreases-loop-slot
decreases-loop-slot l = l.n - l.slot
