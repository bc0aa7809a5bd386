-- Up to the place reached it is known whether the two fold to the same, so what is left decides the rest.
use mathlib.Core.Path.{◌≡◌}
use mathlib.Core.Bool.{◌&&◌}
use Prim.Native.Nat.{◌≤◌}
use lib.ListN.{drop}
use Rattle.paper.specs.Answer.{same}
use Rattle.paper.specs.Folded.{folded}
use Rattle.index_turns.proofs.equal_folded.Given as goal

abbrev pub invariant-loop-i : goal.invariant-loop-i
invariant-loop-i l = (l.i ≤ l.n) × (same (folded l.a) (folded l.b) ≡ (l.so_far && same (drop l.i (folded l.a)) (drop l.i (folded l.b))))
