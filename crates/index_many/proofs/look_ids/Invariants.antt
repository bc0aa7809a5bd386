-- The four bytes of each slot go behind those of the earlier ones.
use Rattle.index_many.proofs.Looking.{Looking}
use Rattle.index_many.proofs.look_ids.Given as goal

abbrev pub invariant-loop-i : goal.invariant-loop-i
invariant-loop-i l = Looking l.plan l.m l.ids l.initial.out l.n l.i l.met l.out
