-- All records below i keep 3 and 4, and the flag tells whether a list or a map is among them.
use Rattle.record.proofs.Sifting.{Sifting}
use Rattle.record.proofs.sift.Given as goal

abbrev pub invariant-loop-i : goal.invariant-loop-i
invariant-loop-i l = Sifting l.pool l.recs l.n l.i l.nested
