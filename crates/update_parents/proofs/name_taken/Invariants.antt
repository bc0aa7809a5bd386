-- What is left of the members tells whether the name is taken.
use Prim.Native.Nat.{◌-◌}
use Rattle.update_dropped.specs.Set.{dropped_ids}
use Rattle.update_parents.proofs.Members.{Scanning}
use Rattle.update_parents.proofs.name_taken.Given as goal

abbrev pub invariant-loop : goal.invariant-loop
invariant-loop l = Scanning l.pool l.recs l.n l.slot l.name (dropped_ids l.dropped) (l.end - l.counter) l.at
