-- Each turn passes the question on to the place above, and levels are left as long as there is one.
use Rattle.index_ids.specs.Table.{ups_in}
use Rattle.update_dropped.specs.Set.{dropped_ids}
use Rattle.update_gone.proofs.Leaving.{Leaving}
use Rattle.update_gone.proofs.is_gone.Given as goal

abbrev pub invariant-loop : goal.invariant-loop
invariant-loop l = Leaving l.recs l.n (ups_in l.index) (dropped_ids l.dropped) l.slot l.place l.counter
