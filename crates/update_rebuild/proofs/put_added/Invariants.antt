-- After each turn a longer run of the records stands in the plan.
use Rattle.paper.specs.Bytes.{kids_at}
use Rattle.update_rebuild.proofs.Adding.{Adding}
use Rattle.update_rebuild.proofs.put_added.Given as goal

abbrev pub invariant-loop-i : goal.invariant-loop-i
invariant-loop-i l = Adding (kids_at l.added) l.slot l.count l.id l.initial.plan l.at l.i l.plan
