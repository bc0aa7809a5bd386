-- 9 was tested, so each identifier is found; its slot goes to the identifier's place.
use Rattle.plan.specs.Table.{numbers}
use Rattle.renumber_identifiers.proofs.Mapping.{Finding}
use Rattle.renumber_identifiers.proofs.find_identifiers.Given as goal

abbrev pub invariant-loop-i : goal.invariant-loop-i
invariant-loop-i l = Finding l.identifiers (numbers l.plan) l.m l.i l.slots
