-- The four bytes of each new id go behind those of the earlier ones.
use Rattle.plan.specs.Table.{numbers}
use Rattle.renumber_identifiers.proofs.Mapping.{Applying}
use Rattle.renumber_identifiers.proofs.apply_to_identifier_fields.Given as goal

abbrev pub invariant-loop-i : goal.invariant-loop-i
invariant-loop-i l = Applying l.slots (numbers l.plan) l.initial.out l.n l.i l.out
