-- The identifiers below i may identify, and what is left gives the whole answer.
use Rattle.record.specs.Trees.{trees_in}
use Rattle.plan.specs.Table.{fields_in}
use Rattle.index_identifiers.proofs.Naming.{Naming}
use Rattle.index_identifiers.proofs.check_identifiers.Given as goal

abbrev pub invariant-loop-i : goal.invariant-loop-i
invariant-loop-i l = Naming l.identifiers (fields_in (trees_in l.trees) l.plan l.m) l.n l.i
