-- The slots below k stand on their paths, and what is left to test gives the whole answer.
use Rattle.plan.specs.Table.{numbers}
use Rattle.index_ids.proofs.IdLaws.{Checking}
use Rattle.index_ids.proofs.check_ids.Given as goal

abbrev pub invariant-loop-k : goal.invariant-loop-k
invariant-loop-k l = Checking (numbers l.plan) l.m l.initial.index l.index l.k
