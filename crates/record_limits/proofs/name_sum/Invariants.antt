-- What is summed and what is left make the whole sum.
use Rattle.record_limits.proofs.Summing.{Summed}
use Rattle.paper.specs.Limits.{name_lens}
use Rattle.record_limits.proofs.name_sum.Given as goal

abbrev pub invariant-loop-i : goal.invariant-loop-i
invariant-loop-i l = Summed (name_lens l.recs) l.n l.i l.sum
