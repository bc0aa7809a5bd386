-- What arrives from the j-th addition on plans the rest.
use Rattle.update_rebuild.specs.Planned.{unders_in, firsts_in, starts_in}
use Rattle.update_rebuild.proofs.Arriving.{Rest}
use Rattle.update_rebuild.proofs.Rebuilder.add_all.Given as goal

abbrev pub invariant-loop-j : goal.invariant-loop-j
invariant-loop-j l = Rest l.self.added.now l.self.given.added (unders_in l.self.decisions.now) (firsts_in l.self.decisions.now) (starts_in l.self.decisions.now) l.self.given.additions l.q l.initial.here.next l.levels l.initial.here.at l.initial.here.count l.initial.here.visited l.initial.plan l.j l.here l.plan
