-- The three kinds of sources in turn.
use Rattle.plan.proofs.Origins.{telling}
use borrow.Author.Rules.{rules}
use Rattle.plan.proofs.planned_kind.Goals as goal

pub kind_at-requires : goal.kind_at-requires
kind_at-requires c = search (telling, rules)

pub kind_at-requires-in-Added : goal.kind_at-requires-in-Added
kind_at-requires-in-Added c = search (telling, rules)

pub kind_at-requires-in-Edited : goal.kind_at-requires-in-Edited
kind_at-requires-in-Edited c = search (telling, rules)

pub returns-in-Base : goal.returns-in-Base
returns-in-Base c = search (telling, rules)

pub returns-in-Added : goal.returns-in-Added
returns-in-Added c = search (telling, rules)

pub returns-in-Edited : goal.returns-in-Edited
returns-in-Edited c = search (telling, rules)
