-- The three kinds of sources in turn.
use Rattle.plan.proofs.Origins.{telling}
use borrow.Author.Rules.{rules}
use Rattle.plan.proofs.planned_code.Goals as goal

pub code_at-requires : goal.code_at-requires
code_at-requires c = search (telling, rules)

pub code_at-requires-in-Added : goal.code_at-requires-in-Added
code_at-requires-in-Added c = search (telling, rules)

pub edited_code-requires : goal.edited_code-requires
edited_code-requires c = search (telling, rules)

pub returns-in-Base : goal.returns-in-Base
returns-in-Base c = search (telling, rules)

pub returns-in-Added : goal.returns-in-Added
returns-in-Added c = search (telling, rules)

pub returns-in-Edited : goal.returns-in-Edited
returns-in-Edited c = search (telling, rules)
