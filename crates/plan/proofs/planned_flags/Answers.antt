-- The three kinds of sources in turn.
use Rattle.plan.proofs.Origins.{telling}
use borrow.Author.Rules.{rules}
use Rattle.plan.proofs.planned_flags.Goals as goal

pub flags_at-requires : goal.flags_at-requires
flags_at-requires c = search (telling, rules)

pub flags_at-requires-in-Added : goal.flags_at-requires-in-Added
flags_at-requires-in-Added c = search (telling, rules)

pub edited_flags-requires : goal.edited_flags-requires
edited_flags-requires c = search (telling, rules)

pub returns-in-Base : goal.returns-in-Base
returns-in-Base c = search (telling, rules)

pub returns-in-Added : goal.returns-in-Added
returns-in-Added c = search (telling, rules)

pub returns-in-Edited : goal.returns-in-Edited
returns-in-Edited c = search (telling, rules)
