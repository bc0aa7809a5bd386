-- The three kinds of sources in turn.
use Rattle.plan.proofs.Origins.{telling}
use borrow.Author.Rules.{rules}
use Rattle.plan.proofs.planned_name_len.Goals as goal

pub name_len_at-requires : goal.name_len_at-requires
name_len_at-requires c = search (telling, rules)

pub name_len_at-requires-in-Added : goal.name_len_at-requires-in-Added
name_len_at-requires-in-Added c = search (telling, rules)

pub edited_name_len-requires : goal.edited_name_len-requires
edited_name_len-requires c = search (telling, rules)

pub returns-in-Base : goal.returns-in-Base
returns-in-Base c = search (telling, rules)

pub returns-in-Added : goal.returns-in-Added
returns-in-Added c = search (telling, rules)

pub returns-in-Edited : goal.returns-in-Edited
returns-in-Edited c = search (telling, rules)
