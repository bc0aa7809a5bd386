-- Its pool's own part, for the three kinds of sources in turn.
use Rattle.plan.proofs.Origins.{base_sits, added_sits, edited_sits, renamed_sits, naming}
use borrow.Author.Rules.{rules}
use Rattle.plan.proofs.planned_name.Goals as goal

pub name_at-requires : goal.name_at-requires
name_at-requires c = base_sits _ _ _ c.requires c.origin_of.ensures _ c.in-Base.is

pub name_at-requires-in-Added : goal.name_at-requires-in-Added
name_at-requires-in-Added c = added_sits _ _ _ c.requires c.origin_of.ensures _ c.in-Added.is

pub name_at-requires-in-None : goal.name_at-requires-in-None
name_at-requires-in-None c = edited_sits _ _ _ c.requires c.origin_of.ensures _ c.in-Edited.is

pub new_name_at-requires : goal.new_name_at-requires
new_name_at-requires c = renamed_sits _ _ _ c.requires c.origin_of.ensures _ c.in-Edited.is _ c.in-Some.is

pub returns-in-Base : goal.returns-in-Base
returns-in-Base c = search (naming, rules)

pub returns-in-Added : goal.returns-in-Added
returns-in-Added c = search (naming, rules)

pub returns-in-None : goal.returns-in-None
returns-in-None c = search (naming, rules)

pub returns-in-Some : goal.returns-in-Some
returns-in-Some c = search (naming, rules)
