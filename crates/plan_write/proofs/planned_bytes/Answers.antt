-- The three kinds of sources in turn.
use Rattle.plan.proofs.Origins.{base_there, added_there, edited_there}
use Rattle.plan.proofs.Sourcing.{sits_in}
use Rattle.plan_write.proofs.Rows.{writing}
use borrow.Author.Rules.{rules}
use Rattle.plan_write.proofs.planned_bytes.Goals as goal

pub kept_bytes-requires : goal.kept_bytes-requires
kept_bytes-requires c = base_there _ _ _ _ _ (sits_in _ _ c.requires) c.origin_of.ensures _ c.in-Base.is

pub kept_bytes-requires-in-Added : goal.kept_bytes-requires-in-Added
kept_bytes-requires-in-Added c = added_there _ _ _ _ _ (sits_in _ _ c.requires) c.origin_of.ensures _ c.in-Added.is

pub edited_name_len-requires : goal.edited_name_len-requires
edited_name_len-requires c = edited_there _ _ _ _ _ (sits_in _ _ c.requires) c.origin_of.ensures _ c.in-Edited.is

pub edited_flags-requires : goal.edited_flags-requires
edited_flags-requires c = edited_there _ _ _ _ _ (sits_in _ _ c.requires) c.origin_of.ensures _ c.in-Edited.is

pub edited_code-requires : goal.edited_code-requires
edited_code-requires c = edited_there _ _ _ _ _ (sits_in _ _ c.requires) c.origin_of.ensures _ c.in-Edited.is

pub changed_bytes-requires : goal.changed_bytes-requires
changed_bytes-requires c = ((edited_there _ _ _ _ _ (sits_in _ _ c.requires) c.origin_of.ensures _ c.in-Edited.is).slot_in, c.edited_name_len.ensures.1)

pub returns-in-Base : goal.returns-in-Base
returns-in-Base c = search (writing, rules)

pub returns-in-Added : goal.returns-in-Added
returns-in-Added c = search (writing, rules)

pub returns-in-Edited : goal.returns-in-Edited
returns-in-Edited c = search (writing, rules)
