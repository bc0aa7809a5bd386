-- Under a record: the first inside it, or a later one.
use Rattle.update_edits.proofs.Roles.{roles}
use borrow.Author.Rules.{rules}
use Rattle.update_edits.proofs.role_at.Goals as goal

pub returns-then-slot-above : goal.returns-then-slot-above
returns-then-slot-above c = search (roles, rules)

pub returns : goal.returns
returns c = search (roles, rules)
