-- A row that was read ends where it was read to.
use Rattle.tree.proofs.Steps.{ends}
use borrow.Author.Rules.{rules}
use Rattle.tree.proofs.row_past.Goals as goal

pub returns-in_default : goal.returns-in_default
returns-in_default c = search (ends, rules)

pub returns : goal.returns
returns c = search (ends, rules)
