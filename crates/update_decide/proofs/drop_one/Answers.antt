-- Nothing found is 11, an identifier 12.
use Rattle.update_decide.proofs.Deleting.{deleting}
use borrow.Author.Rules.{rules}
use Rattle.update_decide.proofs.drop_one.Goals as goal

pub returns-in_default : goal.returns-in_default
returns-in_default c = search (deleting, rules)

pub returns-then-is_identifier : goal.returns-then-is_identifier
returns-then-is_identifier c = search (deleting, rules)

pub returns : goal.returns
returns c = search (deleting, rules)
