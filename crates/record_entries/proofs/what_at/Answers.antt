-- One arm for each of the three.
use Rattle.record_entries.proofs.Entries.{telling}
use borrow.Author.Rules.{rules}
use Rattle.record_entries.proofs.what_at.Goals as goal

pub returns-in-1 : goal.returns-in-1
returns-in-1 c = search (telling, rules)

pub returns-in-2 : goal.returns-in-2
returns-in-2 c = search (telling, rules)

pub returns-in_default : goal.returns-in_default
returns-in_default c = search (telling, rules)
