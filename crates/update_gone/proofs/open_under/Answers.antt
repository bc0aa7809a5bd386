-- The slot before the place is that of the record above.
use borrow.Author.Rules.{rules}
use Rattle.update_gone.proofs.Leaving.{opening}
use Rattle.update_gone.proofs.open_under.Goals as goal

pub returns-in-Some : goal.returns-in-Some
returns-in-Some c = search (opening, rules)
