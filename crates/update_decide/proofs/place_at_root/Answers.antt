-- A name that is found and stays is taken.
use Rattle.update_decide.proofs.Placing.{rooting}
use borrow.Author.Rules.{rules}
use Rattle.update_decide.proofs.place_at_root.Goals as goal

pub returns-in_default : goal.returns-in_default
returns-in_default c = search (rooting, rules)

pub returns-then-holds : goal.returns-then-holds
returns-then-holds c = search (rooting, rules)

pub returns : goal.returns
returns c = search (rooting, rules)
