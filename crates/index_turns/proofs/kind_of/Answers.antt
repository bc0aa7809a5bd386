-- The source at the place stands in its list.
use Rattle.plan.proofs.Naming.{sourced}
use borrow.Author.Rules.{rules}
use Rattle.index_turns.proofs.kind_of.Goals as goal

pub returns : goal.returns
returns c = search (sourced, rules)
