-- The source at the place sits, so its name is a part of its pool.
use Rattle.plan.proofs.Naming.{sourced}
use borrow.Author.Rules.{rules}
use Rattle.plan.proofs.name_of.Goals as goal

pub returns : goal.returns
returns c = search (sourced, rules)
