-- The base is a plan of itself, so the index answers for the tree.
use Rattle.index.proofs.Opening.{basing}
use borrow.Author.Rules.{rules}
use Rattle.index.proofs.index_base.Goals as goal

pub take_base-requires : goal.take_base-requires
take_base-requires c = search (basing, rules)

pub index_plan-requires : goal.index_plan-requires
index_plan-requires c = search (basing, rules)

pub returns : goal.returns
returns c = search (basing, rules)
