-- The tree is a row of one; its records follow each other.
use borrow.Author.Rules.{rules}
use Rattle.update_rebuild.proofs.Trees.{growing}
use Rattle.update_rebuild.proofs.add_tree.Goals as goal

pub returns-in_default : goal.returns-in_default
returns-in_default c = search (growing, rules)

pub overflow_sub-size : goal.overflow_sub-size
overflow_sub-size c = search (growing, rules)

pub returns-then-place-size : goal.returns-then-place-size
returns-then-place-size c = search (growing, rules)

pub put_added-requires : goal.put_added-requires
put_added-requires c = search (growing, rules)

pub returns : goal.returns
returns c = search (growing, rules)
