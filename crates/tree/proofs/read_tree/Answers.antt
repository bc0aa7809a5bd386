-- What passes 2 is short enough for `decode`.
use Rattle.tree.proofs.Deciding.{reading}
use borrow.Author.Rules.{rules}
use Rattle.tree.proofs.read_tree.Goals as goal

pub returns-then-not-sized : goal.returns-then-not-sized
returns-then-not-sized c = search (reading, rules)

pub check_tree-requires : goal.check_tree-requires
check_tree-requires c = search (reading, rules)

pub returns : goal.returns
returns c = search (reading, rules)
