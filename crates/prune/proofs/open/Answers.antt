-- The three tests are those of the entry, in its order. Assumes nothing.
use borrow.Author.Rules.{rules}
use Rattle.record_limits.proofs.Within.{ids_within}
use Rattle.prune.proofs.Steps.{opening}
use Rattle.prune.proofs.open.Goals as goal

pub returns-then-not-room : goal.returns-then-not-room
returns-then-not-room c = search (opening, rules)

pub returns-then-not-sized_ids : goal.returns-then-not-sized_ids
returns-then-not-sized_ids c = search (opening, rules)

pub check_tree-requires : goal.check_tree-requires
check_tree-requires c = search (ids_within, rules)

pub returns : goal.returns
returns c = search (opening, rules)
