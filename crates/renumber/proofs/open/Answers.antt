-- The three tests are those of the entry, in its order.
use Rattle.record_limits.proofs.Within.{ids_within}
use Rattle.renumber.proofs.Entry.{opening}
use borrow.Author.Rules.{rules}
use Rattle.renumber.proofs.open.Goals as goal

pub returns-then-not-room_with_identifiers : goal.returns-then-not-room_with_identifiers
returns-then-not-room_with_identifiers c = search (opening, rules)

pub returns-then-not-sized_ids : goal.returns-then-not-sized_ids
returns-then-not-sized_ids c = search (opening, rules)

pub check_tree-requires : goal.check_tree-requires
check_tree-requires c = search (ids_within, rules)

pub returns : goal.returns
returns c = search (opening, rules)
