-- A whole number of records is few enough for the sum.
use Rattle.record_limits.proofs.Within.{sizing}
use borrow.Author.Rules.{rules}
use Rattle.record_limits.proofs.sized_tree.Goals as goal

pub returns-then-not-whole_list : goal.returns-then-not-whole_list
returns-then-not-whole_list c = search (sizing, rules)

pub name_sum-requires : goal.name_sum-requires
name_sum-requires c = search (sizing, rules)

pub returns : goal.returns
returns c = search (sizing, rules)
