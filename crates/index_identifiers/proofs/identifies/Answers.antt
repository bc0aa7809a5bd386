-- What the id finds is at the lowest slot that has it; the column and those above it decide.
use Rattle.index_identifiers.proofs.Above.{holding_up}
use Rattle.index_identifiers.proofs.Naming.{finding}
use borrow.Author.Rules.{rules, scaled_Fits}
use Rattle.index_identifiers.proofs.identifies.Goals as goal

pub returns-in_default : goal.returns-in_default
returns-in_default c = search (finding, holding_up, rules)

pub offset_bounds-plan-k : goal.offset_bounds-plan-k
offset_bounds-plan-k c = scaled_Fits _ 1024 _ (search (finding, rules)) (search rules)

pub bounds-plan-k : goal.bounds-plan-k
bounds-plan-k c = search (finding, holding_up, rules)

pub identifying-requires : goal.identifying-requires
identifying-requires c = search (finding, holding_up, rules)

pub returns-then-not-identifying : goal.returns-then-not-identifying
returns-then-not-identifying c = search (finding, holding_up, rules)

pub held-requires : goal.held-requires
held-requires c = search (finding, holding_up, rules)

pub returns : goal.returns
returns c = search (finding, holding_up, rules)
