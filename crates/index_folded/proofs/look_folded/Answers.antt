-- Full names first; without a dot there is no other; else the short names.
use Rattle.index_folded.proofs.Looking.{looking}
use borrow.Author.Rules.{rules}
use Rattle.index_folded.proofs.look_folded.Goals as goal

pub tell-requires : goal.tell-requires
tell-requires c = search (looking, rules)

pub returns-then-not-none_met : goal.returns-then-not-none_met
returns-then-not-none_met c = search (looking, rules)

pub returns-then-not-has_dot : goal.returns-then-not-has_dot
returns-then-not-has_dot c = search (looking, rules)

pub tell-requires-2 : goal.tell-requires-2
tell-requires-2 c = search (looking, rules)

pub returns : goal.returns
returns c = search (looking, rules)
