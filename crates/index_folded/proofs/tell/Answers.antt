-- The slots are those of a tree within the limits.
use Rattle.index_folded.proofs.Looking.{telling}
use borrow.Author.Rules.{rules}
use Rattle.index_folded.proofs.tell.Goals as goal

pub with_id-requires : goal.with_id-requires
with_id-requires c = search (telling, rules)

pub returns-in-Break : goal.returns-in-Break
returns-in-Break c = search (telling, rules)

pub returns-in-Continue : goal.returns-in-Continue
returns-in-Continue c = search (telling, rules)
