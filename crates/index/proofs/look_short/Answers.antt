-- The walk over all roots finds what the paper's short names find.
use Rattle.index.proofs.Looking.{shorts}
use borrow.Author.Rules.{rules}
use Rattle.index.proofs.look_short.Goals as goal

pub with_id-requires : goal.with_id-requires
with_id-requires c = search (shorts, rules)

pub returns : goal.returns
returns c = search (shorts, rules)
