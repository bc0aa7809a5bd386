-- The bits of an id turned twice are the bits.
use Rattle.index.proofs.Looking.{placing}
use borrow.Author.Rules.{rules}
use Rattle.index.proofs.found_at.Goals as goal

pub returns : goal.returns
returns c = search (placing, rules)
