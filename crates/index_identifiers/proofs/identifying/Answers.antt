-- What the plan says of its kind, flags and code.
use Rattle.index_identifiers.proofs.Above.{asking}
use borrow.Author.Rules.{rules}
use Rattle.index_identifiers.proofs.identifying.Goals as goal

pub returns : goal.returns
returns c = search (asking, rules)
