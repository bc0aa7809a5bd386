-- The identifiers below i may identify, and what is left gives the whole answer.
use Rattle.index_identifiers.proofs.Naming.{nine}
use borrow.Author.Rules.{rules}
use Rattle.index_identifiers.proofs.check_identifiers.Goals as goal

pub returns-then-not-identifies : goal.returns-then-not-identifies
returns-then-not-identifies c = search (nine, rules)

pub loop-i-preserved : goal.loop-i-preserved
loop-i-preserved c = search (nine, rules)

pub returns : goal.returns
returns c = search (nine, rules)
