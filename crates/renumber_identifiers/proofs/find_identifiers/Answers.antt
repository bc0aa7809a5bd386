-- 9 was tested, so each identifier is found; its slot goes to the identifier's place.
use borrow.Author.Rules.{rules}
use Rattle.renumber_identifiers.proofs.Mapping.{finding}
use Rattle.renumber_identifiers.proofs.find_identifiers.Goals as goal

pub returns-in_default : goal.returns-in_default
returns-in_default c = search (finding, rules)

pub overflow_cast-slots : goal.overflow_cast-slots
overflow_cast-slots c = search (finding, rules)

pub loop-i-preserved : goal.loop-i-preserved
loop-i-preserved c = search (finding, rules)
