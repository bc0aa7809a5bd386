-- The four bytes of each new id go behind those of the earlier ones.
use borrow.Author.Rules.{rules}
use Rattle.renumber_identifiers.proofs.Mapping.{applying}
use Rattle.renumber_identifiers.proofs.apply_to_identifier_fields.Goals as goal

pub loop-i-init : goal.loop-i-init
loop-i-init c = search (applying, rules)

pub loop-i-preserved : goal.loop-i-preserved
loop-i-preserved c = search (applying, rules)

pub returns : goal.returns
returns c = search (applying, rules)
