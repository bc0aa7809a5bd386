-- Each role is a clause of the definition.
use Rattle.std.proofs.Common.{rules}
use Rattle.tree.proofs.Labels.{fits}
use Rattle.tree.proofs.fits_role.Goals as goal

pub returns-in-Member : goal.returns-in-Member
returns-in-Member c = search (fits, rules)

pub returns-in-Element : goal.returns-in-Element
returns-in-Element c = search (fits, rules)

pub returns-in-Key : goal.returns-in-Key
returns-in-Key c = search (fits, rules)

pub returns-in-Value : goal.returns-in-Value
returns-in-Value c = search (fits, rules)
