-- Only open siblings take additions.
use borrow.Author.Rules.{rules}
use Rattle.update_rebuild.proofs.Rebuilding.{closes}
use Rattle.update_rebuild.proofs.Rebuilder.close.Goals as goal

pub returns-then-under : goal.returns-then-under
returns-then-under c = search (closes, rules)

pub returns : goal.returns
returns c = search (closes, rules)
