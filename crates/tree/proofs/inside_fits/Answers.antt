-- By the byte rules a list has one member and a map two, so they stand next to it.
use Rattle.tree.proofs.Fitted.{next_asks, after_asks, fitted}
use borrow.Author.Rules.{rules}
use Rattle.tree.proofs.inside_fits.Goals as goal

pub returns-then-kind-lt2 : goal.returns-then-kind-lt2
returns-then-kind-lt2 c = search (fitted, rules)

pub label_ok-requires : goal.label_ok-requires
label_ok-requires c = next_asks _ _ _ c.requires c.if-kind-lt2.false

pub returns-then-kind-eq2 : goal.returns-then-kind-eq2
returns-then-kind-eq2 c = search (fitted, rules)

pub kids_at-requires : goal.kids_at-requires
kids_at-requires c = (next_asks _ _ _ c.requires c.if-kind-lt2.false).0

pub label_ok-requires-2 : goal.label_ok-requires-2
label_ok-requires-2 c = next_asks _ _ _ c.requires c.if-kind-lt2.false

pub label_ok-requires-3 : goal.label_ok-requires-3
label_ok-requires-3 c = after_asks _ _ _ c.requires c.if-kind-lt2.false c.if-kind-eq2.false

pub returns : goal.returns
returns c = search (fitted, rules)
