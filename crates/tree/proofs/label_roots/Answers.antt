-- Where all names are seen to fit there is nothing to walk.
use Rattle.tree.proofs.Fitted.{passed, all_fits}
use borrow.Author.Rules.{rules}
use Rattle.tree.proofs.label_roots.Goals as goal

pub labels_fit-requires : goal.labels_fit-requires
labels_fit-requires c = search (passed, rules)

pub returns-then-labels_fit : goal.returns-then-labels_fit
returns-then-labels_fit c = search (all_fits, rules)
