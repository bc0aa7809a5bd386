-- What is directly inside each record below the place reached fits.
use Rattle.tree.proofs.Fitted.{fit_all}
use borrow.Author.Rules.{rules}
use Rattle.tree.proofs.labels_fit.Goals as goal

pub returns-then-not-nested : goal.returns-then-not-nested
returns-then-not-nested c = search (fit_all, rules)

pub inside_fits-requires : goal.inside_fits-requires
inside_fits-requires c = search (fit_all, rules)
