-- What is directly inside each record below the place reached fits.
use Rattle.tree.proofs.Fitted.{FitBelow}
use Rattle.tree.proofs.labels_fit.Given as goal

abbrev pub invariant-loop-slot : goal.invariant-loop-slot
invariant-loop-slot l = FitBelow l.pool l.recs l.n l.slot
