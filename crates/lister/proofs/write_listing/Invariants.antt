-- Each turn that fills the buffer leaves less of the listing.
use Rattle.std.proofs.Common.{◌≤◌, length, ◌-◌}
use Rattle.paper.specs.Lister.{lister}
use Rattle.lister.proofs.write_listing.Given as goal

abbrev pub invariant-loop-error : goal.invariant-loop-error
invariant-loop-error g l = l.at ≤ length (lister l.records l.names)

abbrev pub decreases-loop-error : goal.decreases-loop-error
decreases-loop-error g l = length (lister l.records l.names) - l.at
