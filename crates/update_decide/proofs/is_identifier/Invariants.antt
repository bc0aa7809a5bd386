-- What is left of the identifiers tells.
use Prim.Native.Nat.{◌/◌}
use lib.ListN.{length}
use Rattle.paper.specs.Bytes.{turned}
use Rattle.update_decide.proofs.Deleting.{Seeking}
use Rattle.update_decide.proofs.is_identifier.Given as goal

abbrev pub invariant-loop-i : goal.invariant-loop-i
invariant-loop-i l = Seeking l.identifiers (length l.identifiers / 4) (turned l.id.0) l.i
