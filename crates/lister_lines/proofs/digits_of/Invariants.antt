-- Each turn writes the last digit of what is left before those that are written.
use Rattle.lister_lines.proofs.Counting.{Counting}
use Rattle.lister_lines.proofs.digits_of.Given as goal

abbrev pub invariant-loop-left : goal.invariant-loop-left
invariant-loop-left l = Counting l.number l.start l.left l.bytes

abbrev pub decreases-loop-left : goal.decreases-loop-left
decreases-loop-left l = l.left
