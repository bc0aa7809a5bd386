-- Each turn holds as many bytes as the buffer can hold.
use Rattle.std.proofs.Common.{◌≤◌, length}
use Rattle.recorded.proofs.replay_file.Given as goal

abbrev pub invariant-loop : goal.invariant-loop
invariant-loop g l = l.held ≤ length l.text
