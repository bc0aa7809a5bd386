-- A place above 0 has a slot before it.
use Rattle.std.proofs.Common.{arith}
use Rattle.std.proofs.lemmas.Grind.{common_steps}
use Rattle.record.proofs.Slots.{slotting}
use Rattle.record.proofs.slot_before.Goals as goal

pub returns : goal.returns
returns c = grind (arith, common_steps, slotting)
