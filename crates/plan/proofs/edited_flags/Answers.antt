-- Relaxed or as they are.
use Rattle.plan.specs.Origin.{edited_flags}
use Rattle.plan.proofs.edited_flags.Goals as goal

pub returns-then-edited : goal.returns-then-edited
unfolding edited_flags
returns-then-edited c = rw (c.if-edited.true, ← c.flags_at-flags.ensures) c.relaxed_flags.ensures

pub returns : goal.returns
unfolding edited_flags
returns c = rw c.if-edited.false c.flags_at-flags.ensures
