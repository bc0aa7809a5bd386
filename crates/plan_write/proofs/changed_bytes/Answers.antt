-- The definition word for word.
use Rattle.plan_write.specs.Written.{row_of}
use Rattle.plan_write.proofs.changed_bytes.Goals as goal

pub returns : goal.returns
unfolding row_of
returns c = cc
