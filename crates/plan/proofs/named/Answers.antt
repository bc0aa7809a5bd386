-- 0 has no number below it.
use Rattle.plan.proofs.Origins.{named_by}
use Rattle.plan.proofs.named.Goals as goal

pub returns : goal.returns
returns c = named_by _ _ c.checked_sub.ensures
