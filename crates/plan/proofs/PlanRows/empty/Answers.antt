-- As the definition has them.
use Rattle.std.proofs.Common.{refl}
use Rattle.plan.specs.Table.{no_rows}
use Rattle.plan.proofs.PlanRows.empty.Goals as goal

pub returns-clause-zeros : goal.returns-clause-zeros
unfolding no_rows
returns-clause-zeros c = refl
