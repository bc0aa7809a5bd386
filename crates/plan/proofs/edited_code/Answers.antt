-- Its own, or its edit's.
use Rattle.plan.specs.Origin.{edited_code}
use Rattle.plan.proofs.edited_code.Goals as goal

pub returns-in-None : goal.returns-in-None
unfolding edited_code
returns-in-None c = rw c.in-None.is c.code_at.ensures

pub returns-in-Some : goal.returns-in-Some
unfolding edited_code
returns-in-Some c = rw c.in-Some.is c.new_code_at.ensures
