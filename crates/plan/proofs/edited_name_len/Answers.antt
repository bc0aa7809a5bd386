-- Its own, or its edit's.
use Rattle.plan.specs.Origin.{edited_len}
use Rattle.plan.proofs.edited_name_len.Goals as goal

pub returns-in-None : goal.returns-in-None
unfolding edited_len
returns-in-None c = rw c.in-None.is c.name_len_at.ensures

pub returns-in-Some : goal.returns-in-Some
unfolding edited_len
returns-in-Some c = rw c.in-Some.is c.new_name_len.ensures
