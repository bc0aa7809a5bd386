-- Each test is a clause of the definition.
use Rattle.record.proofs.Naming.{kinds}
use Rattle.record.proofs.kind_of.Goals as goal

pub returns-then-b-eq0 : goal.returns-then-b-eq0
returns-then-b-eq0 c = search kinds

pub returns-then-b-eq1 : goal.returns-then-b-eq1
returns-then-b-eq1 c = search kinds

pub returns-then-b-eq2 : goal.returns-then-b-eq2
returns-then-b-eq2 c = search kinds

pub returns : goal.returns
returns c = search kinds
