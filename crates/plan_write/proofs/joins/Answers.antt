-- The two kinds of sources in turn.
use Rattle.plan_write.proofs.Running.{joining}
use borrow.Author.Rules.{rules}
use Rattle.plan_write.proofs.joins.Goals as goal

pub returns-then-source-ge1024 : goal.returns-then-source-ge1024
returns-then-source-ge1024 c = search (joining, rules)

pub returns : goal.returns
returns c = search (joining, rules)
