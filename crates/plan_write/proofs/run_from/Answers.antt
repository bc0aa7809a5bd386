-- The run so far and what is left behind it give all names from place i on.
use Rattle.plan_write.proofs.Running.{running}
use borrow.Author.Rules.{rules}
use Rattle.plan_write.proofs.run_from.Goals as goal

pub loop-next-init : goal.loop-next-init
loop-next-init c = search (running, rules)

pub returns-then-not-joins : goal.returns-then-not-joins
returns-then-not-joins c = search (running, rules)

pub name_len_at-end-requires : goal.name_len_at-end-requires
name_len_at-end-requires c = search (running, rules)

pub loop-next-preserved : goal.loop-next-preserved
loop-next-preserved c = search (running, rules)
