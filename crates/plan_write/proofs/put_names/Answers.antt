-- What is left to write gives the whole; each name and each run has room, since a plan's name sum is within the limit.
use Rattle.plan_write.proofs.Writing.{name_goes, run_put, names_end, naming}
use mathlib.Core.Path.{refl}
use borrow.Author.Rules.{rules}
use Rattle.plan_write.proofs.put_names.Goals as goal

pub put_bytes-requires : goal.put_bytes-requires
put_bytes-requires c = search (naming, rules)

pub loop-i-preserved-then-source-ge1024 : goal.loop-i-preserved-then-source-ge1024
loop-i-preserved-then-source-ge1024 c = name_goes _ _ _ c.requires.0 _ _ _ _ c.loop-i.invariant c.loop-i-test.true _ c.source_at-source.ensures _ c.planned_name-name.ensures.name _ c.put_bytes.ensures

pub put_bytes-requires-in-loop-i : goal.put_bytes-requires-in-loop-i
put_bytes-requires-in-loop-i c = search (naming, rules)

pub overflow_add-to-in-loop-i : goal.overflow_add-to-in-loop-i
overflow_add-to-in-loop-i c = let z = (run_put _ _ _ c.requires.0 _ _ _ _ c.loop-i.invariant _ _ _ c.run_from-run.ensures _ refl _ refl).small in search rules

pub loop-i-preserved : goal.loop-i-preserved
loop-i-preserved c = run_put _ _ _ c.requires.0 _ _ _ _ c.loop-i.invariant _ _ _ c.run_from-run.ensures _ refl _ c.put_bytes-in-loop-i.ensures

pub returns : goal.returns
returns c = names_end _ _ _ c.requires.0 _ _ _ _ c.loop-i.invariant c.loop-i-test.false c.requires.1
