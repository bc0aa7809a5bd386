-- The own name is put at the end, then what stands above it: `Climbing`.
use Rattle.lister_lines.proofs.Climbing.{climbing, climb_dot, climb_goes}
use borrow.Author.Rules.{rules}
use Rattle.lister_lines.proofs.put_full.Goals as goal

pub overflow_sub-from : goal.overflow_sub-from
overflow_sub-from c = search (climbing, rules)

pub put_bytes-requires : goal.put_bytes-requires
put_bytes-requires c = search (climbing, rules)

pub returns-then-up-eq0 : goal.returns-then-up-eq0
returns-then-up-eq0 c = (search (climbing, rules), search rules)

pub overflow_sub-end : goal.overflow_sub-end
overflow_sub-end c = climb_dot _ _ _ _ _ _ _ _ _ _ _ c.loop-slot.invariant _ c.name_of-name.ensures _ c.cell-up.ensures.0 c.if-up-eq0.false

pub loop-slot-preserved : goal.loop-slot-preserved
loop-slot-preserved c = search (climb_goes, rules)
