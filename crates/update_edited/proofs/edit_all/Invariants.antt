-- What is left of the edits, behind those that the marks carry, is the whole. Assumes nothing.
use Rattle.record.specs.Trees.{trees_in}
use Rattle.plan.specs.Table.{fields_in}
use Rattle.update_dropped.specs.Set.{dropped_ids}
use Rattle.update_edited.proofs.Editing.{Editing}
use Rattle.update_edited.proofs.edit_all.Given as goal

abbrev pub invariant-loop-k : goal.invariant-loop-k
invariant-loop-k l = Editing (trees_in l.trees) l.given.version l.given.base l.given.edits (fields_in (trees_in l.trees) l.plan l.given.base) (dropped_ids l.dropped) l.k l.marks
