-- Each turn shows one line more: `Listing`.
use Rattle.record.specs.Trees.{trees_in}
use Rattle.lister_lines.specs.Text.{line_at}
use Rattle.lister_lines.proofs.Showing.{Listing}
use Rattle.lister_lines.proofs.list_rows.Given as goal

abbrev pub invariant-loop-slot : goal.invariant-loop-slot
invariant-loop-slot l = Listing (line_at (trees_in l.names.trees.now) l.names.plan.now l.names.index.now) l.names.m l.from l.initial.line l.initial.out l.line l.out l.at l.slot
