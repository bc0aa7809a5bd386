-- Each turn shows one line more: `Listing`.
use Rattle.lister_lines.proofs.Showing.{rowing}
use borrow.Author.Rules.{rules}
use Rattle.lister_lines.proofs.list_rows.Goals as goal

pub loop-slot-init : goal.loop-slot-init
loop-slot-init c = search (rowing, rules)

pub loop-slot-preserved : goal.loop-slot-preserved
loop-slot-preserved c = search (rowing, rules)

pub returns : goal.returns
returns c = search (rowing, rules)
