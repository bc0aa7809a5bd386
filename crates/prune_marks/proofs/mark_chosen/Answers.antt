-- Each chosen id marks the one slot that has it. Assumes nothing.
use borrow.Author.Rules.{rules}
use Rattle.prune_marks.proofs.Marking.{marking}
use Rattle.prune_marks.proofs.mark_chosen.Goals as goal

pub loop-i-init : goal.loop-i-init
loop-i-init c = search (marking, rules)

pub mark-requires : goal.mark-requires
mark-requires c = search (marking, rules)

pub loop-i-preserved : goal.loop-i-preserved
loop-i-preserved c = search (marking, rules)

pub returns : goal.returns
returns c = search (marking, rules)
