-- Each turn writes the last digit of what is left before those that are written.
use Rattle.lister_lines.proofs.Counting.{counting}
use borrow.Author.Rules.{rules}
use Rattle.lister_lines.proofs.digits_of.Goals as goal

pub loop-left-init : goal.loop-left-init
loop-left-init c = search (counting, rules)

pub returns-then-start-eq0 : goal.returns-then-start-eq0
returns-then-start-eq0 c = search (counting, rules)

pub loop-left-preserved : goal.loop-left-preserved
loop-left-preserved c = search (counting, rules)

pub returns : goal.returns
returns c = search (counting, rules)
