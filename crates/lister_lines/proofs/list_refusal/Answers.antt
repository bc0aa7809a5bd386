-- The line is shown whole, or a part of it.
use Rattle.lister_lines.proofs.Showing.{shown_line}
use borrow.Author.Rules.{rules}
use Rattle.lister_lines.proofs.list_refusal.Goals as goal

pub returns : goal.returns
returns c = search (shown_line, rules)
