-- The walk tells the full names, and the chains tell which are equal.
use Rattle.index.proofs.Sounding.{names_marked, names_indexed}
use borrow.Author.Rules.{rules}
use Rattle.index.proofs.index_names.Goals as goal

pub check_names-requires : goal.check_names-requires
check_names-requires c = names_marked _ _ _ _ _ _ _ c.requires.0 c.requires.1.0 c.requires.1.1 c.mark_row.ensures

pub returns : goal.returns
returns c = search (names_indexed, rules)
