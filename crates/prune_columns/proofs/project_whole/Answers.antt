-- A record with its inside is a row of one tree. Assumes nothing.
use Rattle.prune_columns.proofs.Planning.{planning}
use borrow.Author.Rules.{rules}
use Rattle.prune_columns.proofs.project_whole.Goals as goal

pub copy_trees-requires : goal.copy_trees-requires
copy_trees-requires c = search (planning, rules)

pub returns : goal.returns
returns c = search (planning, rules)
