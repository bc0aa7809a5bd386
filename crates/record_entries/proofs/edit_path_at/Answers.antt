-- The offset and the length are those of the edit, and 4 was tested.
use Rattle.record_entries.proofs.Entries.{editing}
use borrow.Author.Rules.{rules}
use Rattle.record_entries.proofs.edit_path_at.Goals as goal

pub slice_bounds-result-end : goal.slice_bounds-result-end
slice_bounds-result-end c = search (editing, rules)

pub returns : goal.returns
returns c = search (editing, rules)
