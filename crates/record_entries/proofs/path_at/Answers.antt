-- The offset and the length are those of the entry, and 4 was tested.
use Rattle.record_entries.proofs.Entries.{pathing}
use borrow.Author.Rules.{rules}
use Rattle.record_entries.proofs.path_at.Goals as goal

pub slice_bounds-result-end : goal.slice_bounds-result-end
slice_bounds-result-end c = search (pathing, rules)

pub returns : goal.returns
returns c = search (pathing, rules)
