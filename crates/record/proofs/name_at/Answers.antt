-- Offset and length are those of the record, and 4 was tested.
use Rattle.record.proofs.Naming.{naming}
use Rattle.std.proofs.Common.{rules}
use Rattle.record.proofs.name_at.Goals as goal

pub slice_bounds-result-end : goal.slice_bounds-result-end
slice_bounds-result-end c = search (naming, rules)

pub returns : goal.returns
returns c = search (naming, rules)
