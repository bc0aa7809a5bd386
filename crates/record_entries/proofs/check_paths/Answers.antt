-- The test is the rule of the list.
use Rattle.std.proofs.Common.{rules}
use Rattle.record.proofs.Lowest.{none_yet}
use Rattle.record_entries.specs.Rule.{inside_of}
use Rattle.record_entries.proofs.check_paths.Goals as goal

pub returns : goal.returns
returns c = c.check_each.ensures (inside_of c.args.list c.args.pool c.args.entries.now) (λ i b l p. search rules) (none_yet _)
