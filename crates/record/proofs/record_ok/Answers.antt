-- 4, then 3.
use Rattle.record.proofs.Sifting.{keeping}
use Rattle.std.proofs.Common.{rules}
use Rattle.record.proofs.record_ok.Goals as goal

pub returns-then-not-name_ok : goal.returns-then-not-name_ok
returns-then-not-name_ok c = search (keeping, rules)

pub returns : goal.returns
returns c = search (keeping, rules)
