-- All records below i keep 3 and 4, and the flag tells whether a list or a map is among them.
use Rattle.record.proofs.Sifting.{sift_goes, sifting}
use Rattle.std.proofs.Common.{rules}
use Rattle.record.proofs.sift.Goals as goal

pub loop-i-init : goal.loop-i-init
loop-i-init c = search (sifting, rules)

pub loop-i-preserved : goal.loop-i-preserved
loop-i-preserved c = sift_goes _ _ _ _ _ c.loop-i.invariant _ (search rules) c.record_ok.ensures (search rules)
