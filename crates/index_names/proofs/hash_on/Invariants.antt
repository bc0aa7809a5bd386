-- What is left of the name carries the hash on to the whole.
use Prim.Native.Nat.{◌*◌}
use mathlib.Core.Path.{◌≡◌}
use lib.ListN.{drop}
use Rattle.index_names.specs.Hash.{hash_on}
use Rattle.index_names.proofs.hash_on.Given as goal

abbrev pub invariant-loop-pair : goal.invariant-loop-pair
invariant-loop-pair l = hash_on l.seed l.name ≡ hash_on l.h (drop (l.pair * 2) l.name)
