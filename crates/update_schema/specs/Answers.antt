-- What additions answer.
use Rattle.std.specs.Prelude.{ℕ, Result}
use Rattle.record.specs.declared.Refusal.{Refusal}
use Rattle.update_schema.specs.declared.Spot.{Spot}

-- One addition: its spot, or one of the refusals 13 to 16, 22, 17, 18.
abbrev pub Spotted : Type 0
Spotted = Result Spot Refusal

-- All additions: the last id consumed, shifted by 2^31, or the first refusal.
abbrev pub Decided : Type 0
Decided = Result ℕ Refusal
