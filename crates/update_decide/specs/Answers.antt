-- What a deletion and an addition answer.
use Rattle.std.specs.Prelude.{ℕ, Option, Result}
use Rattle.record.specs.declared.FieldId.{FieldId}
use Rattle.record.specs.declared.Refusal.{Refusal}

-- The id that a deletion drops, or refusal 11 or 12.
abbrev pub Dropping : Type 0
Dropping = Result FieldId Refusal

-- Where an addition goes: to the root list, or to the struct whose id has these 32 bits; or refusal 15, 16, 22 or 17.
abbrev pub Going : Type 0
Going = Result (Option ℕ) Refusal

-- The bits of an addition's first id, and the last id that it consumes, shifted by 2^31; or refusal 18.
abbrev pub Fresh : Type 0
Fresh = Result (ℕ × ℕ) Refusal
