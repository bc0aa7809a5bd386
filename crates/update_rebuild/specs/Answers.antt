-- What a walk of the rebuild answers.
use Rattle.std.specs.Prelude.{ℕ, Option}
use Rattle.update_rebuild.specs.declared.Place.{Place}

-- Where it stands then, or none: record 1,025 or level 17 would be planned.
abbrev pub Step : Type 0
Step = Option Place

-- Where additions go: to the struct whose id has these 32 bits, or to the root list.
abbrev pub Under : Type 0
Under = Option ℕ
