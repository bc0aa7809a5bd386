-- What the look-up of many ids answers.
use Rattle.std.specs.Prelude.{ℕ, Result}
use Rattle.record.specs.declared.Refusal.{Refusal}

-- How many of the ids were found, or a refusal.
abbrev pub Searched : Type 0
Searched = Result ℕ Refusal
