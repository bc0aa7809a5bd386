-- What opening an update answers.
use Rattle.std.specs.Prelude.{ℕ, Result}
use Rattle.record.specs.declared.Refusal.{Refusal}

-- How many roots the base has, and how many the additions tree, or why they are turned down.
abbrev pub Opened : Type 0
Opened = Result (ℕ × ℕ) Refusal
