-- What walks over a list of records answer.
use Rattle.std.specs.Prelude.{ℕ, Result}
use Rattle.record.specs.declared.Refusal.{Refusal}

-- Where a walk over a row of trees ends, or why it stops.
abbrev pub Walked : Type 0
Walked = Result ℕ Refusal

-- How many roots a tree has, or why it is turned down.
abbrev pub Shaped : Type 0
Shaped = Result ℕ Refusal
