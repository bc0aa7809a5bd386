-- 02, 6/13: steps of a type one after another, each of whatever version, and what they make of a type code.
use Rattle.std.specs.Prelude.{ℕ, ◌≤◌, ◌≡◌, ◌⊎◌, true}
use Rattle.paper.specs.Promotions.{allowed}

-- One or more steps lead from one code to another.
pub data Chain : ℕ → ℕ → Type 0 where
  one_step : {old new : ℕ} (version : ℕ) → allowed version old new ≡ true → Chain old new
  more_steps : {old next new : ℕ} (version : ℕ) → allowed version old next ≡ true → Chain next new → Chain old new

-- A column's type code and a later one of it: not lower, and the same or reached by steps.
pub record OnlyRises (code later : ℕ) : Type 0 where
  pub not_lower : code ≤ later
  pub by_steps : (code ≡ later) ⊎ Chain code later
