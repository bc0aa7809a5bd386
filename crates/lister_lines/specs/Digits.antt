-- What the writers of numbers leave.
use Rattle.std.specs.Prelude.{ℕ, ◌+◌, ◌<◌, ◌≡◌, List, length, drop}
use Rattle.std.proofs.lemmas.List.Edits.{sets}
use Rattle.lister_lines.specs.declared.Digits.{Digits}

-- The text stands at the end of the ten bytes, from `start` on.
pub record Ends (text : List ℕ) (d : Digits) : Type 0 where
  pub ten : length d.bytes ≡ 10
  pub inside : d.start < 10
  pub holds : drop d.start d.bytes ≡ text

-- The text stands in the buffer from `at` on, the rest is as it was, and r is the place behind it.
pub record Put (text : List ℕ) (at : ℕ) (out : List ℕ) (r : ℕ) (out' : List ℕ) : Type 0 where
  pub bytes : out' ≡ sets out at text
  pub end : r ≡ at + length text
