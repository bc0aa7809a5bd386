-- What an answer of the code says, in the paper's numbers.
use Rattle.std.specs.Prelude.{ℕ, ◌+◌, ◌≡◌, List}
use Rattle.std.proofs.Math.Option.{Option, none, some}
use Rattle.record.specs.Says.{refusal_of}
use Rattle.paper.specs.Answer.{Answer, ok, refused}
use Rattle.paper.specs.Forest.{Forest, siblings}
use Rattle.paper.specs.Field.{Field}
use Rattle.paper.specs.declared.Role.{Role}
use Rattle.paper.specs.Sound.{misnamed}
use Rattle.paper.specs.Bytes.{kids_at}
use Rattle.paper.specs.Decode.{fields}
use Rattle.paper.specs.Layout.{Part}
use Rattle.tree.specs.Read.{part}
use Rattle.tree.specs.Answers.{Walked, Shaped}
use Rattle.std.specs.Prelude.{Ok, Err}

-- where a row ends
unfoldable pub ended : Answer Part → Walked
ended (ok p) = Ok p.next
ended (refused n l p) = Err (refusal_of n l p)

-- a walk over a row that ends at `next`, with a test
unfoldable pub walked_to : ℕ → ℕ → ℕ → Option ℕ → Walked
walked_to number list next none = Ok next
walked_to number list next (some p) = Err (refusal_of number list p)

-- what a walk over c trees from slot k on, of which the first has role r, says of their names
pub record Labelled (pool records : List ℕ) (list n lv c k : ℕ) (r : Role) (w : Walked) : Type 0 where
  pub says : w ≡ walked_to 6 list (part list (kids_at records) n lv c k).next (misnamed r k (fields pool records (part list (kids_at records) n lv c k).trees))

-- how many roots there are, after i that were passed
unfoldable pub rooted : ℕ → Answer Part → Shaped
rooted i (ok p) = Ok (i + siblings p.trees)
rooted i (refused n l p) = Err (refusal_of n l p)

unfoldable pub decoded : Answer (Forest Field) → Shaped
decoded (ok t) = Ok (siblings t)
decoded (refused n l p) = Err (refusal_of n l p)
