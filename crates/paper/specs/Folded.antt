-- 02, 1/13: the look-up that forgets case, beside the exact one (the Rust's `Schema::field_by_name_case_insensitive`). A to Z
-- equal a to z, in full and short names alike; two columns that match at the same level are turned down.
use Rattle.std.specs.Prelude.{ℕ, ◌+◌, ◌&&◌, cond, List, [], ◌∷◌, map, leb}
use Rattle.std.proofs.Math.Option.{Option, none, some}
use Rattle.paper.specs.Answer.{Answer, ok, keep, same}
use Rattle.paper.specs.Refusals.{ambiguous}
use Rattle.paper.specs.Forest.{Forest}
use Rattle.paper.specs.Field.{Field}
use Rattle.paper.specs.Rows.{Row, top, rows}

-- 65 to 90, A to Z, become 97 to 122, a to z; any other byte stays.
unfoldable pub fold : (byte : ℕ) → ℕ
fold byte = cond (leb 65 byte && leb byte 90) (byte + 32) byte

unfoldable pub folded : (name : List ℕ) → List ℕ
folded name = map fold name

-- The rows, in slot order, whose full or short name folds to what the asked name folds to.
unfoldable pub matching : (called : Row → List ℕ) → (name : List ℕ) → List Row → List Row
matching called name = keep (λ row. same (folded (called row)) (folded name))

-- The short names are asked only where no full name matches.
abbrev pub or_short : (full short : List Row) → List Row
or_short [] short = short
or_short (row ∷ full) short = row ∷ full

-- The one that matches, or nothing; of two or more the second one's slot is told.
abbrev pub only : List Row → Answer (Option Row)
only [] = ok none
only (row ∷ []) = ok (some row)
only (row ∷ second ∷ more) = ambiguous second.slot

unfoldable pub look_folded : Forest Field → (name : List ℕ) → Answer (Option Row)
look_folded tree name =
    only (or_short (matching (λ row. row.full) name (rows top tree)) (matching (λ row. row.short) name (rows top tree)))
