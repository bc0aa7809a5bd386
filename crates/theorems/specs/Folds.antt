-- 02, 1/13: the look-up that forgets case, told by rows and not by lists; and where it answers as the exact one does.
use Rattle.std.specs.Prelude.{ℕ, ◌<◌, ◌≤◌, ◌≡◌, ◌⊎◌, ◌↔◌, List}
use Rattle.std.proofs.Math.Option.{none, some}
use Rattle.paper.specs.Answer.{ok, refused}
use Rattle.paper.specs.Forest.{Forest, mapped, ◌then◌}
use Rattle.paper.specs.Field.{Field}
use Rattle.paper.specs.Rows.{Row, top, rows, look_name}
use Rattle.paper.specs.Folded.{folded, look_folded}
use Rattle.paper.specs.Sound.{text}
use Rattle.paper.specs.Entries.{find_folded}
use Rattle.paper.specs.Outcome.{found}
use Rattle.paper.specs.Sample.{primitive, T}
use Rattle.laws.specs.Members.{◌∈◌}
use Rattle.theorems.specs.Sites.{found_at}

-- ---- rows that match

-- A row of the tree, whose full or short name is the asked one but for case.
abbrev pub Fits : (called : Row → List ℕ) → Forest Field → (name : List ℕ) → Row → Type 0
Fits called tree name row = (row ∈ rows top tree) × (folded (called row) ≡ folded name)

-- It matches at the level that counts: by its full name; or by its short name, where no row fits by its full name.
abbrev pub Matches : Forest Field → (name : List ℕ) → Row → Type 0
Matches tree name row =
    Fits (λ r. r.full) tree name row
    ⊎ (((other : Row) → Fits (λ r. r.full) tree name other → ⊥) × Fits (λ r. r.short) tree name row)

-- No other row matches.
abbrev pub Alone : Forest Field → (name : List ℕ) → Row → Type 0
Alone tree name row = (other : Row) → Matches tree name other → other.slot ≡ row.slot

-- The slot is that of the second row, in slot order, of those that match.
pub record Second (tree : Forest Field) (name : List ℕ) (slot : ℕ) : Type 0 where
  pub first : Row
  pub second : Row
  pub first_matches : Matches tree name first
  pub second_matches : Matches tree name second
  pub in_order : first.slot < second.slot
  pub its_slot : second.slot ≡ slot
  pub others_behind : (other : Row) → Matches tree name other → (other.slot ≡ first.slot) ⊎ (slot ≤ other.slot)

-- Each answer of the look-up, and what it says of the rows.
pub record ByRows (tree : Forest Field) (name : List ℕ) : Type 0 where
  pub nothing : (look_folded tree name ≡ ok none) ↔ ((row : Row) → Matches tree name row → ⊥)
  pub one : (row : Row) → (look_folded tree name ≡ ok (some row)) ↔ (Matches tree name row × Alone tree name row)
  pub two : (slot : ℕ) → (look_folded tree name ≡ refused 21 0 slot) ↔ Second tree name slot

-- ---- where nothing is to be folded

abbrev pub fold_name : Field → Field
fold_name f =
    record {
      id = f.id;
      name = folded f.name;
      kind = f.kind;
      flags = f.flags;
      code = f.code;
      attribute = f.attribute;
    }

-- Folding changes no name of the tree, nor the asked one; and at most one row has the asked short name.
pub record Plain (tree : Forest Field) (name : List ℕ) : Type 0 where
  pub tree_folded : mapped fold_name tree ≡ tree
  pub name_folded : folded name ≡ name
  pub one_short : (row other : Row) → row ∈ rows top tree → other ∈ rows top tree
      → row.short ≡ name → other.short ≡ name → row.slot ≡ other.slot

-- ---- names that are asked

pub record CaseForgotten : Type 0 where
  -- Names that fold to one are answered alike,
  pub alike : (tree : Forest Field) (name other : List ℕ) → folded name ≡ folded other
      → look_folded tree name ≡ look_folded tree other
  -- so it is one whether the asked name was folded before.
  pub once : (tree : Forest Field) (name : List ℕ) → look_folded tree (folded name) ≡ look_folded tree name
  pub of_bytes : (records pool name : List ℕ)
      → find_folded records pool (folded name) ≡ find_folded records pool name

-- ---- these are met: by T, and by a tree with capital letters

abbrev pub Capitals : Forest Field
Capitals = primitive "Cost" 1 then primitive "day" 2 then primitive "Day" 3

pub record FoldingMet : Type 0 where
  -- T is plain where `visits.day` is asked, a short name;
  pub plain : Plain T (text "visits.day")
  pub plain_found : found (look_folded T (text "visits.day")) ≡ found_at 7 5
  -- `Cost` is found exactly and matches alone, so `cOST` finds it too;
  pub alone_found : found (ok (look_name Capitals (text "Cost"))) ≡ found_at 1 0
  pub alone : (row : Row) → look_name Capitals (text "Cost") ≡ some row → Alone Capitals (text "Cost") row
  pub other_case : found (look_folded Capitals (text "cOST")) ≡ found_at 1 0
  -- `day` is found exactly and does not match alone.
  pub second_found : found (ok (look_name Capitals (text "day"))) ≡ found_at 2 1
  pub second : Second Capitals (text "day") 2
