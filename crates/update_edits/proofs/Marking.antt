-- A mark with one more edit, and the source that it makes of a slot.
use Prim.Native.Nat.{ℕ, ◌+◌, ◌-◌, ◌*◌, ◌/◌, ◌%◌, ◌<◌, ◌≤◌}
use mathlib.Core.Path.{◌≡◌}
use mathlib.Core.List.{List}
use lib.ListN.{get_or}
use borrow.Author.Tests.{eq-eqb, ne_eqb, lt-ltb, le-ltb}
use Rattle.record_entries.specs.declared.What.{What}
use Rattle.record_entries.specs.declared.What.TheVariants.{Rename, Relax, Widen}
use Rattle.update_edits.specs.Marks.{mark_with, as_marked, remarked}

-- ---- the code

-- `search marking`
module _ (w : What) (k mark v : ℕ) where
  pub with_rename : w ≡ Rename → v ≡ mark / 256 * 256 + (mark % 2 + 2 * (k + 1)) → v ≡ mark_with w k mark
  with_rename e ev = rw e ev

  pub with_relax : w ≡ Relax → v ≡ mark + (1 - mark % 2) → v ≡ mark_with w k mark
  with_relax e ev = rw e ev

  pub with_widening : w ≡ Widen → v ≡ mark % 256 + 256 * (k + 1) → v ≡ mark_with w k mark
  with_widening e ev = rw e ev

pub ruleset marking = (with_rename, with_relax, with_widening)

-- `search sourcing`
pub source_stays : (marks : List ℕ) (x : ℕ) → 1024 ≤ x → x ≡ remarked marks x
unfolding remarked
source_stays marks x l = rw (le-ltb x 1024 l)

module _ (marks : List ℕ) (x mark : ℕ) (l : x < 1024) (e : mark ≡ get_or marks x 0) where
  pub source_bare : mark ≡ 0 → x ≡ remarked marks x
  unfolding remarked as_marked
  source_bare z = rw (lt-ltb x 1024 l, ← e, eq-eqb mark 0 z)

  pub source_marked : (v : ℕ) → (mark ≡ 0 → ⊥) → v ≡ 2048 + x + 1024 * mark → v ≡ remarked marks x
  unfolding remarked as_marked
  source_marked v z ev = rw (lt-ltb x 1024 l, ← e, ne_eqb mark 0 z) ev

pub ruleset sourcing = (source_stays, source_bare, source_marked)
