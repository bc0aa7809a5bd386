-- What a planned record takes from its source.
use Rattle.std.specs.Prelude.{ℕ, ◌+◌, ◌-◌, ◌*◌, ◌<◌, ◌≤◌, ◌≡◌, Bool, cond, List, ltb, leb, length, get_or}
use Rattle.std.specs.Borrow.{Bor}
use Rattle.paper.specs.declared.Kind.{Kind}
use Rattle.paper.specs.Sound.{name_bytes}
use Rattle.paper.specs.Bytes.{rec_at, kind_at}
use Rattle.paper.specs.Lists.{edit_at}
use Rattle.record.specs.declared.Trees.{Trees as LentTrees}
use Rattle.record.specs.Trees.{lent_trees, trees_in}
use Rattle.plan.specs.Plan.{Source, plan_fields, source_field, by_source, edited_slot, mark_of, low_part, renaming, widening, marked_flags, marked_code}
use Rattle.plan.specs.Draft.{Draft}

unfoldable pub source_kind : (base added : List ℕ) → ℕ → Kind
source_kind base added x = by_source x (kind_at base x) (kind_at added (x - 1024)) (kind_at base (edited_slot x))

-- The length of a base record's name as a mark leaves it.
unfoldable pub marked_len : (base edits : List ℕ) (mark slot : ℕ) → ℕ
marked_len base edits mark slot = cond (ltb (low_part mark) 2) (rec_at base slot).name_len (edit_at edits (renaming mark)).name_len

unfoldable pub source_len : (base added edits : List ℕ) → ℕ → ℕ
source_len base added edits x =
    by_source x (rec_at base x).name_len (rec_at added (x - 1024)).name_len (marked_len base edits (mark_of x) (edited_slot x))

unfoldable pub source_flags : (base added : List ℕ) → ℕ → ℕ
source_flags base added x =
    by_source x (rec_at base x).flags (rec_at added (x - 1024)).flags (marked_flags base (mark_of x) (edited_slot x))

unfoldable pub source_code : (base added edits : List ℕ) → ℕ → ℕ
source_code base added edits x =
    by_source x (rec_at base x).code (rec_at added (x - 1024)).code (marked_code base edits (mark_of x) (edited_slot x))

-- The pool in which a source's name lies, and where there.
abbrev pub pool_of : LentTrees → ℕ → Bor (List ℕ)
pool_of lent x = by_source x lent.pool lent.request_pool (cond (ltb (low_part (mark_of x)) 2) lent.pool lent.request_pool)

abbrev pub name_from : (base added edits : List ℕ) → ℕ → ℕ
name_from base added edits x =
    by_source x (rec_at base x).name_at (rec_at added (x - 1024)).name_at
    (cond (ltb (low_part (mark_of x)) 2) (rec_at base (edited_slot x)).name_at (edit_at edits (renaming (mark_of x))).name_at)

-- A slice is a source's name: the very part of the pool that holds it.
pub record NameAt (lent : LentTrees) (x : ℕ) (r : Bor (List ℕ)) : Type 0 where
  pub name : r.now ≡ (source_field (trees_in lent) x).name
  pub pool : r.ref_ptr.0 ≡ (pool_of lent x).ref_ptr.0
  pub offset : r.ref_ptr.1 ≡ (pool_of lent x).ref_ptr.1 + name_from (trees_in lent).records (trees_in lent).added_records (trees_in lent).edits x

-- A source stands in its list, and the edits that rename and widen it in theirs.
pub record In (base added edits : List ℕ) (x : ℕ) : Type 0 where
  pub base_in : x < 1024 → x * 24 + 24 ≤ length base
  pub added_in : 1024 ≤ x → x < 2048 → (x - 1024) * 24 + 24 ≤ length added
  pub edited_in : 2048 ≤ x → edited_slot x * 24 + 24 ≤ length base
  pub renamed_in : 2048 ≤ x → 2 ≤ low_part (mark_of x) → renaming (mark_of x) * 16 + 16 ≤ length edits
  pub widened_in : 2048 ≤ x → 256 ≤ mark_of x → widening (mark_of x) * 16 + 16 ≤ length edits

-- m sources stand in their lists.
pub record Inside (base added edits xs : List ℕ) (m : ℕ) : Type 0 where
  pub few : m ≤ 1024
  pub all : (i : ℕ) → i < m → In base added edits (get_or xs i 0)

-- The test of a draft's name sum: it asks the name lengths alone, so any pools, ids and counts may go with them.
pub record Summed (base added edits xs : List ℕ) (m : ℕ) (r : Bool) : Type 0 where
  pub says : (pool request is ks : List ℕ) → Draft (lent_trees base pool added request edits) xs is ks m → r ≡ leb (name_bytes (plan_fields (lent_trees base pool added request edits) xs is ks m)) 32768

-- A record of a list as its own source.
abbrev pub id_bits : List ℕ → ℕ → ℕ
id_bits records k = (rec_at records k).id

abbrev pub own_source : List ℕ → ℕ → Source
own_source records k = record { slot = k; id = id_bits records k }
