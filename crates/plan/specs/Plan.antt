-- A plan: what will stand in an answer, in slot order. It lies in three rows of 1,024 numbers: where each planned record comes from,
-- its id as 32 bits, and how many members it has. A source below 1,024 is a slot of the base, one from 1,024 to 2,047 a slot of the
-- additions tree, one from 2,048 on a slot of the base as edits leave it: 2,048 + slot + 1,024 * mark. The mark is 1 if the column is
-- relaxed, 2 * (k + 1) more if edit k renames it, and 256 * (k + 1) more if edit k widens it. The base is a plan of itself.
use Rattle.std.specs.Prelude.{ℕ, ◌+◌, ◌-◌, ◌*◌, ◌/◌, ◌%◌, ◌<◌, ◌≤◌, ◌≡◌, true, cond, List, eqb, ltb, length, get_or}
use Rattle.paper.specs.Forest.{Forest, mapped}
use Rattle.paper.specs.Field.{Field, with_id, with_name, with_flags, with_code}
use Rattle.paper.specs.Sound.{name_bytes}
use Rattle.paper.specs.Bytes.{turned, rec_at, name_of, field_at, in_pool}
use Rattle.paper.specs.Lists.{edit_at, edit_in, new_name}
use Rattle.paper.specs.Edits.{relaxed}
use Rattle.paper.specs.Layout.{roots}
use Rattle.record.specs.Trees.{Trees}
use Rattle.tree.specs.Read.{got, fine}

-- A planned record: its source and its id.
pub record Source : Type 0 where
  pub slot : ℕ
  pub id : ℕ

abbrev pub slot_of : Source → ℕ
slot_of a = a.slot

abbrev pub bits_of : Source → ℕ
bits_of a = a.id

abbrev pub edited_slot : ℕ → ℕ
edited_slot x = (x - 2048) % 1024

abbrev pub mark_of : ℕ → ℕ
mark_of x = (x - 2048) / 1024

-- The part of a mark that says whether the column is relaxed, and which edit renames it, if it is 2 or more; and the edit
-- that widens it, if the mark is 256 or more.
abbrev pub low_part : (mark : ℕ) → ℕ
low_part mark = mark % 256

abbrev pub renaming : (mark : ℕ) → ℕ
renaming mark = low_part mark / 2 - 1

abbrev pub widening : (mark : ℕ) → ℕ
widening mark = mark / 256 - 1

-- A record of the base as a mark leaves it: its name, its flags, its type code, all of it.
unfoldable pub marked_name : Trees → (mark slot : ℕ) → List ℕ
marked_name l mark slot =
    cond (ltb (low_part mark) 2) (name_of l.pool l.records slot) (new_name l.request_pool l.edits (renaming mark))

unfoldable pub marked_flags : (records : List ℕ) (mark slot : ℕ) → ℕ
marked_flags records mark slot =
    cond (eqb (mark % 2) 1) (relaxed (rec_at records slot).flags) (rec_at records slot).flags

unfoldable pub marked_code : (records edits : List ℕ) (mark slot : ℕ) → ℕ
marked_code records edits mark slot =
    cond (ltb mark 256) (rec_at records slot).code (edit_at edits (widening mark)).code

unfoldable pub marked_field : Trees → (mark slot : ℕ) → Field
marked_field l mark slot =
    with_name (marked_name l mark slot)
    (with_flags (marked_flags l.records mark slot)
    (with_code (marked_code l.records l.edits mark slot) (field_at l.pool l.records slot)))

-- What a source gives: of the base, of the additions tree, of the base as edits leave it.
abbrev pub by_source : {A : Type 0} → (x : ℕ) → (base added edited : A) → A
by_source x base added edited = cond (ltb x 1024) base (cond (ltb x 2048) added edited)

unfoldable pub source_field : Trees → ℕ → Field
source_field l x =
    by_source x (field_at l.pool l.records x) (field_at l.request_pool l.added_records (x - 1024))
    (marked_field l (mark_of x) (edited_slot x))

unfoldable pub planned_field : Trees → Source → Field
planned_field l a = with_id (turned a.id) (source_field l a.slot)

abbrev pub source_in : (slots ids : List ℕ) → ℕ → Source
source_in xs is k = record { slot = get_or xs k 0; id = get_or is k 0 }

abbrev pub kids_in : List ℕ → ℕ → ℕ
kids_in ks k = get_or ks k 0

-- The trees in which the m planned records stand: their places, their sources, their fields.
unfoldable pub plan_slots : (kids : List ℕ) (m : ℕ) → Forest ℕ
plan_slots ks m = (got (roots 4 (kids_in ks) m m 0)).trees

unfoldable pub plan_tree : (slots ids kids : List ℕ) (m : ℕ) → Forest Source
plan_tree xs is ks m = mapped (source_in xs is) (plan_slots ks m)

unfoldable pub plan_fields : Trees → (slots ids kids : List ℕ) (m : ℕ) → Forest Field
plan_fields l xs is ks m = mapped (planned_field l) (plan_tree xs is ks m)

-- A source that is there, with its name.
pub record Sits (l : Trees) (x : ℕ) : Type 0 where
  pub base_in : x < 1024 → x * 24 + 24 ≤ length l.records
  pub base_named : x < 1024 → in_pool (length l.pool) l.records x ≡ true
  pub added_in : 1024 ≤ x → x < 2048 → (x - 1024) * 24 + 24 ≤ length l.added_records
  pub added_named : 1024 ≤ x → x < 2048 → in_pool (length l.request_pool) l.added_records (x - 1024) ≡ true
  pub edited_in : 2048 ≤ x → edited_slot x * 24 + 24 ≤ length l.records
  pub edited_named : 2048 ≤ x → in_pool (length l.pool) l.records (edited_slot x) ≡ true
  pub renamed_in : 2048 ≤ x → 2 ≤ low_part (mark_of x) → renaming (mark_of x) * 16 + 16 ≤ length l.edits
  pub renamed_what : 2048 ≤ x → 2 ≤ low_part (mark_of x) → (edit_at l.edits (renaming (mark_of x))).what ≡ 1
  pub renamed_named : 2048 ≤ x → 2 ≤ low_part (mark_of x) → edit_in (length l.request_pool) l.edits (renaming (mark_of x)) ≡ true
  pub widened_in : 2048 ≤ x → 256 ≤ mark_of x → widening (mark_of x) * 16 + 16 ≤ length l.edits

-- A plan that may be read: its sources are there, and its records stand in trees within the limits.
pub record Plan (l : Trees) (xs is ks : List ℕ) (m : ℕ) : Type 0 where
  pub few : m ≤ 1024
  pub sits : (i : ℕ) → i < m → Sits l (get_or xs i 0)
  pub shaped : fine (roots 4 (kids_in ks) m m 0) ≡ true
  pub sum : name_bytes (plan_fields l xs is ks m) ≤ 32768
