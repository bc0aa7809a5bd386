-- A planned record is the base's, the additions' or the base's as edits leave it.
use Prim.Native.Nat.{ℕ, zero, suc, ◌+◌, ◌-◌, ◌/◌, ◌<◌, ◌≤◌}
use mathlib.Core.Path.{◌≡◌, sym, ◌∙◌}
use mathlib.Core.Bool.{Bool, true, false, true≢false}
use mathlib.Core.Logic.{⊎_elim}
use mathlib.Core.List.{List}
use native.Mathlib.Omega.{arith}
use borrow.Author.Tests.{leb-true, lt-ltb, le-ltb}
use lib.Dec.{ltb}
use lib.ListN.{length, drop, length-drop}
use lib.Seq.{length-take-le}
use denote.Ref.{Bor}
use Rattle.paper.specs.Bytes.{rec_at, name_of, in_pool, field_at}
use Rattle.paper.specs.Field.{is_required}
use Rattle.paper.specs.Lists.{edit_at, edit_in, new_name}
use Rattle.paper.specs.Edits.{relaxed}
use Rattle.tree.proofs.Filled.{lt_or_le}
use Rattle.record.specs.declared.Trees.{Trees as LentTrees}
use Rattle.record.specs.Trees.{Trees, trees_in}
use Rattle.record_entries.proofs.Entries.{edit_ends}
use Rattle.plan.specs.Plan.{edited_slot, mark_of, low_part, renaming, marked_name, marked_field, source_field, Sits}
use Rattle.plan.specs.Sources.{source_kind, marked_len, source_len, source_flags, source_code, NameAt, In}

-- ---- the name as a part of its pool

module _ (lent : LentTrees) (x : ℕ) (r : Bor (List ℕ)) where
  abbrev pub Part : (name : List ℕ) (pool : Bor (List ℕ)) (at : ℕ) → Type 0
  Part name pool at = (r.now ≡ name) × (r.ref_ptr.0 ≡ pool.ref_ptr.0) × (r.ref_ptr.1 ≡ pool.ref_ptr.1 + at)

  pub name_base : x < 1024 → Part (name_of (trees_in lent).pool (trees_in lent).records x) lent.pool (rec_at (trees_in lent).records x).name_at → NameAt lent x r
  unfolding source_field field_at
  name_base b e = record { name = rw (lt-ltb x 1024 b) e.0; pool = rw (lt-ltb x 1024 b) e.1; offset = rw (lt-ltb x 1024 b) e.2 }

  pub name_added : 1024 ≤ x → x < 2048 → Part (name_of (trees_in lent).request_pool (trees_in lent).added_records (x - 1024)) lent.request_pool (rec_at (trees_in lent).added_records (x - 1024)).name_at → NameAt lent x r
  unfolding source_field field_at
  name_added b c e =
      let p = le-ltb x 1024 b in
      let q = lt-ltb x 2048 c in
      record { name = rw (p, q) e.0; pool = rw (p, q) e.1; offset = rw (p, q) e.2 }

  module _ (l : 2048 ≤ x) (low : ℕ) (em : low ≡ low_part (mark_of x)) where
    not_base : ltb x 1024 ≡ false
    not_base = le-ltb x 1024 (omega arith)

    not_added : ltb x 2048 ≡ false
    not_added = le-ltb x 2048 l

    pub name_kept : (slot : ℕ) → slot ≡ edited_slot x → low < 2 → Part (name_of (trees_in lent).pool (trees_in lent).records slot) lent.pool (rec_at (trees_in lent).records slot).name_at → NameAt lent x r
    unfolding source_field marked_field marked_name
    name_kept slot es b e =
        let p = lt-ltb low 2 b in
        record { name = rw (not_base, not_added, ← em, ← es, p) e.0; pool = rw (not_base, not_added, ← em, p) e.1; offset = rw (not_base, not_added, ← em, ← es, p) e.2 }

    pub name_new : 2 ≤ low → Part (new_name (trees_in lent).request_pool (trees_in lent).edits (low / 2 - 1)) lent.request_pool (edit_at (trees_in lent).edits (low / 2 - 1)).name_at → NameAt lent x r
    unfolding source_field marked_field marked_name
    name_new b e =
        let p = le-ltb low 2 b in
        record { name = rw (not_base, not_added, ← em, p) e.0; pool = rw (not_base, not_added, ← em, p) e.1; offset = rw (not_base, not_added, ← em, p) e.2 }

-- ---- the same of the planned field

pub name_length : (pool s : List ℕ) (k : ℕ) → in_pool (length pool) s k ≡ true → length (name_of pool s k) ≡ (rec_at s k).name_len
unfolding in_pool name_of
name_length pool s k e =
    let h = leb-true ((rec_at s k).name_at + (rec_at s k).name_len) (length pool) e in
    length-take-le (rec_at s k).name_len (drop (rec_at s k).name_at pool) (simp length-drop (omega arith))

new_name_length : (pool s : List ℕ) (k : ℕ) → (edit_at s k).what ≡ 1 → edit_in (length pool) s k ≡ true → length (new_name pool s k) ≡ (edit_at s k).name_len
unfolding new_name
new_name_length pool s k w e =
    let h = (edit_ends (length pool) s k e).1 w in
    length-take-le (edit_at s k).name_len (drop (edit_at s k).name_at pool) (simp length-drop (omega arith))

pub marked_length : (l : Trees) (mark slot : ℕ) → in_pool (length l.pool) l.records slot ≡ true → (2 ≤ low_part mark → (edit_at l.edits (renaming mark)).what ≡ 1)
    → (2 ≤ low_part mark → edit_in (length l.request_pool) l.edits (renaming mark) ≡ true) → marked_len l.records l.edits mark slot ≡ length (marked_name l mark slot)
unfolding marked_len marked_name
marked_length l mark slot h w g = ⊎_elim
    (λ b. rw (lt-ltb (low_part mark) 2 b, name_length l.pool l.records slot h))
    (λ b. rw (le-ltb (low_part mark) 2 b, new_name_length l.request_pool l.edits (renaming mark) (w b) (g b)))
    (lt_or_le (low_part mark) 2)

-- The three kinds of sources.
pub source_cases : {P : Type 0} (x : ℕ) → (x < 1024 → P) → (1024 ≤ x → x < 2048 → P) → (1024 ≤ x → 2048 ≤ x → P) → P
source_cases x f g h = ⊎_elim f (λ b. ⊎_elim (g b) (h b) (lt_or_le x 2048)) (lt_or_le x 1024)

module _ (l : Trees) (x : ℕ) where
  pub sits_in : Sits l x → In l.records l.added_records l.edits x
  sits_in h = record { base_in = h.base_in; added_in = h.added_in; edited_in = h.edited_in; renamed_in = h.renamed_in; widened_in = h.widened_in }

  pub kind_source : source_kind l.records l.added_records x ≡ (source_field l x).kind
  unfolding source_kind source_field field_at marked_field
  kind_source = source_cases x (λ b. rw (lt-ltb x 1024 b)) (λ b c. rw (le-ltb x 1024 b, lt-ltb x 2048 c)) (λ b c. rw (le-ltb x 1024 b, le-ltb x 2048 c))

  pub flags_source : source_flags l.records l.added_records x ≡ (source_field l x).flags
  unfolding source_flags source_field field_at marked_field
  flags_source = source_cases x (λ b. rw (lt-ltb x 1024 b)) (λ b c. rw (le-ltb x 1024 b, lt-ltb x 2048 c)) (λ b c. rw (le-ltb x 1024 b, le-ltb x 2048 c))

  pub code_source : source_code l.records l.added_records l.edits x ≡ (source_field l x).code
  unfolding source_code source_field field_at marked_field
  code_source = source_cases x (λ b. rw (lt-ltb x 1024 b)) (λ b c. rw (le-ltb x 1024 b, lt-ltb x 2048 c)) (λ b c. rw (le-ltb x 1024 b, le-ltb x 2048 c))

  pub len_source : Sits l x → source_len l.records l.added_records l.edits x ≡ length (source_field l x).name
  unfolding source_len source_field field_at marked_field
  len_source h = source_cases x
      (λ b. rw (lt-ltb x 1024 b, name_length l.pool l.records x (h.base_named b)))
      (λ b c. rw (le-ltb x 1024 b, lt-ltb x 2048 c, name_length l.request_pool l.added_records (x - 1024) (h.added_named b c)))
      (λ b c. rw (le-ltb x 1024 b, le-ltb x 2048 c) (marked_length l (mark_of x) (edited_slot x) (h.edited_named c) (h.renamed_what c) (h.renamed_named c)))

-- ---- what a relaxing leaves of the flags

module _ (flags : ℕ) (b : Bool) (e : b ≡ is_required flags) where
  pub required_some : b ≡ true → 1 ≤ flags
  required_some q = go flags (sym e ∙ q)
    where
      go : (flags : ℕ) → is_required flags ≡ true → 1 ≤ flags
      go zero h = absurd (true≢false (sym h))
      go (suc flags) h = omega arith

  pub relaxed_less : b ≡ true → flags - 1 ≡ relaxed flags
  relaxed_less q = rw (← e, q)

  pub relaxed_same : b ≡ false → flags ≡ relaxed flags
  relaxed_same q = rw (← e, q)

pub ruleset relaxing = (required_some, relaxed_less, relaxed_same)
