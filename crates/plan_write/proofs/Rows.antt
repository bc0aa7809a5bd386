-- The bytes of one record, as the code puts them together and as 01 lays them out.
use Prim.Native.Nat.{ℕ, ◌+◌, ◌-◌, ◌*◌, ◌/◌, ◌%◌, ◌<◌}
use mathlib.Core.Path.{◌≡◌, ◌∙◌}
use mathlib.Core.List.{List, [], ◌∷◌}
use native.Mathlib.Omega.{arith}
use borrow.Author.Tests.{lt-ltb, le-ltb}
use lib.ListN.{get_or}
use Rattle.paper.specs.Bytes.{turned, field_at}
use Rattle.paper.specs.Encode.{bytes32, row24, rec_bytes}
use Rattle.record.specs.Trees.{Trees}
use Rattle.plan.specs.Plan.{edited_slot, mark_of, marked_field, source_field, planned_field, Sits}
use Rattle.plan.specs.Sources.{source_len}
use Rattle.plan.specs.declared.Edited.{Edited}
use Rattle.plan.specs.declared.Origin.{Origin}
use Rattle.plan.specs.declared.Origin.TheVariants as origin
use Rattle.plan.specs.Origin.{origin_of, edited_len, edited_flags, edited_code}
use Rattle.plan.proofs.Origins.{told_base, told_added, told_edited, len_same, flags_same, code_same}
use Rattle.plan.proofs.Sourcing.{name_length, marked_length, source_cases}
use Rattle.plan_write.specs.Written.{row_of, kept_row, source_row}

pub row_is : (i a m c d : List ℕ) (id at len kind flags kids code attribute : ℕ) → i ≡ bytes32 id [] → a ≡ bytes32 at [] → m ≡ bytes32 kids [] → c ≡ bytes32 code [] → d ≡ bytes32 attribute []
    → get_or i 0 0 ∷ get_or i 1 0 ∷ get_or i 2 0 ∷ get_or i 3 0 ∷ get_or a 0 0 ∷ get_or a 1 0 ∷ get_or a 2 0 ∷ get_or a 3 0 ∷ len ∷ kind ∷ flags ∷ 0 ∷ get_or m 0 0 ∷ get_or m 1 0 ∷ 0 ∷ 0
    ∷ get_or c 0 0 ∷ get_or c 1 0 ∷ get_or c 2 0 ∷ get_or c 3 0 ∷ get_or d 0 0 ∷ get_or d 1 0 ∷ get_or d 2 0 ∷ get_or d 3 0 ∷ [] ≡ row24 id at len kind flags kids code attribute
unfolding row24
row_is i a m c d id at len kind flags kids code attribute ei ea em ec ed = rw (ei, ea, em, ec, ed)

-- The bytes of a planned record, told of its origin: `search writing`.
module _ (base added edits : List ℕ) (x : ℕ) (o : Origin) (e : o ≡ origin_of x) (r : List ℕ) (id kids at : ℕ) where
  pub row_base : (k : ℕ) → o ≡ origin.Base k → r ≡ kept_row base k id kids at → r ≡ source_row base added edits x id kids at
  unfolding source_row
  row_base k q h = told_base x o e k q (λ j. kept_row base j id kids at) (λ j. kept_row added j id kids at) _ r h

  pub row_added : (k : ℕ) → o ≡ origin.Added k → r ≡ kept_row added k id kids at → r ≡ source_row base added edits x id kids at
  unfolding source_row
  row_added k q h = told_added x o e k q (λ j. kept_row base j id kids at) (λ j. kept_row added j id kids at) _ r h

  pub row_edited : (d : Edited) (len flags code : ℕ) → o ≡ origin.Edited d → len ≡ edited_len base edits d → flags ≡ edited_flags base d → code ≡ edited_code base edits d
      → r ≡ row_of base d.slot id kids at len flags code → r ≡ source_row base added edits x id kids at
  unfolding source_row
  row_edited d len flags code q el ef ec h =
      rw (← len_same base edits x, ← flags_same base edits x, ← code_same base edits x)
      (told_edited x o e d q _ _ (λ (z : Edited). row_of base z.slot id kids at (edited_len base edits z) (edited_flags base z) (edited_code base edits z)) r (rw (← el, ← ef, ← ec) h))

pub ruleset writing = (row_base, row_added, row_edited)

-- Reading an id and writing it again gives its 32 bits.
lowest_byte : (y q : ℕ) → (q * 256 + y) % 256 ≡ y % 256
lowest_byte y q = omega arith

same_bits : (x : ℕ) → turned (turned x) ≡ x % 4294967296
unfolding turned
same_bits x = omega arith

bits_again : (x : ℕ) (rest : List ℕ) → bytes32 x rest ≡ bytes32 (turned (turned x)) rest
bits_again x rest = rw (same_bits x) (go (x % 4294967296) (x / 4294967296) (omega arith) (omega arith))
  where
    go : (r q : ℕ) → r < 4294967296 → x ≡ q * 4294967296 + r → bytes32 x rest ≡ bytes32 r rest
    go r q l e =
        let b : x / 256 ≡ q * 65536 * 256 + r / 256 = omega arith in
        let c : x / 65536 ≡ q * 256 * 256 + r / 65536 = omega arith in
        let d : x / 16777216 ≡ q * 256 + r / 16777216 = omega arith in
        let a' : x % 256 ≡ r % 256 = omega arith in
        rw (a', b, c, d, lowest_byte (r / 256) (q * 65536), lowest_byte (r / 65536) (q * 256), lowest_byte (r / 16777216) q)

-- Its byte 8 is the length of the name.
pub row_len : (base added edits : List ℕ) (x id kids at r : ℕ) (row : List ℕ) → row ≡ source_row base added edits x id kids at → r ≡ get_or row 8 0 → r ≡ source_len base added edits x
unfolding source_row source_len row_of row24
row_len base added edits x id kids at r row e q =
    q ∙ rw e (source_cases x (λ b. rw (lt-ltb x 1024 b)) (λ b c. rw (le-ltb x 1024 b, lt-ltb x 2048 c)) (λ b c. rw (le-ltb x 1024 b, le-ltb x 2048 c)))

module _ (l : Trees) (x : ℕ) where
  pub row_source : (id kids at : ℕ) → Sits l x → source_row l.records l.added_records l.edits x id kids at ≡ rec_bytes at (planned_field l (record { slot = x; id = id })) kids
  unfolding source_row row_of source_field planned_field field_at marked_field row24
  row_source id kids at h = source_cases x
      (λ b. rw (lt-ltb x 1024 b, name_length l.pool l.records x (h.base_named b)) (bits_again id _))
      (λ b c. rw (le-ltb x 1024 b, lt-ltb x 2048 c, name_length l.request_pool l.added_records (x - 1024) (h.added_named b c)) (bits_again id _))
      (λ b c. rw (le-ltb x 1024 b, le-ltb x 2048 c, marked_length l (mark_of x) (edited_slot x) (h.edited_named c) (h.renamed_what c) (h.renamed_named c)) (bits_again id _))
