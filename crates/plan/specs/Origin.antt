-- Where a planned record comes from, taken out of its source's number.
use Rattle.std.specs.Prelude.{ℕ, zero, suc, ◌+◌, ◌-◌, ◌*◌, ◌/◌, ◌%◌, ◌≤◌, ◌≡◌, cond, List, eqb, length, Option, Some, None}
use Rattle.paper.specs.Bytes.{rec_at}
use Rattle.paper.specs.Lists.{edit_at}
use Rattle.paper.specs.Edits.{relaxed}
use Rattle.plan.specs.declared.Edited.{Edited}
use Rattle.plan.specs.declared.Origin.{Origin}
use Rattle.plan.specs.declared.Origin.TheVariants as origin
use Rattle.plan.specs.Plan.{edited_slot, mark_of, low_part, by_source}

-- The edit that a part of a mark names: 0 is none, k + 1 edit k.
unfoldable pub named : ℕ → Option ℕ
named zero = None
named (suc k) = Some k

-- A slot of the base and its mark.
abbrev pub edited_of : ℕ → Edited
edited_of x =
    record {
      slot = edited_slot x;
      relaxed = eqb (mark_of x % 2) 1;
      renaming = named (low_part (mark_of x) / 2);
      widening = named (mark_of x / 256);
    }

unfoldable pub origin_of : ℕ → Origin
origin_of x = by_source x (origin.Base x) (origin.Added (x - 1024)) (origin.Edited (edited_of x))

-- The slot and the edits are there.
pub record EditedIn (records edits : List ℕ) (e : Edited) : Type 0 where
  pub slot_in : e.slot * 24 + 24 ≤ length records
  pub renaming_in : (k : ℕ) → e.renaming ≡ Some k → k * 16 + 16 ≤ length edits
  pub widening_in : (k : ℕ) → e.widening ≡ Some k → k * 16 + 16 ≤ length edits

-- What an edited record has of its own, and what of its edits.
abbrev pub new_or : Option ℕ → (old : ℕ) (new : ℕ → ℕ) → ℕ
new_or None old new = old
new_or (Some k) old new = new k

unfoldable pub edited_len : (records edits : List ℕ) → Edited → ℕ
edited_len records edits e = new_or e.renaming (rec_at records e.slot).name_len (λ k. (edit_at edits k).name_len)

unfoldable pub edited_flags : (records : List ℕ) → Edited → ℕ
edited_flags records e = cond e.relaxed (relaxed (rec_at records e.slot).flags) (rec_at records e.slot).flags

unfoldable pub edited_code : (records edits : List ℕ) → Edited → ℕ
edited_code records edits e = new_or e.widening (rec_at records e.slot).code (λ k. (edit_at edits k).code)
