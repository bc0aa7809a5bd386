-- One edit, as the paper decides it once the look-up has answered.
use Rattle.std.specs.Prelude.{ℕ, ◌+◌, ◌*◌, ◌<◌, ◌≤◌, ◌≡◌, Bool, true, ◌||◌, List, leb, length, get_or}
use Rattle.std.proofs.Math.Option.{Option, some}
use Rattle.paper.specs.Answer.{Answer, ok, refused, ◌>>=◌, ◌>>◌}
use Rattle.paper.specs.Refusals.{surviving, permitted, dotless, stepped}
use Rattle.paper.specs.Forest.{Forest}
use Rattle.paper.specs.Field.{Field}
use Rattle.paper.specs.Rows.{Row}
use Rattle.paper.specs.Bytes.{rec_at, kind_at}
use Rattle.paper.specs.Decode.{fields}
use Rattle.paper.specs.Gone.{gone_columns}
use Rattle.paper.specs.Edits.{Change, Edited, remaining, forbidden, again, has_dot, no_step, renamed, widened}
use Rattle.paper.specs.Lists.{edit_at, edit_in, new_name, edit_of}
use Rattle.record.specs.declared.FieldId.{FieldId}
use Rattle.record.specs.declared.Slot.{Slot}
use Rattle.record.specs.Answers.{Found}
use Rattle.std.specs.Prelude.{Ok, Err, Some}
use Rattle.record.specs.Says.{found_row}
use Rattle.record_entries.specs.Rule.{what_of}
use Rattle.plan.specs.Plan.{low_part}
use Rattle.update_gone.specs.Gone.{base_slots, slot_id}
use Rattle.update_edits.specs.Answers.{Editing}
use Rattle.update_edits.specs.Roles.{role_at, Stood, forbids, repeats, dots, stepless}

-- What was found is one of n slots.
pub record Lands (n : ℕ) (f : Found) : Type 0 where
  pub at : (x : FieldId) (p : Slot) → f ≡ Some (x, p) → p.0 < n

-- The edit k is there, and its path and its new name are in the pool.
pub record Named (pool edits : List ℕ) (k : ℕ) : Type 0 where
  pub few : k < 64
  pub entry : k * 16 + 16 ≤ length edits
  pub named : edit_in (length pool) edits k ≡ true

-- The marks of n slots tell which columns the earlier edits rename, and which they widen.
pub record Tells (records : List ℕ) (n : ℕ) (marks : List ℕ) (earlier : List Edited) : Type 0 where
  pub renames : (s : ℕ) → s < n → renamed (slot_id records s) earlier ≡ leb 2 (low_part (get_or marks s 0))
  pub widens : (s : ℕ) → s < n → widened (slot_id records s) earlier ≡ leb 256 (get_or marks s 0)

-- The paper's `edited_one` behind its look-up.
unfoldable pub edit_found : Forest Field → Option Row → (dropped : List ℕ) (k : ℕ) (earlier : List Edited) → Change → Answer Edited
edit_found tree o dropped k earlier change = do
  row ← surviving k (remaining (gone_columns dropped tree) o)
  permitted k (forbidden change row.role || again change row.field.id earlier)
  dotless 6 k (has_dot change)
  stepped k (no_step change row.field)
  ok (record { id = row.field.id; change = change })

-- What is asked of an edit once its column is found, and stays.
unfoldable pub fits : (k : ℕ) (barred dotted steps_not : Bool) → Answer (Unit {0})
fits k barred dotted steps_not = do
  permitted k barred
  dotless 6 k dotted
  stepped k steps_not

-- The same of the edit k of the record at a slot.
abbrev pub edit_fits : (records us : List ℕ) (version : ℕ) (pool edits : List ℕ) (k : ℕ) (marks : List ℕ) (slot : ℕ) → Answer (Unit {0})
edit_fits records us version pool edits k marks slot =
    fits k
    (forbids (what_of (edit_at edits k).what) (role_at records us slot) || repeats (what_of (edit_at edits k).what) (get_or marks slot 0))
    (dots (what_of (edit_at edits k).what) (new_name pool edits k))
    (stepless (what_of (edit_at edits k).what) version (kind_at records slot) (rec_at records slot).code (edit_at edits k).code)

-- What is decided of the record at a slot.
abbrev pub edited_at : (records : List ℕ) (slot : ℕ) → Change → Edited
edited_at records slot change = record { id = slot_id records slot; change = change }

abbrev pub change_of : (version : ℕ) (pool edits : List ℕ) (k : ℕ) → Change
change_of version pool edits k = (edit_of version pool edits k).change

-- What the code answers of it.
abbrev pub EditedBy : Editing → Answer Edited → (records : List ℕ) (n : ℕ) → Change → Type 0
EditedBy (Ok s) a records n change = (s.0 < n) × (a ≡ ok (edited_at records s.0 change))
EditedBy (Err r) a records n change = a ≡ refused r.number r.list r.place

-- Whatever pool the base has, what the look-up answered, and which edits came before.
pub record OneEdited (f : Found) (records : List ℕ) (n : ℕ) (us : List ℕ) (version : ℕ) (request edits : List ℕ) (k : ℕ) (dropped marks : List ℕ) (r : Editing) : Type 0 where
  pub by : (pool : List ℕ) (o : Option Row) (earlier : List Edited)
      → ((row : Row) → o ≡ some row → Stood pool records n us row) → f ≡ found_row o → Tells records n marks earlier
      → EditedBy r (edit_found (fields pool records (base_slots records n)) o dropped k earlier (change_of version request edits k)) records n (change_of version request edits k)
