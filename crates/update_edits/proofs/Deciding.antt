-- One edit: nothing found, a column that goes, one that may not be changed so, a dot in the new name, no step; else it is decided.
use Prim.Native.Nat.{ℕ, ◌+◌, ◌*◌, ◌<◌, ◌≤◌}
use mathlib.Core.Path.{◌≡◌, refl, sym, ap, subst, ◌∙◌}
use mathlib.Core.Bool.{Bool, true, false, not, ◌&&◌, ◌||◌, cond}
use mathlib.Core.List.{List}
use mathlib.Core.Option.{Option, none, some}
use native.Mathlib.Omega.{arith}
use lib.Dec.{eqb, leb}
use lib.ListN.{length, get_or}
use borrow.Author.Tests.{eqb-true}
use Rattle.paper.specs.declared.Role.{Role}
use Rattle.paper.specs.Answer.{ok, ◌>>=◌, among}
use Rattle.paper.specs.Refusals.{permitted, dotless, stepped}
use Rattle.paper.specs.Bytes.{turned, rec_at, kind_at, field_at}
use Rattle.paper.specs.Decode.{fields}
use Rattle.paper.specs.Edits.{Change, rename, relax, widen, Edited, forbidden, again, renamed, widened, has_dot, no_step, edited_one}
use Rattle.paper.specs.Forest.{Forest}
use Rattle.paper.specs.Field.{Field, is_member, is_key, is_primitive}
use Rattle.paper.specs.Gone.{gone_columns}
use Rattle.paper.specs.Promotions.{allowed}
use Rattle.paper.specs.Lists.{edit_at, new_name, edit_path, edit_of}
use Rattle.paper.specs.Rows.{Row, look_name}
use Rattle.record.specs.declared.FieldId.{FieldId}
use Rattle.record.specs.declared.Slot.{Slot}
use Rattle.record.specs.declared.Refusal.{Refusal}
use Rattle.record.specs.Answers.{Check, Found}
use Rattle.std.specs.Prelude.{Ok, Err, Some, None}
use Rattle.record.specs.Says.{refusal_of, checked, found_row}
use Rattle.record.proofs.Testing.{checked_ok, checked_refused}
use Rattle.record_entries.specs.declared.What.{What}
use Rattle.record_entries.specs.declared.What.TheVariants.{Rename, Relax, Widen}
use Rattle.record_entries.specs.Rule.{what_of}
use Rattle.plan.specs.Plan.{low_part}
use Rattle.update_gone.specs.Gone.{base_slots, slot_id, ids_gone, Rises}
use Rattle.update_gone.proofs.Fields.{gone_fields}
use Rattle.update_edits.specs.Answers.{Editing}
use Rattle.update_edits.specs.Roles.{role_at, Stood, forbids, repeats, dots, stepless}
use Rattle.update_edits.specs.Edit.{Lands, Tells, edit_found, fits, edit_fits, edited_at, change_of, EditedBy, OneEdited}
use Rattle.update_edits.proofs.Roles.{found_stood}

-- ---- what was found

at_nothing : (x : FieldId) (p : Slot) → Some (x, p) ≡ found_row none → ⊥
unfolding found_row
at_nothing x p e = let z : ◌≡◌ {A = ℕ} 0 1 = cc in omega arith

nothing_at : (r : Row) → None ≡ found_row (some r) → ⊥
unfolding found_row
nothing_at r e = let z : ◌≡◌ {A = ℕ} 0 1 = cc in omega arith

at_slot : (x : FieldId) (p : Slot) (r : Row) → Some (x, p) ≡ found_row (some r) → r.slot ≡ p.0
unfolding found_row
at_slot x p r e =
    let z : (x, p) ≡ (record { 0 = turned r.field.id }, record { 0 = r.slot }) = cc in
    sym (ap (λ (w : FieldId × Slot). w.1.0) z)

pub lands_in : (n : ℕ) (f : Found) (x : FieldId) (p : Slot) → f ≡ Some (x, p) → Lands n f → p.0 < n
lands_in n f x p e h = h.at x p e

-- ---- a change, by what the edit does

abbrev pub changes : What → (version : ℕ) (name : List ℕ) (code : ℕ) → Change
changes Rename version name code = rename name
changes Relax version name code = relax
changes Widen version name code = widen version code

pub change_is : (version : ℕ) (request edits : List ℕ) (k : ℕ)
    → change_of version request edits k ≡ changes (what_of (edit_at edits k).what) version (new_name request edits k) (edit_at edits k).code
unfolding edit_of what_of
change_is version request edits k = go (eqb (edit_at edits k).what 1) (eqb (edit_at edits k).what 2)
  where
    go : (b c : Bool) → cond b (rename (new_name request edits k)) (cond c relax (widen version (edit_at edits k).code))
        ≡ changes (cond b Rename (cond c Relax Widen)) version (new_name request edits k) (edit_at edits k).code
    go true c = refl
    go false true = refl
    go false false = refl

module _ (version : ℕ) (name : List ℕ) (code : ℕ) where
  forbids_is : (w : What) (r : Role) → forbidden (changes w version name code) r ≡ forbids w r
  forbids_is Rename r = refl
  forbids_is Relax r = refl
  forbids_is Widen r = refl

  repeats_is : (w : What) (i mark : ℕ) (earlier : List Edited) → renamed i earlier ≡ repeats Rename mark → widened i earlier ≡ repeats Widen mark
      → again (changes w version name code) i earlier ≡ repeats w mark
  repeats_is Rename i mark earlier r w = r
  repeats_is Relax i mark earlier r w = refl
  repeats_is Widen i mark earlier r w = w

  dots_is : (w : What) → has_dot (changes w version name code) ≡ dots w name
  dots_is Rename = refl
  dots_is Relax = refl
  dots_is Widen = refl

  stepless_is : (w : What) (f : Field) → no_step (changes w version name code) f ≡ stepless w version f.kind f.code code
  stepless_is Rename f = refl
  stepless_is Relax f = refl
  stepless_is Widen f = refl

-- One that renames has the byte 1.
pub renames_byte : (byte : ℕ) (w : What) → w ≡ what_of byte → w ≡ Rename → byte ≡ 1
unfolding what_of
renames_byte byte w e q = go (eqb byte 1) (eqb byte 2) refl (sym q ∙ e)
  where
    go : (b c : Bool) → eqb byte 1 ≡ b → Rename ≡ cond b Rename (cond c Relax Widen) → byte ≡ 1
    go true c h z = eqb-true byte 1 h
    go false true h z = absurd (let z : ◌≡◌ {A = ℕ} 0 1 = cc in omega arith)
    go false false h z = absurd (let z : ◌≡◌ {A = ℕ} 0 2 = cc in omega arith)

-- ---- what is asked of the column: `search fitting`

module _ (records us : List ℕ) (version : ℕ) (request edits : List ℕ) (k : ℕ) (marks : List ℕ) (slot : ℕ) where
  abbrev Fits : Check → Type 0
  Fits r = r ≡ checked (edit_fits records us version request edits k marks slot)

  -- f is the refusal of this number
  abbrev Refuses : Refusal → ℕ → Type 0
  Refuses f number = f ≡ refusal_of number 6 k

  module _ (w : What) (ew : w ≡ what_of (edit_at edits k).what) (role : Role) (er : role ≡ role_at records us slot) where
    module _ (q : w ≡ Rename) (a : Bool) (ea : a ≡ is_member role) (b : Bool) (eb : b ≡ leb 2 (low_part (get_or marks slot 0))) where
      pub rename_barred : (f : Refusal) → (not a || b) ≡ true → Refuses f 24 → Fits (Err f)
      unfolding checked fits ◌>>=◌
      rename_barred f u e = rw (← ew, q, ← er, ← ea, ← eb, u, e)

      module _ (u : (not a || b) ≡ false) (x : List ℕ) (ex : x ≡ new_name request edits k) (d : Bool) (ed : d ≡ among 46 x) where
        pub rename_dotted : (f : Refusal) → d ≡ true → Refuses f 13 → Fits (Err f)
        unfolding checked fits ◌>>=◌
        rename_dotted f v e = rw (← ew, q, ← er, ← ea, ← eb, u, ← ex, ← ed, v, e)

        pub rename_fits : d ≡ false → Fits (Ok tt)
        unfolding checked fits ◌>>=◌
        rename_fits v = rw (← ew, q, ← er, ← ea, ← eb, u, ← ex, ← ed, v)

    module _ (q : w ≡ Relax) (a : Bool) (ea : a ≡ is_key role) where
      pub relax_barred : (f : Refusal) → a ≡ true → Refuses f 24 → Fits (Err f)
      unfolding checked fits ◌>>=◌
      relax_barred f u e = rw (← ew, q, ← er, ← ea, u, e)

      pub relax_fits : a ≡ false → Fits (Ok tt)
      unfolding checked fits ◌>>=◌
      relax_fits u = rw (← ew, q, ← er, ← ea, u)

    module _ (q : w ≡ Widen) (a : Bool) (ea : a ≡ leb 256 (get_or marks slot 0)) where
      pub widen_barred : (f : Refusal) → a ≡ true → Refuses f 24 → Fits (Err f)
      unfolding checked fits ◌>>=◌
      widen_barred f u e = rw (← ew, q, ← ea, u, e)

      module _ (u : a ≡ false) (x : ℕ) (ex : x ≡ (edit_at edits k).code) (d : Bool) (ed : d ≡ (is_primitive (kind_at records slot) && allowed version (rec_at records slot).code x)) where
        pub widen_stepless : (f : Refusal) → not d ≡ true → Refuses f 26 → Fits (Err f)
        unfolding checked fits ◌>>=◌
        widen_stepless f v e = rw (← ew, q, ← ea, u, ← ex, ← ed, v, e)

        pub widen_fits : not d ≡ false → Fits (Ok tt)
        unfolding checked fits ◌>>=◌
        widen_fits v = rw (← ew, q, ← ea, u, ← ex, ← ed, v)

-- a slot of the base has its bytes
pub slot_whole : (records : List ℕ) (n : ℕ) (us : List ℕ) (slot : ℕ) → Rises records n us → slot < n → slot * 24 + 24 ≤ length records
slot_whole records n us slot R l = let w = R.whole in omega arith

pub ruleset fitting = (renames_byte, rename_barred, rename_dotted, rename_fits, relax_barred, relax_fits, widen_barred, widen_stepless, widen_fits, slot_whole)

-- ---- the paths: `search deciding`

module _ (f : Found) (records : List ℕ) (n : ℕ) (us : List ℕ) (version : ℕ) (request edits : List ℕ) (k : ℕ) (ds marks : List ℕ) where
  abbrev Says : Editing → Type 0
  Says r = OneEdited f records n us version request edits k ds marks r

  abbrev tree : (pool : List ℕ) → Forest Field
  tree pool = fields pool records (base_slots records n)

  abbrev change : Change
  change = change_of version request edits k

  abbrev what : What
  what = what_of (edit_at edits k).what

  abbrev name : List ℕ
  name = new_name request edits k

  abbrev code : ℕ
  code = (edit_at edits k).code

  pub edit_nothing : (y : Refusal) → y ≡ refusal_of 23 6 k → f ≡ None → Says (Err y)
  unfolding edit_found ◌>>=◌
  edit_nothing y ey e = rw ey (record { by = λ pool o earlier st ef tells. go pool o earlier ef })
    where
      go : (pool : List ℕ) (o : Option Row) (earlier : List Edited) → f ≡ found_row o
          → EditedBy (Err (refusal_of 23 6 k)) (edit_found (tree pool) o ds k earlier change) records n change
      go pool none earlier ef = refl
      go pool (some r) earlier ef = absurd (nothing_at r (sym e ∙ ef))

  -- what is asked of the column, and then it is decided
  fits_then : (barred dotted steps_not : Bool) (a : Edited)
      → (permitted k barred >>= λ _. dotless 6 k dotted >>= λ _. stepped k steps_not >>= λ _. ok a) ≡ (fits k barred dotted steps_not >>= λ _. ok a)
  unfolding fits ◌>>=◌
  fits_then true d z a = refl
  fits_then false true z a = refl
  fits_then false false true a = refl
  fits_then false false false a = refl

  module _ (x : FieldId) (p : Slot) (e : f ≡ Some (x, p)) (g : Bool) (eg : g ≡ among (slot_id records p.0) (ids_gone records n ds)) where
    -- Something was found, so it is enough to speak of its row.
    of_row : (a : Editing) → ((pool : List ℕ) (r : Row) (earlier : List Edited) → Stood pool records n us r → f ≡ found_row (some r) → Tells records n marks earlier
        → EditedBy a (edit_found (tree pool) (some r) ds k earlier change) records n change) → Says a
    of_row a h = record { by = λ pool o earlier st ef tells. go pool o earlier st ef tells }
      where
        go : (pool : List ℕ) (o : Option Row) (earlier : List Edited) → ((row : Row) → o ≡ some row → Stood pool records n us row) → f ≡ found_row o → Tells records n marks earlier
            → EditedBy a (edit_found (tree pool) o ds k earlier change) records n change
        go pool none earlier st ef tells = absurd (at_nothing x p (sym e ∙ ef))
        go pool (some r) earlier st ef tells = h pool r earlier (st r refl) ef tells

    -- the row that was found is the record at the slot
    module _ (pool : List ℕ) (r : Row) (s : Stood pool records n us r) (ef : f ≡ found_row (some r)) where
      slot_is : r.slot ≡ p.0
      slot_is = at_slot x p r (sym e ∙ ef)

      field_is : r.field ≡ field_at pool records p.0
      field_is = s.field ∙ ap (field_at pool records) slot_is

      id_is : r.field.id ≡ slot_id records p.0
      unfolding field_at
      id_is = rw field_is

      role_is : r.role ≡ role_at records us p.0
      role_is = s.role ∙ ap (role_at records us) slot_is

      gone_is : among r.field.id (gone_columns ds (tree pool)) ≡ g
      gone_is = rw (id_is, gone_fields pool records n ds) (sym eg)

    pub edit_gone : (y : Refusal) → y ≡ refusal_of 23 6 k → g ≡ true → Says (Err y)
    unfolding edit_found ◌>>=◌
    edit_gone y ey t = rw ey (of_row (Err (refusal_of 23 6 k)) (λ pool r earlier s ef tells. rw (gone_is pool r s ef, t)))

    module _ (t : g ≡ false) (l : Lands n f) where
      there : p.0 < n
      there = l.at x p e

      -- What the paper asks of the row is what is asked of the record at the slot.
      found_fits : (pool : List ℕ) (r : Row) (earlier : List Edited) → Stood pool records n us r → f ≡ found_row (some r) → Tells records n marks earlier
          → edit_found (tree pool) (some r) ds k earlier change ≡ (edit_fits records us version request edits k marks p.0 >>= λ _. ok (edited_at records p.0 change))
      unfolding edit_found field_at ◌>>=◌
      found_fits pool r earlier s ef tells =
          let told = repeats_is version name code what (slot_id records p.0) (get_or marks p.0 0) earlier (tells.renames p.0 there) (tells.widens p.0 there) in
          let barred : (forbidden change r.role || again change r.field.id earlier) ≡ (forbids what (role_at records us p.0) || repeats what (get_or marks p.0 0))
          = rw (change_is version request edits k, forbids_is version name code what r.role, role_is pool r s ef, id_is pool r s ef, told) in
          let dotted : has_dot change ≡ dots what name = rw (change_is version request edits k) (dots_is version name code what) in
          let steps : no_step change r.field ≡ stepless what version (kind_at records p.0) (rec_at records p.0).code code
          = rw (change_is version request edits k, stepless_is version name code what r.field, field_is pool r s ef) in
          rw (gone_is pool r s ef, t) (rw (barred, dotted, steps, id_is pool r s ef) (fits_then _ _ _ (edited_at records p.0 change)))

      module _ (c : Check) (ec : c ≡ checked (edit_fits records us version request edits k marks p.0)) where
        pub edit_barred : (y : Refusal) → c ≡ Err y → Says (Err y)
        unfolding ◌>>=◌
        edit_barred y q = of_row (Err y) (λ pool r earlier s ef tells. found_fits pool r earlier s ef tells ∙ rw (checked_refused (edit_fits records us version request edits k marks p.0) c y ec q))

        pub edit_stands : c ≡ (Ok tt) → Says (Ok p)
        unfolding ◌>>=◌
        edit_stands q = of_row (Ok p) (λ pool r earlier s ef tells. (there, found_fits pool r earlier s ef tells ∙ rw (checked_ok (edit_fits records us version request edits k marks p.0) c ec q)))

pub ruleset deciding = (lands_in, edit_nothing, edit_gone, edit_barred, edit_stands)

-- ---- the paper's step

module _ {records : List ℕ} {n : ℕ} {us : List ℕ} (R : Rises records n us) (pool : List ℕ) (version : ℕ) (request edits : List ℕ) (k : ℕ) where
  abbrev base : Forest Field
  base = fields pool records (base_slots records n)

  -- What the edit's path finds is a slot of the base.
  pub found_lands : (x : List ℕ) (f : Found) → f ≡ found_row (look_name base x) → Lands n f
  found_lands x f e = record { at = λ i p q. go i p (look_name base x) refl (sym q ∙ e) }
    where
      go : (i : FieldId) (p : Slot) (o : Option Row) → look_name base x ≡ o → Some (i, p) ≡ found_row o → p.0 < n
      go i p none eo q = absurd (at_nothing i p q)
      go i p (some r) eo q = subst (λ (z : ℕ). z < n) (at_slot i p r q) (found_stood R x r eo).there

  -- What the code decides of it is the paper's `edited_one`.
  pub edited_is : (ds marks : List ℕ) (earlier : List Edited) (f : Found) (r : Editing) → f ≡ found_row (look_name base (edit_path request edits k))
      → Tells records n marks earlier → OneEdited f records n us version request edits k ds marks r
      → EditedBy r (edited_one base ds k earlier (edit_of version request edits k)) records n (change_of version request edits k)
  unfolding edited_one edit_found edit_of
  edited_is ds marks earlier f r e t h = h.by pool (look_name base (edit_path request edits k)) earlier (λ row q. found_stood R (edit_path request edits k) row q) e t
