-- 02, 5/13: rename and relax; 6/13: widen. An edit changes a column of the base that stays; no added one, even where its id is a base one's.
use Rattle.std.specs.Prelude.{ℕ, suc, ◌-◌, Bool, true, false, not, ◌&&◌, ◌||◌, cond, List, [], ◌∷◌, ◌++◌, eqb}
use Rattle.std.proofs.Math.Option.{Option, none, some}
use Rattle.paper.specs.declared.Role.{Role}
use Rattle.paper.specs.Answer.{Answer, ok, ◌>>=◌, ◌>>◌, among, any}
use Rattle.paper.specs.Refusals.{surviving, permitted, dotless, stepped}
use Rattle.paper.specs.Forest.{Forest, mapped}
use Rattle.paper.specs.Field.{Field, with_name, with_flags, with_code, is_member, is_key, is_primitive, is_required}
use Rattle.paper.specs.Rows.{Row, look_name}
use Rattle.paper.specs.Gone.{gone_columns}
use Rattle.paper.specs.Promotions.{allowed}

-- A new name; or no longer required; or a wider type, by the steps of the version that the request names.
pub data Change : Type 0 where
  rename : (name : List ℕ) → Change
  relax : Change
  widen : (version code : ℕ) → Change

-- What is asked: a change of the column that a path finds.
pub record Edit : Type 0 where
  pub path : List ℕ
  pub change : Change

-- What is decided: a change of the column of an id.
pub record Edited : Type 0 where
  pub id : ℕ
  pub change : Change

-- ---- what is decided

-- A path finds a column of the base, as it was, that is not gone.
abbrev pub remaining : (gone : List ℕ) → Option Row → Option Row
remaining gone none = none
remaining gone (some row) = cond (among row.field.id gone) none (some row)

-- An element, key or value is not renamed, a key not relaxed. In any role a column is widened.
abbrev pub forbidden : Change → Role → Bool
forbidden (rename name) role = not (is_member role)
forbidden relax role = is_key role
forbidden (widen version code) role = false

abbrev pub is_rename : Change → Bool
is_rename (rename name) = true
is_rename relax = false
is_rename (widen version code) = false

abbrev pub is_widening : Change → Bool
is_widening (rename name) = false
is_widening relax = false
is_widening (widen version code) = true

-- Whether one of the earlier edits renames, or widens, the column of an id.
abbrev pub renamed : (id : ℕ) → (earlier : List Edited) → Bool
renamed id earlier = any (λ edited. eqb id edited.id && is_rename edited.change) earlier

abbrev pub widened : (id : ℕ) → (earlier : List Edited) → Bool
widened id earlier = any (λ edited. eqb id edited.id && is_widening edited.change) earlier

-- A column is renamed once, and widened once.
abbrev pub again : Change → (id : ℕ) → (earlier : List Edited) → Bool
again (rename name) id earlier = renamed id earlier
again relax id earlier = false
again (widen version code) id earlier = widened id earlier

abbrev pub has_dot : Change → Bool
has_dot (rename name) = among 46 name
has_dot relax = false
has_dot (widen version code) = false

-- Only a primitive is widened, by a step that the version allows.
abbrev pub no_step : Change → Field → Bool
no_step (rename name) f = false
no_step relax f = false
no_step (widen version code) f = not (is_primitive f.kind && allowed version f.code code)

-- Edit k: 23 no column that stays; 24 a role that forbids it, a second rename or widening; 13 a dot in the new name;
-- 26 a step that is not allowed.
unfoldable pub edited_one : Forest Field → (dropped : List ℕ) (k : ℕ) (earlier : List Edited) → Edit → Answer Edited
edited_one tree dropped k earlier edit = do
  row ← surviving k (remaining (gone_columns dropped tree) (look_name tree edit.path))
  permitted k (forbidden edit.change row.role || again edit.change row.field.id earlier)
  dotless 6 k (has_dot edit.change)
  stepped k (no_step edit.change row.field)
  ok (record { id = row.field.id; change = edit.change })

-- One edit after another, from k on.
unfoldable pub edited_all : Forest Field → (dropped : List ℕ) (k : ℕ) (earlier : List Edited) → List Edit
    → Answer (List Edited)
edited_all tree dropped k earlier [] = ok earlier
edited_all tree dropped k earlier (edit ∷ edits) = do
  edited ← edited_one tree dropped k earlier edit
  edited_all tree dropped (suc k) (earlier ++ (edited ∷ [])) edits

-- ---- what they change

-- Relaxing what is optional changes nothing.
abbrev pub relaxed : (flags : ℕ) → ℕ
relaxed flags = cond (is_required flags) (flags - 1) flags

abbrev pub with_change : Change → Field → Field
with_change (rename name) f = with_name name f
with_change relax f = with_flags (relaxed f.flags) f
with_change (widen version code) f = with_code code f

-- The column of an edit's id is changed, any other is as it was.
abbrev pub edit_field : Edited → Field → Field
edit_field edited f = cond (eqb edited.id f.id) (with_change edited.change f) f

unfoldable pub edit_fields : List Edited → Field → Field
edit_fields [] f = f
edit_fields (edited ∷ edits) f = edit_fields edits (edit_field edited f)

-- A tree whose columns are edited. No id, kind or place changes.
abbrev pub edited_tree : List Edited → Forest Field → Forest Field
edited_tree edits = mapped (edit_fields edits)
