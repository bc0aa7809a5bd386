-- Edits change a column's name, whether it is required and its type code, and nothing else of it.
use mathlib.Core.Path.{◌≡◌, refl, ◌∙◌}
use mathlib.Core.Bool.{Bool, true, false, cond}
use mathlib.Core.List.{List, [], ◌∷◌, ◌++◌}
use lib.Dec.{eqb}
use Rattle.paper.specs.Forest.{Forest, empty, node, mapped}
use Rattle.paper.specs.Field.{Field}
use Rattle.paper.specs.Sound.{ids}
use Rattle.paper.specs.Edits.{Change, rename, relax, widen, Edited, with_change, edit_field, edit_fields}

-- What no change changes, edits keep.
module _ {A : Type 0} (get : Field → A) (kept : (c : Change) (f : Field) → get (with_change c f) ≡ get f) where
  field_keeps : (e : Edited) (f : Field) → get (edit_field e f) ≡ get f
  field_keeps e f = go (eqb e.id f.id)
    where
      go : (b : Bool) → get (cond b (with_change e.change f) f) ≡ get f
      go true = kept e.change f
      go false = refl

  pub fields_keep : (es : List Edited) (f : Field) → get (edit_fields es f) ≡ get f
  unfolding edit_fields
  fields_keep [] f = refl
  fields_keep (e ∷ es) f = fields_keep es (edit_field e f) ∙ field_keeps e f

changed_id : (c : Change) (f : Field) → (with_change c f).id ≡ f.id
changed_id (rename x) f = refl
changed_id relax f = refl
changed_id (widen v x) f = refl

changed_kind : (c : Change) (f : Field) → (with_change c f).kind ≡ f.kind
changed_kind (rename x) f = refl
changed_kind relax f = refl
changed_kind (widen v x) f = refl

changed_attribute : (c : Change) (f : Field) → (with_change c f).attribute ≡ f.attribute
changed_attribute (rename x) f = refl
changed_attribute relax f = refl
changed_attribute (widen v x) f = refl

pub edit_keeps_id : (e : Edited) (f : Field) → (edit_field e f).id ≡ f.id
edit_keeps_id = field_keeps (λ f. f.id) changed_id

module _ (es : List Edited) (f : Field) where
  pub edits_keep_id : (edit_fields es f).id ≡ f.id
  edits_keep_id = fields_keep (λ f. f.id) changed_id es f

  pub edits_keep_kind : (edit_fields es f).kind ≡ f.kind
  edits_keep_kind = fields_keep (λ f. f.kind) changed_kind es f

  pub edits_keep_attribute : (edit_fields es f).attribute ≡ f.attribute
  edits_keep_attribute = fields_keep (λ f. f.attribute) changed_attribute es f

-- One list of edits after another.
pub edits_append : (es fs : List Edited) (f : Field) → edit_fields (es ++ fs) f ≡ edit_fields fs (edit_fields es f)
unfolding edit_fields
edits_append [] fs f = refl
edits_append (e ∷ es) fs f = edits_append es fs (edit_field e f)

-- A tree whose columns keep their ids has the same ids.
pub ids_mapped : (g : Field → Field) → ((f : Field) → (g f).id ≡ f.id) → (t : Forest Field) → ids (mapped g t) ≡ ids t
unfolding ids mapped
ids_mapped g h empty = refl
ids_mapped g h (node f m n) = rw (h f, ids_mapped g h m, ids_mapped g h n)
