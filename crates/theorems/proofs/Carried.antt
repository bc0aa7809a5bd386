-- A column that stays stands in the answer as it was last set: the rebuild leaves out what goes, and carries each other
-- record over, edited, with the records above it.
use Prim.Native.Nat.{ℕ}
use mathlib.Core.Path.{◌≡◌, refl, sym, ap, ap₂, subst, ◌∙◌}
use mathlib.Core.Logic.{◌⊎◌, inl, inr, ⊎_elim}
use mathlib.Core.Bool.{Bool, true, false, cond}
use mathlib.Core.List.{List, [], ◌∷◌, ◌++◌, map}
use mathlib.Core.Option.{Option, none, some}
use Rattle.paper.specs.Answer.{ok}
use Rattle.paper.specs.Forest.{Forest, empty, node, mapped}
use Rattle.paper.specs.Field.{Field, id_of, kind_of, is_struct}
use Rattle.paper.specs.Rows.{Row, Start, row, below, beside, rows, nearest}
use Rattle.paper.specs.Sound.{ids}
use Rattle.paper.specs.Gone.{dropped_member, gone}
use Rattle.paper.specs.Edits.{Edited, edit_fields, edited_tree}
use Rattle.paper.specs.Update.{Request, Schema, Plan, planned}
use Rattle.paper.specs.Rebuild.{Addition, rebuilt, added, update}
use Rattle.laws.specs.Members.{◌∈◌}
use Rattle.laws.proofs.Basics.{in_left, in_right, in_append}
use Rattle.laws.proofs.Edited.{edits_keep_id, edits_keep_kind}
use Rattle.laws.proofs.Receiving.{gone_node}
use Rattle.theorems.specs.Columns.{Column, Stands, settings}
use Rattle.theorems.specs.Edited.{StaysAsSet}
use Rattle.theorems.proofs.Setting.{as_last_set, decided_edits, planned_steps}
use Rattle.theorems.proofs.Standing.{accepted}

-- ---- records and those above them

-- A record stands in a tree with these records above it, if those above its roots are given.
abbrev pub At : (above : List Field) → Forest Field → Field → List Field → Type 0
At above empty f fs = ⊥
At above (node g m n) f fs = ((f ≡ g) × (fs ≡ above)) ⊎ (At (g ∷ above) m f fs ⊎ At above n f fs)

pub row_at : (s : Start) (t : Forest Field) (r : Row) → r ∈ rows s t → At s.above t r.field r.above
unfolding rows
row_at s empty r h = h
row_at s (node f m n) r (inl e) = inl (ap (λ (x : Row). x.field) e, ap (λ (x : Row). x.above) e)
row_at s (node f m n) r (inr h) =
    ⊎_elim (λ k. inr (inl (row_at (below s f) m r k))) (λ k. inr (inr (row_at (beside s m) n r k)))
    (in_append r (rows (below s f) m) (rows (beside s m) n) h)

pub record RowOf (s : Start) (t : Forest Field) (f : Field) (fs : List Field) : Type 0 where
  pub row : Row
  pub there : row ∈ rows s t
  pub field : row.field ≡ f
  pub above : row.above ≡ fs

pub at_row : (s : Start) (t : Forest Field) (f : Field) (fs : List Field) → At s.above t f fs → RowOf s t f fs
unfolding rows
at_row s empty f fs h = absurd h
at_row s (node g m n) f fs (inl e) =
    record { row = row s g m; there = inl refl; field = sym e.0; above = sym e.1 }
at_row s (node g m n) f fs (inr (inl h)) =
    let o = at_row (below s g) m f fs h in
    record {
      row = o.row;
      there = inr (in_left o.row (rows (below s g) m) (rows (beside s m) n) o.there);
      field = o.field;
      above = o.above;
    }
at_row s (node g m n) f fs (inr (inr h)) =
    let o = at_row (beside s m) n f fs h in
    record {
      row = o.row;
      there = inr (in_right o.row (rows (below s g) m) (rows (beside s m) n) o.there);
      field = o.field;
      above = o.above;
    }

at_id : (above : List Field) (t : Forest Field) (f : Field) (fs : List Field) → At above t f fs → f.id ∈ ids t
unfolding ids
at_id above empty f fs h = h
at_id above (node g m n) f fs (inl e) = inl (ap (λ (x : Field). x.id) e.0)
at_id above (node g m n) f fs (inr (inl h)) = inr (in_left _ (ids m) (ids n) (at_id (g ∷ above) m f fs h))
at_id above (node g m n) f fs (inr (inr h)) = inr (in_right _ (ids m) (ids n) (at_id above n f fs h))

-- What stays stands in the answer, edited, and so do the records above it.
module _ (es : List Edited) (ds : List ℕ) (adds : List (Addition Field)) (f : Field) (fs : List Field) where
  abbrev pub anew : Option ℕ → Bool → Forest Field → Forest Field
  anew q b t = rebuilt id_of kind_of ds adds q b (edited_tree es t)

  abbrev pub goes : Bool → Forest Field → List ℕ
  goes b t = map id_of (gone id_of kind_of ds b t)

  abbrev pub AtNow : List Field → Forest Field → Type 0
  AtNow above t = At (map (edit_fields es) above) t (edit_fields es f) (map (edit_fields es) fs)

  anew_node : (q : Option ℕ) (b : Bool) (g : Field) (m n : Forest Field)
      → anew q b (node g m n)
      ≡ cond (dropped_member b ds g.id) (anew q b n)
      (node (edit_fields es g) (anew (some g.id) (is_struct g.kind) m) (anew q b n))
  unfolding rebuilt mapped
  anew_node q b g m n = rw (edits_keep_id es g, edits_keep_kind es g)

  carry : (above : List Field) (g : Field) (m n m' n' : Forest Field) (gm gn : List ℕ) (d : Bool)
      → At above (node g m n) f fs → (f.id ∈ (cond d (g.id ∷ ids m) gm ++ gn) → ⊥)
      → (At (g ∷ above) m f fs → (f.id ∈ gm → ⊥) → AtNow (g ∷ above) m')
      → (At above n f fs → (f.id ∈ gn → ⊥) → AtNow above n')
      → AtNow above (cond d n' (node (edit_fields es g) m' n'))
  carry above g m n m' n' gm gn true (inl e) o inside beyond = absurd (o (inl (ap (λ (x : Field). x.id) e.0)))
  carry above g m n m' n' gm gn true (inr (inl k)) o inside beyond =
      absurd (o (inr (in_left _ (ids m) gn (at_id (g ∷ above) m f fs k))))
  carry above g m n m' n' gm gn true (inr (inr k)) o inside beyond = beyond k (λ z. o (inr (in_right _ (ids m) gn z)))
  carry above g m n m' n' gm gn false (inl e) o inside beyond =
      inl (ap (edit_fields es) e.0, ap (map (edit_fields es)) e.1)
  carry above g m n m' n' gm gn false (inr (inl k)) o inside beyond = inr (inl (inside k (λ z. o (in_left _ gm gn z))))
  carry above g m n m' n' gm gn false (inr (inr k)) o inside beyond = inr (inr (beyond k (λ z. o (in_right _ gm gn z))))

  pub carried : (above : List Field) (q : Option ℕ) (b : Bool) (t : Forest Field) → At above t f fs
      → (f.id ∈ goes b t → ⊥) → AtNow above (anew q b t)
  carried above q b empty h out = absurd h
  carried above q b (node g m n) h out =
      subst (AtNow above) (sym (anew_node q b g m n))
      (carry above g m n (anew (some g.id) (is_struct g.kind) m) (anew q b n) (goes (is_struct g.kind) m)
      (goes b n) (dropped_member b ds g.id) h (rw (gone_node ds b g m n) at out)
      (λ i o. carried (g ∷ above) (some g.id) (is_struct g.kind) m i o)
      (λ i o. carried above q b n i o))

-- ---- an accepted update

pub answered : (s : Schema) (q : Request) (p : Plan) (u : Schema) → planned s q ≡ ok p → update s q ≡ ok u
    → u.tree ≡ rebuilt id_of kind_of p.dropped (added s q p) none true (edited_tree (settings s q) s.tree)
answered s q p u e₁ e =
    (accepted s q p u e₁ e).tree
    ∙ ap (λ (l : List Edited). rebuilt id_of kind_of p.dropped (added s q p) none true (edited_tree l s.tree))
    (decided_edits s q p e₁).0

-- The records above a column tell its parent.
stands_at : (above : List Field) (t : Forest Field) (c : Column) → Stands (nearest above) t c
    → (fs : List Field) × At above t c.field fs × (c.parent ≡ nearest fs)
stands_at above empty c h = absurd h
stands_at above (node g m n) c (inl e) =
    (above, inl (ap (λ (d : Column). d.field) e, refl), ap (λ (d : Column). d.parent) e)
stands_at above (node g m n) c (inr (inl h)) =
    let o = stands_at (g ∷ above) m c h in
    (o.0, inr (inl o.1), o.2)
stands_at above (node g m n) c (inr (inr h)) = let o = stands_at above n c h in (o.0, inr (inr o.1), o.2)

at_stands : (above : List Field) (t : Forest Field) (f : Field) (fs : List Field) → At above t f fs
    → Stands (nearest above) t (record { parent = nearest fs; field = f })
at_stands above empty f fs h = h
at_stands above (node g m n) f fs (inl e) =
    inl (ap₂ (λ (x : Option ℕ) (y : Field). record { parent = x; field = y }) (ap nearest e.1) e.0)
at_stands above (node g m n) f fs (inr (inl h)) = inr (inl (at_stands (g ∷ above) m f fs h))
at_stands above (node g m n) f fs (inr (inr h)) = inr (inr (at_stands above n f fs h))

nearest_edited : (es : List Edited) (fs : List Field) → nearest (map (edit_fields es) fs) ≡ nearest fs
nearest_edited es [] = refl
nearest_edited es (f ∷ fs) = ap some (edits_keep_id es f)

pub stays_as_set : (s : Schema) (q : Request) (p : Plan) (u : Schema) → planned s q ≡ ok p → update s q ≡ ok u
    → StaysAsSet s q p u
stays_as_set s q p u e₁ e c h out =
    let es = settings s q in
    let o = stands_at [] s.tree c h in
    let now = carried es p.dropped (added s q p) c.field o.0 [] none true s.tree o.1 out in
    let later : Column = record { parent = nearest (map (edit_fields es) o.0); field = edit_fields es c.field } in (
      later,
      at_stands [] u.tree (edit_fields es c.field) (map (edit_fields es) o.0) (rw (answered s q p u e₁ e) now),
      as_last_set es c later (nearest_edited es o.0 ∙ sym o.2) refl (planned_steps s q p e₁ c h),
    )
