-- What receives an accepted addition: the root list, or a struct of the base that does not go. 15 and 16 find the
-- struct among the rows of the base, and 22 says that it stays. Edits change none of this.
use Prim.Native.Nat.{ℕ, suc, ◌+◌}
use mathlib.Core.Path.{◌≡◌, refl, sym, ap, subst, ◌∙◌}
use mathlib.Core.Logic.{◌⊎◌, inl, inr, ⊎_elim}
use mathlib.Core.Bool.{Bool, true, false, cond}
use mathlib.Core.List.{List, [], ◌∷◌, ◌++◌, map}
use mathlib.Core.Option.{Option, none, some}
use lib.Dec.{eqb}
use Rattle.paper.specs.declared.Kind.{Kind}
use Rattle.paper.specs.declared.Kind.TheVariants.{Primitive, Structure, Listing, Mapping}
use Rattle.paper.specs.Answer.{ok, demand, among}
use Rattle.paper.specs.Forest.{Forest, empty, node, size, preorder, mapped}
use Rattle.paper.specs.Field.{Field, id_of, kind_of, with_id, is_struct}
use Rattle.paper.specs.Rows.{Row, Start, top, below, beside, rows, look_name}
use Rattle.paper.specs.Sound.{ids}
use Rattle.paper.specs.Gone.{dropped_member, gone, gone_columns}
use Rattle.paper.specs.Edits.{Edited, edit_fields, edited_tree}
use Rattle.paper.specs.Update.{Request, Schema, Plan, Receiver, as_struct, beyond, receiver, Placed, placed}
use Rattle.paper.specs.Update.{placed_all, planned}
use Rattle.paper.specs.Rebuild.{Addition, arrivals, added}
use Rattle.laws.specs.Members.{◌∈◌}
use Rattle.laws.proofs.Basics.{refused≢ok, unbind, ok_is, fault_if_ok, none≢some, some_is, in_left, in_right}
use Rattle.laws.proofs.Basics.{in_append, any_false, eqb_self}
use Rattle.laws.proofs.Own.{ids_preorder}
use Rattle.laws.proofs.Edited.{edits_keep_id, edits_keep_kind, ids_mapped}
use Rattle.laws.proofs.Rows.{name_found}
use Rattle.laws.proofs.Runs.{map_append}

-- ---- structs of a tree

-- A struct of an id stands in it.
abbrev pub StructIn : ℕ → Forest Field → Type 0
StructIn x empty = ⊥
StructIn x (node f m n) = ((f.id ≡ x) × (is_struct f.kind ≡ true)) ⊎ (StructIn x m ⊎ StructIn x n)

pub struct_id : (x : ℕ) (t : Forest Field) → StructIn x t → x ∈ ids t
unfolding ids
struct_id x empty h = h
struct_id x (node f m n) (inl h) = inl (sym h.0)
struct_id x (node f m n) (inr (inl h)) = inr (in_left x (ids m) (ids n) (struct_id x m h))
struct_id x (node f m n) (inr (inr h)) = inr (in_right x (ids m) (ids n) (struct_id x n h))

as_struct_in : (m : Forest Field) (v : Receiver) → as_struct m ≡ some v → StructIn v.id m
as_struct_in empty v e = absurd (none≢some e)
as_struct_in (node f m n) v e = go (is_struct f.kind) refl e
  where
    go : (b : Bool) → is_struct f.kind ≡ b → cond b (some (record { id = f.id; members = m })) none ≡ some v
        → StructIn v.id (node f m n)
    go true k h = inl (ap (λ (w : Receiver). w.id) (some_is h), k)
    go false k h = absurd (none≢some h)

beyond_in : (x : ℕ) (m : Forest Field) → StructIn x (beyond m) → StructIn x m
beyond_in x empty h = h
beyond_in x (node f m n) h = inr (inr h)

receiver_in : (f : Field) (m n : Forest Field) (v : Receiver) → receiver f m f.kind ≡ some v
    → StructIn v.id (node f m n)
receiver_in f m n v = go f.kind refl
  where
    go : (k : Kind) → f.kind ≡ k → receiver f m k ≡ some v → StructIn v.id (node f m n)
    go Primitive q h = absurd (none≢some h)
    go Structure q h = inl (ap (λ (w : Receiver). w.id) (some_is h), ap is_struct q)
    go Listing q h = inr (inl (as_struct_in m v h))
    go Mapping q h = inr (inl (beyond_in v.id m (as_struct_in (beyond m) v h)))

row_receives : (s : Start) (t : Forest Field) (r : Row) → r ∈ rows s t → (v : Receiver)
    → receiver r.field r.inside r.field.kind ≡ some v → StructIn v.id t
unfolding rows
row_receives s empty r h v e = absurd h
row_receives s (node f m n) r (inl q) v e = receiver_in f m n v (rw q at e)
row_receives s (node f m n) r (inr h) v e =
    ⊎_elim
    (λ k. inr (inl (row_receives (below s f) m r k v e)))
    (λ k. inr (inr (row_receives (beside s m) n r k v e)))
    (in_append r (rows (below s f) m) (rows (beside s m) n) h)

-- ---- what goes of a node

pub gone_node : (ds : List ℕ) (b : Bool) (f : Field) (m n : Forest Field)
    → map id_of (gone id_of kind_of ds b (node f m n))
    ≡ cond (dropped_member b ds f.id) (f.id ∷ ids m) (map id_of (gone id_of kind_of ds (is_struct f.kind) m))
    ++ map id_of (gone id_of kind_of ds b n)
unfolding gone
gone_node ds b f m n = go (dropped_member b ds f.id)
  where
    gm : List Field
    gm = gone id_of kind_of ds (is_struct f.kind) m

    gn : List Field
    gn = gone id_of kind_of ds b n

    go : (d : Bool)
        → map id_of (cond d (f ∷ preorder m) gm ++ gn) ≡ cond d (f.id ∷ ids m) (map id_of gm) ++ map id_of gn
    go true = rw (ids_preorder m) (map_append id_of (f ∷ preorder m) gn)
    go false = map_append id_of gm gn

-- ---- what receives an addition

pub demand_ok : {A : Type 0} (n l p : ℕ) (o : Option A) {a : A} → demand n l p o ≡ ok a → o ≡ some a
demand_ok n l p none e = absurd (refused≢ok e)
demand_ok n l p (some a) e = ap some (ok_is e)

module _ (t : Forest Field) (ds : List ℕ) where
  -- The root list, or a struct that does not go.
  abbrev pub Stays : Option ℕ → Type 0
  Stays none = Unit {0}
  Stays (some x) = StructIn x t × (x ∈ gone_columns ds t → ⊥)

  abbrev pub AllStay : List (Addition Field) → Type 0
  AllStay [] = Unit {0}
  AllStay (a ∷ rest) = Stays a.parent × AllStay rest

  placed_stays : (k : ℕ) (x : List ℕ) (path : Option (List ℕ)) (p : Option ℕ) → placed t ds k x path ≡ ok p → Stays p
  unfolding placed
  placed_stays k x none p e = unbind _ _ e λ _ _ e₁. subst Stays (ok_is e₁) tt
  placed_stays k x (some path) p e =
      unbind _ _ e λ r e₁ a₁. unbind _ _ a₁ λ v e₂ a₂. unbind _ _ a₂ λ _ e₃ a₃. unbind _ _ a₃ λ _ _ a₄.
      let there = (name_found t path r (demand_ok 15 3 k (look_name t path) e₁)).0 in
      let to = demand_ok 16 3 k (receiver r.field r.inside r.field.kind) e₂ in
      let out = fault_if_ok 22 3 k (among v.id (gone_columns ds t)) e₃ in
      subst Stays (ok_is a₄)
      (row_receives top t r there v to, any_false eqb eqb_self v.id (gone_columns ds t) out)

  all_placed_stay : (last k : ℕ) (ps : List (Option (List ℕ))) (a : Forest Field) (r : Placed)
      → placed_all t ds last k ps a ≡ ok r → AllStay (arrivals with_id last r.parents a)
  unfolding placed_all arrivals
  all_placed_stay last k [] a r e =
      subst (λ (r : Placed). AllStay (arrivals with_id last r.parents a)) (ok_is e) tt
  all_placed_stay last k (p ∷ ps) empty r e =
      subst (λ (r : Placed). AllStay (arrivals with_id last r.parents empty)) (ok_is e) tt
  all_placed_stay last k (p ∷ ps) (node f m n) r e =
      unbind _ _ e λ _ _ e₁. unbind _ _ e₁ λ _ _ e₂. unbind _ _ e₂ λ q e₃ a₃. unbind _ _ a₃ λ _ _ e₄.
      unbind _ _ e₄ λ r' e₅ e₆.
      subst (λ (r : Placed). AllStay (arrivals with_id last r.parents (node f m n))) (ok_is e₆)
      (placed_stays k f.name p q e₃, all_placed_stay (suc (last + size m)) (suc k) ps n r' e₅)

pub all_stay : (s : Schema) (q : Request) (p : Plan) → planned s q ≡ ok p
    → AllStay s.tree p.dropped (added s q p)
unfolding planned
all_stay s q p e =
    unbind _ _ e λ _ _ e₁. unbind _ _ e₁ λ _ _ e₂. unbind _ _ e₂ λ ds _ e₃. unbind _ _ e₃ λ a e₄ a₄.
    unbind _ _ a₄ λ _ _ e₅.
    subst (λ (p : Plan). AllStay s.tree p.dropped (added s q p)) (ok_is e₅)
    (all_placed_stay s.tree ds s.last 0 q.additions q.added a e₄)

-- ---- edits keep ids, structs and what goes

module _ (es : List Edited) where
  pub edited_ids : (t : Forest Field) → ids (edited_tree es t) ≡ ids t
  edited_ids = ids_mapped (edit_fields es) (edits_keep_id es)

  pub edited_struct : (x : ℕ) (t : Forest Field) → StructIn x t → StructIn x (edited_tree es t)
  unfolding mapped
  edited_struct x empty h = h
  edited_struct x (node f m n) (inl h) = inl (edits_keep_id es f ∙ h.0, ap is_struct (edits_keep_kind es f) ∙ h.1)
  edited_struct x (node f m n) (inr (inl h)) = inr (inl (edited_struct x m h))
  edited_struct x (node f m n) (inr (inr h)) = inr (inr (edited_struct x n h))

  edited_going : (ds : List ℕ) (b : Bool) (t : Forest Field)
      → map id_of (gone id_of kind_of ds b (edited_tree es t)) ≡ map id_of (gone id_of kind_of ds b t)
  unfolding mapped
  edited_going ds b empty = refl
  edited_going ds b (node f m n) =
      gone_node ds b (edit_fields es f) (edited_tree es m) (edited_tree es n)
      ∙ rw (
        edits_keep_id es f,
        edits_keep_kind es f,
        edited_ids m,
        edited_going ds (is_struct f.kind) m,
        edited_going ds b n,
      ) (sym (gone_node ds b f m n))

  pub edited_gone : (ds : List ℕ) (t : Forest Field) → gone_columns ds (edited_tree es t) ≡ gone_columns ds t
  edited_gone ds t = edited_going ds true t

-- What receives an addition stays in the edited base.
pub still_stay : (s : Schema) (q : Request) (p : Plan) → planned s q ≡ ok p
    → AllStay (edited_tree p.edits s.tree) p.dropped (added s q p)
still_stay s q p e = go (added s q p) (all_stay s q p e)
  where
    one : (x : Option ℕ) → Stays s.tree p.dropped x → Stays (edited_tree p.edits s.tree) p.dropped x
    one none h = tt
    one (some x) h =
        let same = edited_gone p.edits p.dropped s.tree in
        (edited_struct p.edits x s.tree h.0, λ k. h.1 (rw same at k))

    go : (adds : List (Addition Field)) → AllStay s.tree p.dropped adds
        → AllStay (edited_tree p.edits s.tree) p.dropped adds
    go [] h = tt
    go (a ∷ rest) h = (one a.parent h.0, go rest h.1)
