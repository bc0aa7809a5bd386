-- A look-up finds a row of the tree, so what holds of every row holds of a row that is found.
use Prim.Native.Nat.{ℕ}
use mathlib.Core.Path.{◌≡◌, refl, sym, ◌∙◌}
use mathlib.Core.Logic.{◌⊎◌, inl, inr, ⊎_elim}
use mathlib.Core.List.{List, [], ◌∷◌}
use mathlib.Core.Option.{Option, none, some}
use lib.Dec.{eqb}
use borrow.Author.Tests.{eqb-true}
use Rattle.paper.specs.Answer.{ok, find, or_else, same}
use Rattle.paper.specs.Forest.{Forest, empty, node, mapped}
use Rattle.paper.specs.Field.{Field}
use Rattle.paper.specs.Rows.{Row, Start, top, row, below, beside, rows, entered}
use Rattle.paper.specs.Rows.{look_name, look_id, parent_of, look_some, look_parent}
use Rattle.paper.specs.Folded.{folded, matching, or_short, only, look_folded}
use Rattle.laws.specs.Members.{◌∈◌}
use Rattle.laws.proofs.Basics.{refused≢ok, ok_is, none≢some, some_is, or_none, in_append}
use Rattle.laws.proofs.Same.{same_true, same_is}
use Rattle.laws.proofs.Kept.{found_in, none_found, kept_in, in_kept}
use Rattle.laws.proofs.Ordered.{entered_in, in_entered}

-- ---- a row that a look-up finds is a row of the tree

pub or_short_in : (full short : List Row) (r : Row) → r ∈ or_short full short → (r ∈ full) ⊎ (((q : Row) → q ∈ full → ⊥) × (r ∈ short))
or_short_in [] short r h = inr (λ q k. k, h)
or_short_in (q ∷ full) short r h = inl h

pub in_or_short : (full short : List Row) (r : Row) → (r ∈ full) ⊎ (((q : Row) → q ∈ full → ⊥) × (r ∈ short)) → r ∈ or_short full short
in_or_short [] short r h = ⊎_elim (λ k. absurd k) (λ k. k.1) h
in_or_short (q ∷ full) short r h = ⊎_elim (λ k. k) (λ k. absurd (k.0 q (inl refl))) h

pub only_in : (s : List Row) (r : Row) → only s ≡ ok (some r) → r ∈ s
only_in [] r e = absurd (none≢some (ok_is e))
only_in (q ∷ []) r e = inl (sym (some_is (ok_is e)))
only_in (q ∷ p ∷ s) r e = absurd (refused≢ok e)

-- By its full name; or by its short name, where no full name is the asked one.
abbrev pub Called : Forest Field → (x : List ℕ) → Row → Type 0
Called t x r = (r.full ≡ x) ⊎ (((q : Row) → q ∈ rows top t → q.full ≡ x → ⊥) × (r.short ≡ x))

module _ (t : Forest Field) where
  entered_row : (r : Row) → r ∈ entered [] top t → r ∈ rows top t
  entered_row r h = ⊎_elim (λ k. absurd k) (λ k. k) (entered_in [] top t r h)

  pub name_found : (x : List ℕ) (r : Row) → look_name t x ≡ some r → (r ∈ rows top t) × Called t x r
  unfolding look_name
  name_found x r e = go (find (λ q. same q.full x) (rows top t)) refl e
    where
      go : (o : Option Row) → find (λ q. same q.full x) (rows top t) ≡ o
          → or_else o (find (λ q. same q.short x) (entered [] top t)) ≡ some r → (r ∈ rows top t) × Called t x r
      go (some y) h k =
          let f = found_in (λ q. same q.full x) (rows top t) r (h ∙ k) in
          (f.0, inl (same_true r.full x f.1))
      go none h k =
          let f = found_in (λ q. same q.short x) (entered [] top t) r k in
          let no_full = none_found (λ q. same q.full x) (rows top t) h in
          (entered_row r f.0, inr (λ q i w. no_full q i (same_is q.full x w), same_true r.short x f.1))

  pub name_not_found : (x : List ℕ) → look_name t x ≡ none → (q : Row) → q ∈ rows top t → ((q.full ≡ x) → ⊥) × ((q.short ≡ x) → ⊥)
  unfolding look_name
  name_not_found x e q h =
      let o = or_none _ _ e in (
        λ w. none_found (λ q. same q.full x) (rows top t) o.0 q h (same_is q.full x w),
        λ w. none_found (λ q. same q.short x) (entered [] top t) o.1 q (in_entered [] top t q (inr h)) (same_is q.short x w),
      )

  pub id_found : (i : ℕ) (r : Row) → look_id t i ≡ some r → (r ∈ rows top t) × (r.field.id ≡ i)
  unfolding look_id
  id_found i r e = let f = found_in (λ q. eqb q.field.id i) (rows top t) r e in (f.0, eqb-true r.field.id i f.1)

  parent_found : (i : ℕ) (r : Row) → look_parent t i ≡ some r → r ∈ rows top t
  unfolding look_parent
  parent_found i r = go (parent_of (look_id t i))
    where
      go : (o : Option ℕ) → look_some t o ≡ some r → r ∈ rows top t
      go none e = absurd (none≢some e)
      go (some j) e = (id_found j r e).0

  -- Those that match by one of their names, where case is forgotten.
  pub matching_in : (called : Row → List ℕ) (x : List ℕ) (r : Row) → r ∈ matching called x (rows top t)
      → (r ∈ rows top t) × (folded (called r) ≡ folded x)
  unfolding matching
  matching_in called x r h =
      let k = kept_in (λ q. same (folded (called q)) (folded x)) (rows top t) r h in
      (k.0, same_true (folded (called r)) (folded x) k.1)

  pub in_matching : (called : Row → List ℕ) (x : List ℕ) (r : Row) → (r ∈ rows top t) × (folded (called r) ≡ folded x)
      → r ∈ matching called x (rows top t)
  unfolding matching
  in_matching called x r h =
      in_kept (λ q. same (folded (called q)) (folded x)) (rows top t) r h.0 (same_is (folded (called r)) (folded x) h.1)

  abbrev pub by_full : (x : List ℕ) → List Row
  by_full x = matching (λ r. r.full) x (rows top t)

  abbrev pub by_short : (x : List ℕ) → List Row
  by_short x = matching (λ r. r.short) x (rows top t)

  -- Those among which `look_folded` takes the only one.
  abbrev pub matched : (x : List ℕ) → List Row
  matched x = or_short (by_full x) (by_short x)

  folded_found : (x : List ℕ) (r : Row) → look_folded t x ≡ ok (some r) → r ∈ rows top t
  unfolding look_folded
  folded_found x r e =
      ⊎_elim (λ h. (matching_in (λ q. q.full) x r h).0) (λ h. (matching_in (λ q. q.short) x r h.1).0)
      (or_short_in (by_full x) (by_short x) r (only_in (matched x) r e))

-- ---- what holds of every row holds of a row that is found

-- The tree is a forest of labels with a field for each, as a tree that was read is one of slots. `Inv` is what is
-- known where a list of siblings begins: it gives P of the first one's row, and itself inside and beside.
module _ {A : Type 0} (fld : A → Field) (P : Row → Type 0) (Inv : Start → Forest A → Type 0)
    (step : (s : Start) (a : A) (m u : Forest A) → Inv s (node a m u)
    → P (row s (fld a) (mapped fld m)) × Inv (below s (fld a)) m × Inv (beside s (mapped fld m)) u) where
  pub rows_have : (s : Start) (t : Forest A) → Inv s t → (r : Row) → r ∈ rows s (mapped fld t) → P r
  unfolding rows mapped
  rows_have s empty h r i = absurd i
  rows_have s (node a m u) h r (inl e) = rw e (step s a m u h).0
  rows_have s (node a m u) h r (inr i) =
      let g = step s a m u h in
      ⊎_elim (rows_have (below s (fld a)) m g.1 r) (rows_have (beside s (mapped fld m)) u g.2 r)
      (in_append r (rows (below s (fld a)) (mapped fld m)) (rows (beside s (mapped fld m)) (mapped fld u)) i)

  module _ (t : Forest A) (h : Inv top t) (r : Row) where
    pub name_has : (x : List ℕ) → look_name (mapped fld t) x ≡ some r → P r
    name_has x e = rows_have top t h r (name_found (mapped fld t) x r e).0

    pub id_has : (i : ℕ) → look_id (mapped fld t) i ≡ some r → P r
    id_has i e = rows_have top t h r (id_found (mapped fld t) i r e).0

    pub parent_has : (i : ℕ) → look_parent (mapped fld t) i ≡ some r → P r
    parent_has i e = rows_have top t h r (parent_found (mapped fld t) i r e)

    pub folded_has : (x : List ℕ) → look_folded (mapped fld t) x ≡ ok (some r) → P r
    folded_has x e = rows_have top t h r (folded_found (mapped fld t) x r e)
