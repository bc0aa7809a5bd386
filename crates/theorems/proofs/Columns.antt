-- Columns of forests, their ids and their rows. All by induction on the forest.
use Prim.Native.Nat.{ℕ}
use mathlib.Core.Path.{◌≡◌, refl, sym, subst, ap}
use mathlib.Core.Logic.{◌⊎◌, inl, inr, ⊎_elim}
use mathlib.Core.Bool.{Bool, true, false, cond}
use mathlib.Core.List.{◌∷◌, ◌++◌}
use mathlib.Core.Option.{Option, some}
use Rattle.paper.specs.Forest.{Forest, empty, node, ◌then◌}
use Rattle.paper.specs.Field.{Field}
use Rattle.paper.specs.Rows.{Row, Start, top, row, below, beside, rows}
use Rattle.paper.specs.Sound.{ids}
use Rattle.laws.specs.Members.{◌∈◌}
use Rattle.laws.proofs.Basics.{in_left, in_right, in_append, Distinct, distinct_append, distinct_one}
use Rattle.laws.proofs.Ordered.{row_ids}
use Rattle.theorems.specs.Columns.{Column, Stands}

pub stands_id : (t : Forest Field) (q : Option ℕ) (c : Column) → Stands q t c → c.field.id ∈ ids t
unfolding ids
stands_id empty q c h = h
stands_id (node f m n) q c (inl e) = inl (ap (λ (d : Column). d.field.id) e)
stands_id (node f m n) q c (inr (inl h)) = inr (in_left _ (ids m) (ids n) (stands_id m (some f.id) c h))
stands_id (node f m n) q c (inr (inr h)) = inr (in_right _ (ids m) (ids n) (stands_id n q c h))

-- The row of a column.
pub stands_row : (s : Start) (q : Option ℕ) (t : Forest Field) (c : Column) → Stands q t c
    → (r : Row) × (r ∈ rows s t) × (r.field ≡ c.field)
unfolding rows
stands_row s q empty c h = absurd h
stands_row s q (node f m n) c (inl e) = (row s f m, inl refl, ap (λ (d : Column). d.field) (sym e))
stands_row s q (node f m n) c (inr (inl h)) =
    let o = stands_row (below s f) (some f.id) m c h in
    (o.0, inr (in_left o.0 (rows (below s f) m) (rows (beside s m) n) o.1), o.2)
stands_row s q (node f m n) c (inr (inr h)) =
    let o = stands_row (beside s m) q n c h in
    (o.0, inr (in_right o.0 (rows (below s f) m) (rows (beside s m) n) o.1), o.2)

-- Rows of one id are one row.
pub one_row : (t : Forest Field) → Distinct (ids t) → (r q : Row) → r ∈ rows top t → q ∈ rows top t
    → r.field.id ≡ q.field.id → r ≡ q
one_row t d r q = distinct_one (λ (x : Row). x.field.id) (rows top t) (rw (row_ids top t) d) r q

-- The column of an id.
pub record Of (q : Option ℕ) (t : Forest Field) (x : ℕ) : Type 0 where
  pub column : Column
  pub stands : Stands q t column
  pub its_id : column.field.id ≡ x

pub column_of : (q : Option ℕ) (t : Forest Field) (x : ℕ) → x ∈ ids t → Of q t x
unfolding ids
column_of q empty x h = absurd h
column_of q (node f m n) x (inl e) =
    record { column = record { parent = q; field = f }; stands = inl refl; its_id = sym e }
column_of q (node f m n) x (inr h) =
    ⊎_elim
    (λ k.
    let o = column_of (some f.id) m x k in
    record { column = o.column; stands = inr (inl o.stands); its_id = o.its_id })
    (λ k.
    let o = column_of q n x k in
    record { column = o.column; stands = inr (inr o.stands); its_id = o.its_id })
    (in_append x (ids m) (ids n) h)

twice : (q : Option ℕ) (f : Field) (m n : Forest Field) → Distinct (f.id ∷ (ids m ++ ids n)) → (c d : Column)
    → c ≡ record { parent = q; field = f } → Stands (some f.id) m d ⊎ Stands q n d
    → c.field.id ≡ d.field.id → ⊥
unfolding ids
twice q f m n u c d h k e =
    let i : d.field.id ≡ f.id = cc in
    let there =
    ⊎_elim
    (λ g. in_left _ (ids m) (ids n) (stands_id m (some f.id) d g))
    (λ g. in_right _ (ids m) (ids n) (stands_id n q d g))
    k in
    u.0 (subst (λ x. x ∈ (ids m ++ ids n)) i there)

-- In a forest of distinct ids an id stands once.
pub stands_once : (q : Option ℕ) (t : Forest Field) → Distinct (ids t) → (c d : Column) → Stands q t c
    → Stands q t d
    → c.field.id ≡ d.field.id → c ≡ d
unfolding ids
stands_once q empty u c d h k e = absurd h
stands_once q (node f m n) u c d (inl h) (inl k) e = cc
stands_once q (node f m n) u c d (inl h) (inr k) e = absurd (twice q f m n u c d h k e)
stands_once q (node f m n) u c d (inr h) (inl k) e = absurd (twice q f m n u d c k h (sym e))
stands_once q (node f m n) u c d (inr (inl h)) (inr (inl k)) e =
    stands_once (some f.id) m (distinct_append (ids m) (ids n) u.1).0 c d h k e
stands_once q (node f m n) u c d (inr (inl h)) (inr (inr k)) e =
    let apart = (distinct_append (ids m) (ids n) u.1).2 in
    absurd (apart _ (stands_id m (some f.id) c h) (rw e (stands_id n q d k)))
stands_once q (node f m n) u c d (inr (inr h)) (inr (inl k)) e =
    let apart = (distinct_append (ids m) (ids n) u.1).2 in
    absurd (apart _ (stands_id m (some f.id) d k) (rw (← e) (stands_id n q c h)))
stands_once q (node f m n) u c d (inr (inr h)) (inr (inr k)) e =
    stands_once q n (distinct_append (ids m) (ids n) u.1).1 c d h k e

pub stands_then : (q : Option ℕ) (t u : Forest Field) (c : Column) → Stands q (t then u) c
    → Stands q t c ⊎ Stands q u c
unfolding ◌then◌
stands_then q empty u c h = inr h
stands_then q (node f m n) u c (inl e) = inl (inl e)
stands_then q (node f m n) u c (inr (inl h)) = inl (inr (inl h))
stands_then q (node f m n) u c (inr (inr h)) =
    ⊎_elim (λ k. inl (inr (inr k))) (λ k. inr k) (stands_then q n u c h)

module _ (q : Option ℕ) where
  pub then_left : (t u : Forest Field) (c : Column) → Stands q t c → Stands q (t then u) c
  unfolding ◌then◌
  then_left empty u c h = absurd h
  then_left (node f m n) u c (inl e) = inl e
  then_left (node f m n) u c (inr (inl h)) = inr (inl h)
  then_left (node f m n) u c (inr (inr h)) = inr (inr (then_left n u c h))

  pub then_right : (t u : Forest Field) (c : Column) → Stands q u c → Stands q (t then u) c
  unfolding ◌then◌
  then_right empty u c h = h
  then_right (node f m n) u c h = inr (inr (then_right n u c h))

pub stands_cond : (q : Option ℕ) (b : Bool) (t u : Forest Field) (c : Column) → Stands q (cond b t u) c
    → Stands q t c ⊎ Stands q u c
stands_cond q true t u c h = inl h
stands_cond q false t u c h = inr h
