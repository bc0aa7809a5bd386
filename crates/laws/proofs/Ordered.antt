-- The rows of a tree rise in their slots, and the order of entry has the same ones. All by induction on the tree.
use Prim.Native.Nat.{ℕ, ◌+◌, ◌<◌, ◌≤◌}
use mathlib.Core.Path.{◌≡◌, refl, sym, ap, ◌∙◌}
use mathlib.Core.Logic.{◌⊎◌, inl, inr, ⊎_elim}
use mathlib.Core.Bool.{Bool, true, false, cond}
use mathlib.Core.List.{List, [], ◌∷◌, ◌++◌, map}
use native.Mathlib.Omega.{arith}
use Rattle.paper.specs.Answer.{keep}
use Rattle.paper.specs.Forest.{Forest, empty, node, size}
use Rattle.paper.specs.Field.{Field}
use Rattle.paper.specs.Rows.{Row, Start, row, below, beside, rows, late, entered}
use Rattle.paper.specs.Sound.{names, ids}
use Rattle.laws.specs.Members.{◌∈◌}
use Rattle.laws.proofs.Basics.{in_left, in_right, in_append}
use Rattle.laws.proofs.Runs.{map_append}
use Rattle.laws.proofs.Kept.{kept_in}

-- ---- slot order

pub row_fulls : (s : Start) (t : Forest Field) → map (λ (r : Row). r.full) (rows s t) ≡ names s.full t
unfolding rows names
row_fulls s empty = refl
row_fulls s (node f m u) =
    ap (λ (z : List (List ℕ)). (s.full ++ f.name) ∷ z)
    (map_append (λ (r : Row). r.full) (rows (below s f) m) (rows (beside s m) u)
    ∙ rw (row_fulls (below s f) m, row_fulls (beside s m) u))

pub row_ids : (s : Start) (t : Forest Field) → map (λ (r : Row). r.field.id) (rows s t) ≡ ids t
unfolding rows ids
row_ids s empty = refl
row_ids s (node f m u) =
    ap (λ (z : List ℕ). f.id ∷ z)
    (map_append (λ (r : Row). r.field.id) (rows (below s f) m) (rows (beside s m) u)
    ∙ rw (row_ids (below s f) m, row_ids (beside s m) u))

row_slots : (s : Start) (t : Forest Field) (r : Row) → r ∈ rows s t → (s.slot ≤ r.slot) × (r.slot < s.slot + size t)
unfolding rows size
row_slots s empty r h = absurd h
row_slots s (node f m u) r (inl e) = let z = ap (λ (q : Row). q.slot) e in (omega arith, omega arith)
row_slots s (node f m u) r (inr h) =
    ⊎_elim
    (λ k. let b = row_slots (below s f) m r k in (let l = b.0 in omega arith, let l = b.1 in omega arith))
    (λ k. let b = row_slots (beside s m) u r k in (let l = b.0 in omega arith, let l = b.1 in omega arith))
    (in_append r (rows (below s f) m) (rows (beside s m) u) h)

-- Each row's slot is below those of the rows behind it.
abbrev pub Rising : List Row → Type 0
Rising [] = Unit {0}
Rising (r ∷ s) = ((q : Row) → q ∈ s → r.slot < q.slot) × Rising s

rising_append : (a b : List Row) → Rising a → Rising b → ((r q : Row) → r ∈ a → q ∈ b → r.slot < q.slot) → Rising (a ++ b)
rising_append [] b h g l = g
rising_append (r ∷ a) b h g l =
    (λ q k. ⊎_elim (h.0 q) (l r q (inl refl)) (in_append q a b k), rising_append a b h.1 g (λ x y i. l x y (inr i)))

pub rows_rise : (s : Start) (t : Forest Field) → Rising (rows s t)
unfolding rows
rows_rise s empty = tt
rows_rise s (node f m u) =
    let inside = row_slots (below s f) m in
    let after = row_slots (beside s m) u in (
      λ q k. ⊎_elim (λ h. let l = (inside q h).0 in omega arith) (λ h. let l = (after q h).0 in omega arith) (in_append q (rows (below s f) m) (rows (beside s m) u) k),
      rising_append (rows (below s f) m) (rows (beside s m) u) (rows_rise (below s f) m) (rows_rise (beside s m) u)
          (λ r q h k. let l = (inside r h).1 in let g = (after q k).0 in omega arith),
    )

pub rising_kept : (t : Row → Bool) (s : List Row) → Rising s → Rising (keep t s)
rising_kept t [] h = tt
rising_kept t (r ∷ s) h = go (t r) (rising_kept t s h.1)
  where
    go : (b : Bool) → Rising (keep t s) → Rising (cond b (r ∷ keep t s) (keep t s))
    go true k = (λ q i. h.0 q (kept_in t s q i).0, k)
    go false k = k

-- Rows of one slot are one.
pub rising_one : (s : List Row) → Rising s → (r q : Row) → r ∈ s → q ∈ s → r.slot ≡ q.slot → r ≡ q
rising_one [] h r q i j e = absurd i
rising_one (x ∷ s) h r q (inl i) (inl j) e = i ∙ sym j
rising_one (x ∷ s) h r q (inl i) (inr j) e = let z = ap (λ (y : Row). y.slot) i in let l = h.0 q j in absurd (omega arith)
rising_one (x ∷ s) h r q (inr i) (inl j) e = let z = ap (λ (y : Row). y.slot) j in let l = h.0 r i in absurd (omega arith)
rising_one (x ∷ s) h r q (inr i) (inr j) e = rising_one s h.1 r q i j e

-- ---- the order of entry

-- A row x, what waits w, the rows behind it c; e and d are those entered behind it, where it waits and where it does not.
module _ (r x : Row) (w c e d : List Row) where
  step_in : (b : Bool) → (r ∈ e → (r ∈ (w ++ (x ∷ []))) ⊎ (r ∈ c)) → (r ∈ d → (r ∈ w) ⊎ (r ∈ c)) → r ∈ cond b e (x ∷ d) → (r ∈ w) ⊎ ((r ≡ x) ⊎ (r ∈ c))
  step_in true f g h =
      ⊎_elim (λ k. ⊎_elim (λ i. inl i) (⊎_elim (λ i. inr (inl i)) (λ i. absurd i)) (in_append r w (x ∷ []) k)) (λ k. inr (inr k)) (f h)
  step_in false f g (inl i) = inr (inl i)
  step_in false f g (inr h) = ⊎_elim (λ k. inl k) (λ k. inr (inr k)) (g h)

  in_step : (b : Bool) → ((r ∈ (w ++ (x ∷ []))) ⊎ (r ∈ c) → r ∈ e) → ((r ∈ w) ⊎ (r ∈ c) → r ∈ d) → (r ∈ w) ⊎ ((r ≡ x) ⊎ (r ∈ c)) → r ∈ cond b e (x ∷ d)
  in_step true f g (inl h) = f (inl (in_left r w (x ∷ []) h))
  in_step true f g (inr (inl h)) = f (inl (in_right r w (x ∷ []) (inl h)))
  in_step true f g (inr (inr h)) = f (inr h)
  in_step false f g (inl h) = inr (g (inl h))
  in_step false f g (inr (inl h)) = inl h
  in_step false f g (inr (inr h)) = inr (g (inr h))

pub entered_in : (w : List Row) (s : Start) (t : Forest Field) (r : Row) → r ∈ entered w s t → (r ∈ w) ⊎ (r ∈ rows s t)
unfolding entered rows
entered_in w s empty r h = inl h
entered_in w s (node f m u) r h =
    let x = row s f m in
    let a = rows (below s f) m in
    let c = rows (beside s m) u in
    let behind = step_in r x w c (entered (w ++ (x ∷ [])) (beside s m) u) (entered w (beside s m) u) (late s.role)
    (entered_in (w ++ (x ∷ [])) (beside s m) u r) (entered_in w (beside s m) u r) in
    ⊎_elim
    (λ k. ⊎_elim (λ i. absurd i) (λ i. inr (inr (in_left r a c i))) (entered_in [] (below s f) m r k))
    (λ k. ⊎_elim (λ i. inl i) (⊎_elim (λ i. inr (inl i)) (λ i. inr (inr (in_right r a c i)))) (behind k))
    (in_append r (entered [] (below s f) m) _ h)

pub in_entered : (w : List Row) (s : Start) (t : Forest Field) (r : Row) → (r ∈ w) ⊎ (r ∈ rows s t) → r ∈ entered w s t
unfolding entered rows
in_entered w s empty r h = ⊎_elim (λ k. k) (λ k. absurd k) h
in_entered w s (node f m u) r h =
    let x = row s f m in
    let inside = entered [] (below s f) m in
    let outside = cond (late s.role) (entered (w ++ (x ∷ [])) (beside s m) u) (x ∷ entered w (beside s m) u) in
    let behind = in_step r x w (rows (beside s m) u) (entered (w ++ (x ∷ [])) (beside s m) u) (entered w (beside s m) u) (late s.role)
    (in_entered (w ++ (x ∷ [])) (beside s m) u r) (in_entered w (beside s m) u r) in
    ⊎_elim
    (λ k. in_right r inside outside (behind (inl k)))
    (⊎_elim
    (λ k. in_right r inside outside (behind (inr (inl k))))
    (λ k. ⊎_elim (λ i. in_left r inside outside (in_entered [] (below s f) m r (inr i))) (λ i. in_right r inside outside (behind (inr (inr i)))) (in_append r (rows (below s f) m) (rows (beside s m) u) k)))
    h
