-- The rows of a planned tree have one slot after another, and the ids, full names and places above that the arrays tell: so what is
-- found among the rows is what is found among the slots.
use mathlib.Core.Path.{◌≡◌, refl, sym, ap, subst, ◌∙◌}
use mathlib.Core.Bool.{Bool, true, false, cond}
use mathlib.Core.List.{List, [], ◌∷◌, ◌++◌, map}
use mathlib.Core.Option.{Option, none, some}
use Prim.Native.Nat.{ℕ, zero, suc, ◌+◌}
use native.Mathlib.Nat.{add-zero}
use native.Mathlib.Omega.{arith}
use lib.Dec.{eqb}
use lib.ListN.{length, get_or, length-append}
use Rattle.paper.specs.Answer.{find, place_of}
use Rattle.paper.specs.Bytes.{from}
use Rattle.paper.specs.Forest.{Forest, empty, node, size, mapped}
use Rattle.paper.specs.Field.{Field}
use Rattle.paper.specs.Rows.{Row, Start, top, below, beside, row, rows, dotted, nearest, look_id}
use Rattle.paper.specs.Sound.{names, ids}
use Rattle.laws.proofs.Finding.{eqb_flip}
use Rattle.laws.proofs.Preorder.{size_mapped}
use Rattle.laws.proofs.Runs.{from_append}
use Rattle.laws.proofs.Ordered.{row_fulls, row_ids}
use Rattle.record.specs.Trees.{Trees}
use Rattle.plan.specs.Named.{name_in}
use Rattle.plan.specs.Plan.{kids_in, plan_fields, Plan}
use Rattle.plan.specs.Walk.{trees_of}
use Rattle.plan.proofs.Standing.{field_in, field_id, field_name, plan_is}
use Rattle.plan.proofs.Walks.{Numbered, all_there, all_numbered}
use Rattle.index_ids.specs.Chain.{lowest_below}
use Rattle.index_ids.specs.Ids.{id_in, is_id}
use Rattle.index_ids.proofs.Repeats.{slot_at, found_below}
use Rattle.index_names.specs.Full.{fulls}
use Rattle.index_names.proofs.Rising.{Climbs}

-- ---- ids and full names in slot order

module _ (fld : ℕ → Field) where
  ids_are : (g : ℕ → ℕ) (f : Forest ℕ) (k : ℕ) → ((j : ℕ) → (fld j).id ≡ g j) → Numbered k f → ids (mapped fld f) ≡ from g k (size f)
  unfolding ids mapped size from
  ids_are g empty k h nd = refl
  ids_are g (node j f t) k h nd =
      rw (h j, nd.0, ids_are g f (suc k) h nd.1.0, ids_are g t (suc k + size f) h nd.1.1)
      (ap (λ (z : List ℕ). g k ∷ z) (sym (from_append g (suc k) (size f) (size t))))

  names_are : (name : ℕ → List ℕ) (f : Forest ℕ) (pre : List ℕ) → ((j : ℕ) → (fld j).name ≡ name j) → names pre (mapped fld f) ≡ fulls name pre f
  unfolding names mapped fulls
  names_are name empty pre h = refl
  names_are name (node j f t) pre h = rw (h j, names_are name f (dotted pre (name j)) h, names_are name t pre h)

  length_rows : (f : Forest ℕ) (s : Start) → length (rows s (mapped fld f)) ≡ size f
  unfolding rows mapped size
  length_rows empty s = refl
  length_rows (node j f g) s = ap suc (length-append (rows (below s (fld j)) (mapped fld f)) (rows (beside s (mapped fld f)) (mapped fld g)) ∙ rw (length_rows f (below s (fld j)), length_rows g (beside s (mapped fld f))))

  -- The id of the record at a place.
  abbrev pub parent_at : ℕ → Option ℕ
  parent_at zero = none
  parent_at (suc p) = some (fld p).id

  -- ---- the rows run through the slots, with the records above them; `us` has the places above

  module _ (us : List ℕ) where
    -- The records from a place up.
    pub data Line : ℕ → List Field → Type 0 where
      at_top : Line 0 []
      under : {p : ℕ} {above : List Field} → Line (get_or us p 0) above → Line (suc p) (fld p ∷ above)

    pub line_nearest : {u : ℕ} {above : List Field} → Line u above → nearest above ≡ parent_at u
    line_nearest at_top = refl
    line_nearest (under h) = refl

    -- A row is the record at a slot, and has above it what the places above tell.
    pub record At (k : ℕ) (r : Row) : Type 0 where
      pub slot : r.slot ≡ k
      pub field : r.field ≡ fld k
      pub above : Line (get_or us k 0) r.above

    data Runs : ℕ → List Row → Type 0 where
      done : {k : ℕ} → Runs k []
      more : {k : ℕ} {r : Row} {rs : List Row} → At k r → Runs (suc k) rs → Runs k (r ∷ rs)

    runs_append : {k : ℕ} {rs qs : List Row} → Runs k rs → Runs (k + length rs) qs → Runs k (rs ++ qs)
    runs_append {k} {rs} {qs} done h = subst (λ z. Runs z qs) (add-zero k) h
    runs_append {k} {rs} {qs} (more {rs = ts} a g) h = more a (runs_append g (subst (λ z. Runs z qs) (let q : k + suc (length ts) ≡ suc k + length ts = omega arith in q) h))

    runs : (f : Forest ℕ) (s : Start) (u : ℕ) → Numbered s.slot f → Climbs us u f → Line u s.above → Runs s.slot (rows s (mapped fld f))
    unfolding rows mapped size
    runs empty s u nd c h = done
    runs (node j f g) s u nd c h =
        let z = size_mapped fld f in
        let ng : Numbered (suc (s.slot + size (mapped fld f))) g = subst (λ y. Numbered y g) (let q : suc s.slot + size f ≡ suc (s.slot + size (mapped fld f)) = omega arith in q) nd.1.1 in
        let up : Line (get_or us j 0) s.above = rw c.0 h in
        let here : At s.slot (row s (fld j) (mapped fld f)) = record { slot = refl; field = ap fld nd.0; above = subst (λ k. Line (get_or us k 0) s.above) nd.0 up } in
        more here
        (runs_append (runs f (below s (fld j)) (suc j) nd.1.0 c.1.0 (under up))
        (subst (λ y. Runs y (rows (beside s (mapped fld f)) (mapped fld g))) (let q = length_rows f (below s (fld j)) in omega arith) (runs g (beside s (mapped fld f)) u ng c.1.1 h)))

    -- A row that is found, and its slot.
    pub data Rel : Option Row → Option ℕ → Type 0 where
      none_found : Rel none none
      found_at : {r : Row} {k : ℕ} → At k r → Rel (some r) (some k)

    find_runs : {A : Type 0} (t : A → Bool) (g : Row → A) {k : ℕ} {rs : List Row} → Runs k rs → Rel (find (λ r. t (g r)) rs) (place_of t k (map g rs))
    find_runs t g done = none_found
    find_runs t g {k} (more {r = r} {rs = rs} a h) = go (t (g r)) (find_runs t g h)
      where
        go : (b : Bool) → Rel (find (λ r. t (g r)) rs) (place_of t (suc k) (map g rs)) → Rel (cond b (some r) (find (λ r. t (g r)) rs)) (cond b (some k) (place_of t (suc k) (map g rs)))
        go true w = found_at a
        go false w = w

    module _ (f : Forest ℕ) (nd : Numbered 0 f) (c : Climbs us 0 f) where
      id_rel : (t : ℕ → Bool) → Rel (find (λ r. t r.field.id) (rows top (mapped fld f))) (place_of t 0 (ids (mapped fld f)))
      id_rel t = rw (← (row_ids top (mapped fld f))) (find_runs t (λ r. r.field.id) (runs f top 0 nd c at_top))

      full_rel : (t : List ℕ → Bool) → Rel (find (λ r. t r.full) (rows top (mapped fld f))) (place_of t 0 (names [] (mapped fld f)))
      full_rel t = rw (← (row_fulls top (mapped fld f))) (find_runs t (λ r. r.full) (runs f top 0 nd c at_top))

-- ---- the rows of a plan

place_ext : {A : Type 0} (t u : A → Bool) (k : ℕ) (xs : List A) → ((a : A) → t a ≡ u a) → place_of t k xs ≡ place_of u k xs
place_ext t u k [] h = refl
place_ext t u k (x ∷ xs) h = rw (h x, place_ext t u (suc k) xs h)

module _ (l : Trees) (xs is ks : List ℕ) (m : ℕ) where
  abbrev fld : ℕ → Field
  fld k = field_in l xs is k

  abbrev places : Forest ℕ
  places = trees_of (kids_in ks) m

  ids_in_order : ids (mapped fld places) ≡ from (id_in is) 0 m
  ids_in_order = ids_are fld (id_in is) places 0 (field_id l xs is) (all_numbered (kids_in ks) m) ∙ ap (from (id_in is) 0) (all_there (kids_in ks) m)

  names_in_order : names [] (mapped fld places) ≡ fulls (name_in l xs) [] places
  names_in_order = names_are fld (name_in l xs) places [] (field_name l xs is)

  module _ (p : Plan l xs is ks m) where
    pub plan_ids : ids (plan_fields l xs is ks m) ≡ from (id_in is) 0 m
    plan_ids = ap ids (plan_is l xs is ks m p) ∙ ids_in_order

    pub plan_names : names [] (plan_fields l xs is ks m) ≡ fulls (name_in l xs) [] (trees_of (kids_in ks) m)
    plan_names = ap (names []) (plan_is l xs is ks m p) ∙ names_in_order

  module _ (p : Plan l xs is ks m) (us : List ℕ) (c : Climbs us 0 (trees_of (kids_in ks) m)) where
    -- What an id finds is at the lowest slot that has it.
    pub id_row : (i : ℕ) → Rel (field_in l xs is) us (look_id (plan_fields l xs is ks m) i) (slot_at (lowest_below (is_id is i) 0 m))
    unfolding look_id
    id_row i =
        let q : place_of (λ a. eqb a i) 0 (ids (mapped fld places)) ≡ slot_at (lowest_below (is_id is i) 0 m) =
        ap (place_of (λ a. eqb a i) 0) ids_in_order ∙ place_ext (λ a. eqb a i) (eqb i) 0 (from (id_in is) 0 m) (λ a. eqb_flip a i) ∙ sym (found_below (eqb i) (id_in is) m) in
        rw (plan_is l xs is ks m p, ← q) (id_rel fld us places (all_numbered (kids_in ks) m) c (λ a. eqb a i))

    pub full_row : (t : List ℕ → Bool) → Rel (field_in l xs is) us (find (λ r. t r.full) (rows top (plan_fields l xs is ks m))) (place_of t 0 (fulls (name_in l xs) [] (trees_of (kids_in ks) m)))
    full_row t = rw (plan_is l xs is ks m p, ← names_in_order) (full_rel fld us places (all_numbered (kids_in ks) m) c t)
