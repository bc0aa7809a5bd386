-- A renamed column is found by its new full name and no more by its old one. Its row is carried over with the records
-- above it, edited (Carried.antt); and no new name has a dot, so an old full name that came back would have to be cut at
-- the same dots, and its last part be the old name.
use Prim.Native.Nat.{ℕ, ◌+◌, ◌≤◌, ◌<◌}
use mathlib.Core.Path.{◌≡◌, refl, sym, ap, subst, ◌∙◌}
use mathlib.Core.Logic.{◌⊎◌, inl, inr, ⊎_elim}
use mathlib.Core.Bool.{Bool, true, false, ◌&&◌, ◌||◌, cond, or-true, true≢false}
use mathlib.Core.List.{List, [], ◌∷◌, ◌++◌, map, append_assoc}
use mathlib.Core.Option.{Option, none, some}
use native.Mathlib.Omega.{arith}
use lib.Dec.{eqb}
use borrow.Author.Tests.{eqb-true}
use Rattle.paper.specs.Answer.{ok, or_else, among, find, same, repeated}
use Rattle.paper.specs.Forest.{Forest, empty, node}
use Rattle.paper.specs.Field.{Field}
use Rattle.paper.specs.Rows.{Row, Start, skipped, dotted, top, below, beside, rows, entered, look_name, look_id}
use Rattle.paper.specs.Sound.{names, sound}
use Rattle.paper.specs.Edits.{Change, rename, relax, widen, Edited, is_rename, renamed, again, has_dot, with_change}
use Rattle.paper.specs.Edits.{edit_field, edit_fields}
use Rattle.paper.specs.Update.{Request, Schema, Plan, planned}
use Rattle.paper.specs.Rebuild.{added, update}
use Rattle.laws.specs.Members.{◌∈◌}
use Rattle.laws.proofs.Basics.{unbind, fault_ok, in_append, Distinct, distinct_one}
use Rattle.laws.proofs.Basics.{none_twice, any_append, any_false, eqb_self}
use Rattle.laws.proofs.Same.{same_self, same_true}
use Rattle.laws.proofs.Own.{sound_distinct}
use Rattle.laws.proofs.Ordered.{row_fulls}
use Rattle.laws.proofs.Rows.{name_found}
use Rattle.laws.proofs.Identified.{sound_without}
use Rattle.laws.proofs.Edited.{edits_keep_id}
use Rattle.theorems.specs.Numbers.{tally}
use Rattle.theorems.specs.Columns.{settings, named_by, new_names, last_of}
use Rattle.theorems.specs.Edited.{names_above, RenamesFound}
use Rattle.theorems.proofs.Counting.{tally_append, tally_out}
use Rattle.theorems.proofs.Columns.{one_row}
use Rattle.theorems.proofs.Setting.{name_last, Decided, AllDecided, decided_edits}
use Rattle.theorems.proofs.Identified.{update_identified}
use Rattle.theorems.proofs.Carried.{row_at, at_row, carried, answered}

-- ---- what is found

-- The one element that passes a test.
find_one : {A : Type 0} (t : A → Bool) (s : List A) (x : A) → x ∈ s → t x ≡ true → ((y : A) → y ∈ s → t y ≡ true → y ≡ x)
    → find t s ≡ some x
find_one t [] x h p one = absurd h
find_one t (y ∷ s) x h p one = go (t y) refl h (λ k. find_one t s x k p (λ z i. one z (inr i)))
  where
    go : (b : Bool) → t y ≡ b → (x ≡ y) ⊎ (x ∈ s) → (x ∈ s → find t s ≡ some x) → cond b (some y) (find t s) ≡ some x
    go true q k f = ap some (one y (inl refl) q)
    go false q (inl e) f = absurd (true≢false (sym p ∙ ap t e ∙ q))
    go false q (inr k) f = f k

module _ (t : Forest Field) (e : sound 0 t [] ≡ ok tt) where
  id_finds : (r : Row) → r ∈ rows top t → look_id t r.field.id ≡ some r
  unfolding look_id
  id_finds r h =
      find_one (λ q. eqb q.field.id r.field.id) (rows top t) r h (eqb_self r.field.id)
      (λ q i w. one_row t (sound_distinct 0 t [] e) q r i h (eqb-true q.field.id r.field.id w))

  fulls_once : Distinct (map (λ (r : Row). r.full) (rows top t))
  unfolding sound
  fulls_once =
      unbind _ _ e λ _ _ a₁. unbind _ _ a₁ λ _ e₂ _.
      rw (row_fulls top t) (none_twice same same_self 0 (names [] t) (fault_ok 8 0 (repeated same [] 0 (names [] t)) e₂))

  full_finds : (r : Row) → r ∈ rows top t → look_name t r.full ≡ some r
  unfolding look_name
  full_finds r h =
      ap (λ (o : Option Row). or_else o (find (λ q. same q.short r.full) (entered [] top t)))
      (find_one (λ q. same q.full r.full) (rows top t) r h (same_self r.full)
      (λ q i w. distinct_one (λ (x : Row). x.full) (rows top t) fulls_once q r i h (same_true q.full r.full w)))

-- ---- dots

abbrev dots : List ℕ → ℕ
dots = tally 46

dotless : (x : List ℕ) → among 46 x ≡ false → dots x ≡ 0
dotless x e = tally_out 46 x (any_false eqb eqb_self 46 x e)

dots_dotted : (before name : List ℕ) → dots (dotted before name) ≡ dots before + dots name + 1
dots_dotted before name =
    let a = tally_append 46 before (name ++ (46 ∷ [])) in
    let b = tally_append 46 name (46 ∷ []) in
    omega arith

-- Nothing, or something that ends in a dot.
abbrev Ended : List ℕ → Type 0
Ended [] = Unit {0}
Ended (x ∷ []) = x ≡ 46
Ended (x ∷ y ∷ l) = Ended (y ∷ l)

ended_rest : (x : ℕ) (l : List ℕ) → Ended (x ∷ l) → Ended l
ended_rest x [] h = tt
ended_rest x (y ∷ l) h = h

ended_dots : (x : ℕ) (l : List ℕ) → Ended (x ∷ l) → 1 ≤ dots (x ∷ l)
ended_dots x [] h = rw h (omega arith)
ended_dots x (y ∷ l) h = let r = ended_dots y l h in omega arith

ended_dot : (l : List ℕ) → Ended (l ++ (46 ∷ []))
ended_dot [] = refl
ended_dot (x ∷ []) = refl
ended_dot (x ∷ y ∷ l) = ended_dot (y ∷ l)

ended_above : (above : List Field) → Ended (names_above above)
ended_above [] = tt
ended_above (f ∷ above) =
    subst Ended (append_assoc (names_above above) f.name (46 ∷ [])) (ended_dot (names_above above ++ f.name))

-- One text, cut behind dots with as many dots in what is left, is cut at one place.
same_cut : (p q x y : List ℕ) → Ended p → Ended q → p ++ x ≡ q ++ y → dots x ≡ dots y → x ≡ y
same_cut [] [] x y h k e d = e
same_cut [] (b ∷ q) x y h k e d =
    let z = ap dots e ∙ tally_append 46 (b ∷ q) y in
    let l = ended_dots b q k in
    absurd (omega arith)
same_cut (a ∷ p) [] x y h k e d =
    let z = ap dots (sym e) ∙ tally_append 46 (a ∷ p) x in
    let l = ended_dots a p h in
    absurd (omega arith)
same_cut (a ∷ p) (b ∷ q) x y h k e d =
    let rest : p ++ x ≡ q ++ y = cc in
    same_cut p q x y (ended_rest a p h) (ended_rest b q k) rest d

-- ---- full and short names

abbrev Spelt : Start → Type 0
Spelt s = (s.full ≡ names_above s.above) × ((s.short ≡ s.full) ⊎ (dots s.short < dots s.full))

record Full (r : Row) : Type 0 where
  full : r.full ≡ names_above r.above ++ r.field.name
  short : (r.short ≡ r.full) ⊎ (dots r.short < dots r.full)

spelt_below : (s : Start) (f : Field) → Spelt s → Spelt (below s f)
spelt_below s f h = (ap (λ (x : List ℕ). dotted x f.name) h.0, go (skipped s.role f.kind) h.1)
  where
    go : (b : Bool) → (s.short ≡ s.full) ⊎ (dots s.short < dots s.full)
        → (cond b s.short (dotted s.short f.name) ≡ dotted s.full f.name)
        ⊎ (dots (cond b s.short (dotted s.short f.name)) < dots (dotted s.full f.name))
    go true (inl e) = let d = dots_dotted s.full f.name in let z = ap dots e in inr (omega arith)
    go true (inr l) = let d = dots_dotted s.full f.name in inr (omega arith)
    go false (inl e) = inl (ap (λ (x : List ℕ). dotted x f.name) e)
    go false (inr l) =
        let d = dots_dotted s.full f.name in
        let d' = dots_dotted s.short f.name in
        inr (omega arith)

row_full : (s : Start) (t : Forest Field) → Spelt s → (r : Row) → r ∈ rows s t → Full r
unfolding rows
row_full s empty h r i = absurd i
row_full s (node f m n) h r (inl e) =
    rw e (record { full = ap (λ (x : List ℕ). x ++ f.name) h.0; short = go h.1 })
  where
    go : (s.short ≡ s.full) ⊎ (dots s.short < dots s.full)
        → (s.short ++ f.name ≡ s.full ++ f.name) ⊎ (dots (s.short ++ f.name) < dots (s.full ++ f.name))
    go (inl q) = inl (ap (λ (x : List ℕ). x ++ f.name) q)
    go (inr l) =
        let a = tally_append 46 s.short f.name in
        let b = tally_append 46 s.full f.name in
        inr (omega arith)
row_full s (node f m n) h r (inr i) =
    ⊎_elim (row_full (below s f) m (spelt_below s f h) r) (row_full (beside s m) n h r)
    (in_append r (rows (below s f) m) (rows (beside s m) n) i)

full_of : (t : Forest Field) (r : Row) → r ∈ rows top t → Full r
full_of t = row_full top t (refl, inl refl)

-- ---- new names

renamed_more : (x : ℕ) (earlier : List Edited) (e : Edited)
    → renamed x (earlier ++ (e ∷ [])) ≡ (renamed x earlier || renamed x (e ∷ []))
renamed_more x earlier e = any_append (λ z. eqb x z.id && is_rename z.change) earlier (e ∷ [])

module _ (t : Forest Field) (ds : List ℕ) where
  -- Once renamed, no later edit renames it.
  renamed_once : (x : ℕ) (earlier es : List Edited) → AllDecided t ds earlier es → renamed x earlier ≡ true
      → new_names x es ≡ []
  renamed_once x earlier [] a h = refl
  renamed_once x earlier (e ∷ es) a h =
      rw (renamed_once x (earlier ++ (e ∷ [])) es a.1 (renamed_more x earlier e ∙ rw h))
      (go (eqb e.id x) refl e.change a.0.once)
    where
      go : (b : Bool) → eqb e.id x ≡ b → (c : Change) → again c e.id earlier ≡ false
          → cond b (named_by c) [] ++ [] ≡ []
      go false q c o = refl
      go true q relax o = refl
      go true q (widen v z) o = refl
      go true q (rename z) o =
          let same = eqb-true e.id x q in
          absurd (true≢false (sym h ∙ (rw same at o)))

  -- So the one new name that it gets is its last.
  new_name_last : (x : ℕ) (new name : List ℕ) (earlier es : List Edited) → AllDecided t ds earlier es
      → record { id = x; change = rename new } ∈ es → last_of name (new_names x es) ≡ new
  new_name_last x new name earlier [] a h = absurd h
  new_name_last x new name earlier (e ∷ es) a (inl q) =
      let here : renamed x (earlier ++ (e ∷ [])) ≡ true =
      renamed_more x earlier e ∙ rw (← q, eqb_self x) (or-true (renamed x earlier)) in
      rw (renamed_once x (earlier ++ (e ∷ [])) es a.1 here, ← q, eqb_self x)
  new_name_last x new name earlier (e ∷ es) a (inr h) =
      go (eqb e.id x) e.change (λ before. new_name_last x new before (earlier ++ (e ∷ [])) es a.1 h)
    where
      go : (b : Bool) (c : Change) → ((before : List ℕ) → last_of before (new_names x es) ≡ new)
          → last_of name (cond b (named_by c) [] ++ new_names x es) ≡ new
      go true (rename z) f = f z
      go true relax f = f name
      go true (widen v z) f = f name
      go false c f = f name

  -- No name gets more dots.
  fewer_dots : (earlier es : List Edited) → AllDecided t ds earlier es → (f : Field)
      → dots (edit_fields es f).name ≤ dots f.name
  unfolding edit_fields
  fewer_dots earlier [] a f = omega arith
  fewer_dots earlier (e ∷ es) a f =
      let r = fewer_dots (earlier ++ (e ∷ [])) es a.1 (edit_field e f) in
      let o = go (eqb e.id f.id) e.change a.0.dotless in
      omega arith
    where
      go : (b : Bool) (c : Change) → has_dot c ≡ false → dots (cond b (with_change c f) f).name ≤ dots f.name
      go true (rename z) h = let d = dotless z h in omega arith
      go true relax h = omega arith
      go true (widen v z) h = omega arith
      go false c h = omega arith

  dots_above : (es : List Edited) → AllDecided t ds [] es → (above : List Field)
      → dots (names_above (map (edit_fields es) above)) ≤ dots (names_above above)
  dots_above es a [] = omega arith
  dots_above es a (f ∷ above) =
      let r = dots_above es a above in
      let o = fewer_dots [] es a f in
      let d = dots_dotted (names_above above) f.name in
      let d' = dots_dotted (names_above (map (edit_fields es) above)) (edit_fields es f).name in
      omega arith

decided_in : (t : Forest Field) (ds : List ℕ) (earlier es : List Edited) → AllDecided t ds earlier es → (e : Edited) → e ∈ es
    → (before : List Edited) × Decided t ds before e
decided_in t ds earlier [] a e h = absurd h
decided_in t ds earlier (x ∷ es) a e (inl q) = (earlier, rw q a.0)
decided_in t ds earlier (x ∷ es) a e (inr h) = decided_in t ds (earlier ++ (x ∷ [])) es a.1 e h

-- ---- a column from before, and the same in the answer

-- Where a full name is the old one again, the name is the old one.
name_back : (t : Forest Field) (ds : List ℕ) (es : List Edited) → AllDecided t ds [] es → (was now : Row) → Full was → Full now
    → now.field ≡ edit_fields es was.field → now.above ≡ map (edit_fields es) was.above
    → (now.full ≡ was.full) ⊎ (now.short ≡ was.full) → was.field.name ≡ now.field.name
name_back t ds es a was now fw fn f b h =
    let x = names_above was.above in
    let x' = names_above now.above in
    let y = was.field.name in
    let y' = now.field.name in
    let dx : dots x' ≤ dots x = rw b (dots_above t ds es a was.above) in
    let dy : dots y' ≤ dots y = rw f (fewer_dots t ds [] es a was.field) in
    let old = ap dots fw.full ∙ tally_append 46 x y in
    let new = ap dots fn.full ∙ tally_append 46 x' y' in
    let by_full : now.full ≡ was.full → y ≡ y' =
    λ k.
    let z = ap dots k in
    same_cut x x' y y' (ended_above was.above) (ended_above now.above) (sym fw.full ∙ sym k ∙ fn.full)
    (omega arith) in
    let by_short : now.short ≡ was.full → y ≡ y' =
    λ k.
    ⊎_elim (λ i. by_full (sym i ∙ k)) (λ l. absurd (let z = ap dots k in omega arith)) fn.short in
    ⊎_elim by_full by_short h

planned_sound : (s : Schema) (q : Request) (p : Plan) → planned s q ≡ ok p → sound 0 s.tree [] ≡ ok tt
unfolding planned
planned_sound s q p e = unbind _ _ e λ _ e₁ _. sound_without 0 s.tree q.identifiers e₁

pub renames_found : (s : Schema) (q : Request) (p : Plan) (u : Schema) → planned s q ≡ ok p → update s q ≡ ok u
    → RenamesFound s q p u
renames_found s q p u e₁ e x new h =
    let es = settings s q in
    let all = decided_edits s q p e₁ in
    let o = (decided_in s.tree p.dropped [] es all.1 (record { id = x; change = rename new }) h).1 in
    let was = o.row in
    let base = planned_sound s q p e₁ in
    let answer = sound_without 0 u.tree q.identifiers (update_identified s q u e) in
    let is = answered s q p u e₁ e in
    let c =
    carried es p.dropped (added s q p) was.field was.above [] none true s.tree (row_at top s.tree was o.there)
    (λ k. o.stays (rw o.its_id at k)) in
    let w = at_row top u.tree (edit_fields es was.field) (map (edit_fields es) was.above) (rw is c) in
    let now = w.row in
    let now_id : now.field.id ≡ x = ap (λ (f : Field). f.id) w.field ∙ edits_keep_id es was.field ∙ o.its_id in
    let named : now.field.name ≡ new =
    ap (λ (f : Field). f.name) w.field ∙ name_last es was.field
    ∙ (rw o.its_id (new_name_last s.tree p.dropped x new was.field.name [] es all.1 h)) in
    let whole = full_of u.tree now w.there in
    record {
      was = was;
      was_there = rw o.its_id at (id_finds s.tree base was o.there);
      now = now;
      now_there = rw now_id at (id_finds u.tree answer now w.there);
      name = named;
      full = rw named at whole.full;
      found = full_finds u.tree answer now w.there;
      lost = λ other r k i.
          let there = name_found u.tree was.full r k in
          let once = sound_distinct 0 u.tree [] answer in
          let same = one_row u.tree once r now there.0 w.there (i ∙ sym now_id) in
          let back =
          ⊎_elim (λ z. inl (ap (λ (y : Row). y.full) (sym same) ∙ z))
          (λ z. inr (ap (λ (y : Row). y.short) (sym same) ∙ z.1)) there.1 in
          other
          (name_back s.tree p.dropped es all.1 was now (full_of s.tree was o.there) whole w.field w.above
          back
          ∙ named);
    }
