-- What edits make of a column is what was last set; and what is decided of the edits of an accepted update is what its
-- request sets: each of a column that its path finds and that stays. A column is widened once in an update, so by a step from
-- the code that it has in the base.
use Prim.Native.Nat.{ℕ, suc, ◌-◌}
use mathlib.Core.Path.{◌≡◌, refl, sym, ap, subst, ◌∙◌}
use mathlib.Core.Logic.{◌⊎◌, inl, inr, ⊎_elim}
use mathlib.Core.Bool.{Bool, true, false, not, ◌&&◌, ◌||◌, cond, and-true, and-false, true≢false}
use mathlib.Core.List.{List, [], ◌∷◌, ◌++◌, map, append-nil, append_assoc}
use mathlib.Core.Option.{Option, none, some}
use lib.Dec.{eqb}
use borrow.Author.Tests.{eqb-true, eq-eqb, not-false}
use Rattle.paper.specs.Answer.{ok, among, any}
use Rattle.paper.specs.Forest.{Forest}
use Rattle.paper.specs.Field.{Field, is_primitive, is_required}
use Rattle.paper.specs.Rows.{Row, top, rows, look_name}
use Rattle.paper.specs.Sound.{ids}
use Rattle.paper.specs.Gone.{gone_columns}
use Rattle.paper.specs.Promotions.{allowed}
use Rattle.paper.specs.Edits.{Change, rename, relax, widen, Edit, Edited, remaining, forbidden, is_widening, widened, again}
use Rattle.paper.specs.Edits.{has_dot, no_step, edited_one, edited_all, relaxed, with_change, edit_field, edit_fields}
use Rattle.paper.specs.Update.{Request, Schema, Plan, planned}
use Rattle.laws.specs.Members.{◌∈◌}
use Rattle.laws.proofs.Basics.{unbind, ok_is, fault_if_ok, none≢some, some_is, neither, any_append, any_false, eqb_self, Distinct}
use Rattle.laws.proofs.Own.{sound_distinct}
use Rattle.laws.proofs.Rows.{name_found}
use Rattle.laws.proofs.RoundTrip.{both}
use Rattle.laws.proofs.Edited.{fields_keep, edit_keeps_id, edits_keep_id, edits_keep_kind, edits_keep_attribute}
use Rattle.laws.proofs.Receiving.{demand_ok}
use Rattle.theorems.specs.Columns.{Column, Has, set_one, set_by, settings, last_of, named_by, new_names, Widening, widened_by}
use Rattle.theorems.specs.Columns.{widenings, new_codes, Stepwise, is_relax, relaxes, has_default, SameColumn, AsLastSet}
use Rattle.theorems.proofs.Columns.{stands_row, one_row}

-- ---- the flags

required_is : (n : ℕ) → is_required n ≡ true → (n ≡ 1) ⊎ (n ≡ 3)
required_is n e = go (eqb n 1) refl e
  where
    go : (b : Bool) → eqb n 1 ≡ b → (b || eqb n 3) ≡ true → (n ≡ 1) ⊎ (n ≡ 3)
    go true q h = inl (eqb-true n 1 q)
    go false q h = inr (eqb-true n 3 h)

-- Of the flags of what is relaxed: none where it was required alone, the default's where it had one, else as they were.
relaxed_is : (A : ℕ → Type 0) (n : ℕ) → (n ≡ 1 → A 0) → (n ≡ 3 → A 2) → (is_required n ≡ false → A n) → A (relaxed n)
relaxed_is A n one both optional = go (is_required n) refl
  where
    go : (b : Bool) → is_required n ≡ b → A (cond b (n - 1) n)
    go false q = optional q
    go true q = ⊎_elim (λ e. rw e (one e)) (λ e. rw e (both e)) (required_is n q)

relaxed_optional : (n : ℕ) → is_required (relaxed n) ≡ false
relaxed_optional n = relaxed_is (λ m. is_required m ≡ false) n (λ _. refl) (λ _. refl) (λ e. e)

pub relaxed_default : (n : ℕ) → has_default (relaxed n) ≡ has_default n
relaxed_default n = relaxed_is (λ m. has_default m ≡ has_default n) n (λ e. rw e) (λ e. rw e) (λ _. refl)

changed_default : (c : Change) (f : Field) → has_default (with_change c f).flags ≡ has_default f.flags
changed_default (rename x) f = refl
changed_default relax f = relaxed_default f.flags
changed_default (widen v x) f = refl

-- ---- as last set

pub name_last : (es : List Edited) (f : Field) → (edit_fields es f).name ≡ last_of f.name (new_names f.id es)
unfolding edit_fields
name_last [] f = refl
name_last (e ∷ es) f = (rw (edit_keeps_id e f) at (name_last es (edit_field e f))) ∙ go (eqb e.id f.id) e.change
  where
    go : (b : Bool) (c : Change) → last_of (cond b (with_change c f) f).name (new_names f.id es)
        ≡ last_of f.name (cond b (named_by c) [] ++ new_names f.id es)
    go true (rename x) = refl
    go true relax = refl
    go true (widen v x) = refl
    go false c = refl

code_last : (es : List Edited) (f : Field) → (edit_fields es f).code ≡ last_of f.code (new_codes f.id es)
unfolding edit_fields
code_last [] f = refl
code_last (e ∷ es) f = (rw (edit_keeps_id e f) at (code_last es (edit_field e f))) ∙ go (eqb e.id f.id) e.change
  where
    go : (b : Bool) (c : Change) → last_of (cond b (with_change c f) f).code (new_codes f.id es)
        ≡ last_of f.code (map (λ w. w.code) (cond b (widened_by c) [] ++ widenings f.id es))
    go true (rename x) = refl
    go true relax = refl
    go true (widen v x) = refl
    go false c = refl

required_last : (es : List Edited) (f : Field)
    → is_required (edit_fields es f).flags ≡ (is_required f.flags && not (any (relaxes f.id) es))
unfolding edit_fields
required_last [] f = sym (and-true (is_required f.flags))
required_last (e ∷ es) f =
    (rw (edit_keeps_id e f) at (required_last es (edit_field e f)))
    ∙ go (eqb e.id f.id) e.change (any (relaxes f.id) es)
  where
    go : (b : Bool) (c : Change) (r : Bool) → (is_required (cond b (with_change c f) f).flags && not r)
        ≡ (is_required f.flags && not ((b && is_relax c) || r))
    go true (rename x) r = refl
    go true relax r = rw (relaxed_optional f.flags) (sym (and-false (is_required f.flags)))
    go true (widen v x) r = refl
    go false c r = refl

-- ---- steps

-- Each edit that widens the column does so by a step, from what the column is by then.
abbrev pub Steps : Field → List Edited → Type 0
Steps f [] = Unit {0}
Steps f (e ∷ es) = ((eqb e.id f.id && no_step e.change f) ≡ false) × Steps (edit_field e f) es

pub steps_append : (es fs : List Edited) (f : Field) → Steps f es → Steps (edit_fields es f) fs → Steps f (es ++ fs)
unfolding edit_fields
steps_append [] fs f h k = k
steps_append (e ∷ es) fs f h k = (h.0, steps_append es fs (edit_field e f) h.1 k)

-- A step that is one.
pub a_step : (v x : ℕ) (f : Field) → no_step (widen v x) f ≡ false
    → (is_primitive f.kind ≡ true) × (allowed v f.code x ≡ true)
a_step v x f e = both (is_primitive f.kind) (allowed v f.code x) (not-false _ e)

stepwise : (es : List Edited) (f : Field) → Steps f es → Stepwise f.code (widenings f.id es)
stepwise [] f h = tt
stepwise (e ∷ es) f h =
    go (eqb e.id f.id) e.change h.0 (rw (edit_keeps_id e f) at (stepwise es (edit_field e f) h.1))
  where
    go : (b : Bool) (c : Change) → (b && no_step c f) ≡ false
        → Stepwise (cond b (with_change c f) f).code (widenings f.id es)
        → Stepwise f.code (cond b (widened_by c) [] ++ widenings f.id es)
    go true (rename x) s k = k
    go true relax s k = k
    go true (widen v x) s k = ((a_step v x f s).1, k)
    go false c s k = k

widened_primitive : (es : List Edited) (f : Field) → Steps f es → (w : Widening) → w ∈ widenings f.id es
    → is_primitive f.kind ≡ true
unfolding edit_fields
widened_primitive [] f h w i = absurd i
widened_primitive (e ∷ es) f h w i =
    go (eqb e.id f.id) e.change h.0 i
    (λ k.
    rw (edits_keep_kind (e ∷ []) f) at (widened_primitive es (edit_field e f) h.1 w (rw (edit_keeps_id e f) k)))
  where
    go : (b : Bool) (c : Change) → (b && no_step c f) ≡ false → w ∈ (cond b (widened_by c) [] ++ widenings f.id es)
        → (w ∈ widenings f.id es → is_primitive f.kind ≡ true) → is_primitive f.kind ≡ true
    go true (rename x) s j k = k j
    go true relax s j k = k j
    go true (widen v x) s j k = (a_step v x f s).0
    go false c s j k = k j

pub as_last_set : (es : List Edited) (c d : Column) → d.parent ≡ c.parent → d.field ≡ edit_fields es c.field
    → Steps c.field es → AsLastSet es c d
as_last_set es c d p e s =
    let f = c.field in
    let same : SameColumn c d = record {
      id = rw e (edits_keep_id es f);
      kind = rw e (edits_keep_kind es f);
      default = rw e (fields_keep (λ g. has_default g.flags) changed_default es f);
      attribute = rw e (edits_keep_attribute es f);
      parent = p;
    } in
    record {
      same = same;
      name = rw e (name_last es f);
      required = rw e (required_last es f);
      code = rw e (code_last es f);
      steps = stepwise es f s;
      primitive = widened_primitive es f s;
      edited = e;
    }

-- ---- what is decided

module _ (t : Forest Field) (ds : List ℕ) where
  -- Of an edit after others: its column is a row of the tree that stays and allows it, it is no second rename or widening, its
  -- new name has no dot, and its new type is a step.
  pub record Decided (earlier : List Edited) (e : Edited) : Type 0 where
    pub row : Row
    pub there : row ∈ rows top t
    pub its_id : row.field.id ≡ e.id
    pub stays : e.id ∈ gone_columns ds t → ⊥
    pub allowed : forbidden e.change row.role ≡ false
    pub once : again e.change e.id earlier ≡ false
    pub dotless : has_dot e.change ≡ false
    pub stepped : no_step e.change row.field ≡ false

  abbrev pub AllDecided : (earlier es : List Edited) → Type 0
  AllDecided earlier [] = Unit {0}
  AllDecided earlier (e ∷ es) = Decided earlier e × AllDecided (earlier ++ (e ∷ [])) es

  remains : (o : Option Row) (r : Row) → remaining (gone_columns ds t) o ≡ some r
      → (o ≡ some r) × (among r.field.id (gone_columns ds t) ≡ false)
  remains none r e = absurd (none≢some e)
  remains (some q) r e = go (among q.field.id (gone_columns ds t)) refl e
    where
      go : (b : Bool) → among q.field.id (gone_columns ds t) ≡ b → cond b none (some q) ≡ some r
          → (some q ≡ some r) × (among r.field.id (gone_columns ds t) ≡ false)
      go true i h = absurd (none≢some h)
      go false i h = (h, rw (← (some_is h)) i)

  one_decided : (k : ℕ) (earlier : List Edited) (x : Edit) (e : Edited) → edited_one t ds k earlier x ≡ ok e
      → (set_one (look_name t x.path) x.change ≡ e ∷ []) × Decided earlier e
  unfolding edited_one
  one_decided k earlier x e h =
      unbind _ _ h λ r e₁ a₁. unbind _ _ a₁ λ _ e₂ a₂. unbind _ _ a₂ λ _ e₃ b₃. unbind _ _ b₃ λ _ e₄ a₃.
      let o = remains (look_name t x.path) r (demand_ok 23 6 k _ e₁) in
      let w = neither (forbidden x.change r.role) (again x.change r.field.id earlier) (fault_if_ok 24 6 k _ e₂) in
      let decided : Decided earlier (record { id = r.field.id; change = x.change }) = record {
        row = r;
        there = (name_found t x.path r o.0).0;
        its_id = refl;
        stays = any_false eqb eqb_self r.field.id (gone_columns ds t) o.1;
        allowed = w.0;
        once = w.1;
        dotless = fault_if_ok 13 6 k _ e₃;
        stepped = fault_if_ok 26 6 k _ e₄;
      } in
      (rw o.0 (ap (λ (z : Edited). z ∷ []) (ok_is a₃)), subst (Decided earlier) (ok_is a₃) decided)

  all_decided : (k : ℕ) (earlier : List Edited) (xs : List Edit) (es : List Edited)
      → edited_all t ds k earlier xs ≡ ok es → (es ≡ earlier ++ set_by t xs) × AllDecided earlier (set_by t xs)
  unfolding edited_all
  all_decided k earlier [] es h = (sym (ok_is h) ∙ sym (append-nil earlier), tt)
  all_decided k earlier (x ∷ xs) es h =
      unbind _ _ h λ e e₁ e₂.
      let one = one_decided k earlier x e e₁ in
      let rest = all_decided (suc k) (earlier ++ (e ∷ [])) xs es e₂ in
      let is : set_by t (x ∷ xs) ≡ e ∷ set_by t xs =
      ap (λ (z : List Edited). z ++ set_by t xs) one.0 in
      rw is (rest.0 ∙ append_assoc earlier (e ∷ []) (set_by t xs), (one.1, rest.1))

pub decided_edits : (s : Schema) (q : Request) (p : Plan) → planned s q ≡ ok p
    → (p.edits ≡ settings s q) × AllDecided s.tree p.dropped [] (settings s q)
unfolding planned
decided_edits s q p e =
    unbind _ _ e λ _ _ e₁. unbind _ _ e₁ λ _ _ e₂. unbind _ _ e₂ λ ds _ e₃. unbind _ _ e₃ λ _ _ e₄.
    unbind _ _ e₄ λ es e₅ e₆.
    let o = all_decided s.tree ds 0 [] q.edits es e₅ in
    rw (← (ok_is e₆)) o

-- ---- the steps of an update

-- A column of the base, as it is after earlier edits: where none of them widens it, it has the code that it had. So it is
-- widened once, and by a step.
module _ (t : Forest Field) (ds : List ℕ) (d : Distinct (ids t)) (r : Row) (there : r ∈ rows top t) where
  abbrev Unwidened : (earlier : List Edited) → Field → Type 0
  Unwidened earlier f = widened f.id earlier ≡ false → f.code ≡ r.field.code

  module _ (earlier : List Edited) (e : Edited) (o : Decided t ds earlier e) (f : Field) (i : f.id ≡ r.field.id)
      (k : f.kind ≡ r.field.kind) (c : Unwidened earlier f) where
    one_steps : (eqb e.id f.id && no_step e.change f) ≡ false
    one_steps = go (eqb e.id f.id) refl e.change o.once o.stepped
      where
        go : (b : Bool) → eqb e.id f.id ≡ b → (x : Change) → again x e.id earlier ≡ false
            → no_step x o.row.field ≡ false → (b && no_step x f) ≡ false
        go false h x w s = refl
        go true h (rename n) w s = refl
        go true h relax w s = refl
        go true h (widen v n) w s =
            let own = eqb-true e.id f.id h in
            let same = one_row t d o.row r o.there there (o.its_id ∙ own ∙ i) in
            rw (k, c (rw (← own) w), ← same) s

    still_unwidened : Unwidened (earlier ++ (e ∷ [])) (edit_field e f)
    still_unwidened h =
        let test : Edited → Bool = λ z. eqb f.id z.id && is_widening z.change in
        let no = neither (widened f.id earlier) _ (sym (any_append test earlier (e ∷ [])) ∙ (rw (edit_keeps_id e f) at h)) in
        go (eqb e.id f.id) refl e.change (c no.0) (neither _ false no.1).0
      where
        go : (b : Bool) → eqb e.id f.id ≡ b → (x : Change) → f.code ≡ r.field.code
            → (eqb f.id e.id && is_widening x) ≡ false → (cond b (with_change x f) f).code ≡ r.field.code
        go false q x l w = l
        go true q (rename n) l w = l
        go true q relax l w = l
        go true q (widen v n) l w =
            let own = eqb-true e.id f.id q in
            absurd (true≢false (sym (eq-eqb f.id e.id (sym own)) ∙ sym (and-true _) ∙ w))

  decided_steps : (earlier es : List Edited) → AllDecided t ds earlier es → (f : Field) → f.id ≡ r.field.id
      → f.kind ≡ r.field.kind → Unwidened earlier f → Steps f es
  unfolding edit_fields
  decided_steps earlier [] a f i k c = tt
  decided_steps earlier (e ∷ es) a f i k c = (
    one_steps earlier e a.0 f i k c,
    decided_steps (earlier ++ (e ∷ [])) es a.1 (edit_field e f) (edit_keeps_id e f ∙ i) (edits_keep_kind (e ∷ []) f ∙ k)
        (still_unwidened earlier e a.0 f i k c),
  )

pub row_steps : (t : Forest Field) (ds : List ℕ) (es : List Edited) → Distinct (ids t) → AllDecided t ds [] es
    → (r : Row) → r ∈ rows top t → Steps r.field es
row_steps t ds es d a r h = decided_steps t ds d r h [] es a r.field refl refl (λ _. refl)

pub planned_steps : (s : Schema) (q : Request) (p : Plan) → planned s q ≡ ok p → (c : Column) → Has s c
    → Steps c.field (settings s q)
unfolding planned
planned_steps s q p e c h =
    unbind _ _ e λ _ e₁ _.
    let o = stands_row top none s.tree c h in
    let once = sound_distinct 0 s.tree q.identifiers e₁ in
    rw o.2 at (row_steps s.tree p.dropped (settings s q) once (decided_edits s q p e).1 o.0 o.1)
