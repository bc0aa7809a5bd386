-- The walk finds what the paper's look-up of a short name finds: it meets the records in the order of entry, and what is left of the
-- asked name behind the names above tells whether a short name is it.
use mathlib.Core.Path.{◌≡◌, refl, sym, subst, ◌∙◌}
use mathlib.Core.Logic.{◌⊎◌, inl, inr, ⊎_elim}
use mathlib.Core.Bool.{Bool, true, false, cond}
use mathlib.Core.List.{List, [], ◌∷◌, ◌++◌}
use mathlib.Core.Option.{Option, none, some}
use Prim.Native.Nat.{ℕ, suc, ◌+◌, ◌<◌, ◌≤◌}
use native.Mathlib.Omega.{arith}
use Rattle.paper.specs.declared.Kind.{Kind}
use Rattle.paper.specs.declared.Role.{Role}
use Rattle.paper.specs.declared.Role.TheVariants.{Member}
use Rattle.paper.specs.Answer.{find, or_else, same, among}
use Rattle.paper.specs.Forest.{Forest, empty, node, size, mapped}
use Rattle.paper.specs.Field.{Field, first, after}
use Rattle.paper.specs.Rows.{Row, Start, row, below, beside, rows, entered, skipped, late}
use Rattle.laws.proofs.Basics.{none≢some, some_is, or_none, cond_none}
use Rattle.laws.proofs.Preorder.{size_mapped}
use Rattle.plan.proofs.Walks.{Numbered}
use Rattle.index_turns.specs.Turn.{strip, left_is, inside, own}
use Rattle.index_turns.proofs.Left.{same_strip, strip_below, undotted}
use Rattle.index_short_names.specs.Seek.{seek_in}
use Rattle.index_short_names.proofs.Seeking.{seek_nothing}

-- ---- lists that are searched

pub find_append : {A : Type 0} (p : A → Bool) (s t : List A) → find p (s ++ t) ≡ or_else (find p s) (find p t)
find_append p [] t = refl
find_append p (x ∷ s) t = go (p x) (find_append p s t)
  where
    go : (b : Bool) → find p (s ++ t) ≡ or_else (find p s) (find p t) → cond b (some x) (find p (s ++ t)) ≡ or_else (cond b (some x) (find p s)) (find p t)
    go true e = refl
    go false e = e

find_cond : {A : Type 0} (p : A → Bool) (b : Bool) (s t : List A) → find p (cond b s t) ≡ cond b (find p s) (find p t)
find_cond p true s t = refl
find_cond p false s t = refl

-- ---- a found row and its slot

module _ (fld : ℕ → Field) where
  pub data Rel : Option Row → Option ℕ → Type 0 where
    none_found : Rel none none
    found_at : {r : Row} {k : ℕ} → r.slot ≡ k → r.field ≡ fld k → Rel (some r) (some k)

  rel_or : {a b : Option Row} {p q : Option ℕ} → Rel a p → Rel b q → Rel (or_else a b) (or_else p q)
  rel_or none_found g = g
  rel_or (found_at e f) g = found_at e f

  rel_cond : (t : Bool) {a b : Option Row} {p q : Option ℕ} → Rel a p → Rel b q → Rel (cond t a b) (cond t p q)
  rel_cond true h g = h
  rel_cond false h g = g

  rel_own : (t : Bool) (r : Row) (k : ℕ) → r.slot ≡ k → r.field ≡ fld k → Rel (cond t (some r) none) (cond t (some k) none)
  rel_own true r k e h = found_at e h
  rel_own false r k e h = none_found

  rel_cons : (t : Bool) (r : Row) (k : ℕ) {a : Option Row} {p : Option ℕ} → r.slot ≡ k → r.field ≡ fld k → Rel a p → Rel (cond t (some r) a) (or_else (cond t (some k) none) p)
  rel_cons true r k e h g = found_at e h
  rel_cons false r k e h g = g

  module _ (x : List ℕ) where
    abbrev is_short : Row → Bool
    is_short r = same r.short x

    pub short_rel : (f : Forest ℕ) (s : Start) (waiting : List Row) (wait : Option ℕ) → Numbered s.slot f → Rel (find is_short waiting) wait
        → Rel (find is_short (entered waiting s (mapped fld f))) (seek_in (λ k. (fld k).name) (λ k. (fld k).kind) s.role (strip s.short x) wait f)
    unfolding entered mapped seek_in
    short_rel empty s waiting wait nd h = h
    short_rel (node k f g) s waiting wait nd h =
        let r = row s (fld k) (mapped fld f) in
        let e : r.slot ≡ k = sym nd.0 in
        let ng : Numbered (suc (s.slot + size (mapped fld f))) g = subst (λ z. Numbered z g) (let q = size_mapped fld f in omega arith) nd.1.1 in
        rw (
          find_append is_short (entered [] (below s (fld k)) (mapped fld f)) (cond (late s.role) (entered (waiting ++ (r ∷ [])) (beside s (mapped fld f)) (mapped fld g)) (r ∷ entered waiting (beside s (mapped fld f)) (mapped fld g))),
          find_cond is_short (late s.role) (entered (waiting ++ (r ∷ [])) (beside s (mapped fld f)) (mapped fld g)) (r ∷ entered waiting (beside s (mapped fld f)) (mapped fld g)),
          ← (strip_below (skipped s.role (fld k).kind) s.short (fld k).name x),
          ← (same_strip s.short (fld k).name x),
        )
        (rel_or (short_rel f (below s (fld k)) [] none nd.1.0 none_found)
        (rel_cond (late s.role)
        (short_rel g (beside s (mapped fld f)) (waiting ++ (r ∷ [])) (or_else wait (cond (is_short r) (some k) none)) ng (rw (find_append is_short waiting (r ∷ [])) (rel_or h (rel_own (is_short r) r k e refl))))
        (rel_cons (is_short r) r k e refl (short_rel g (beside s (mapped fld f)) waiting wait ng h))))

    -- ---- a name without a dot is no short name but a root's own, which is its full name

    pub dotless : (f : Forest ℕ) (s : Start) → among 46 x ≡ false → s.full ≡ [] → find (λ r. same r.full x) (rows s (mapped fld f)) ≡ none → seek_in (λ k. (fld k).name) (λ k. (fld k).kind) Member (some x) none f ≡ none
    unfolding rows mapped seek_in
    dotless empty s d e h = refl
    dotless (node k f g) s d e h =
        let deeper = rows (below s (fld k)) (mapped fld f) ++ rows (beside s (mapped fld f)) (mapped fld g) in
        let c = cond_none (same (s.full ++ (fld k).name) x) (row s (fld k) (mapped fld f)) (find (λ r. same r.full x) deeper) h in
        let o = or_none (find (λ r. same r.full x) (rows (below s (fld k)) (mapped fld f))) (find (λ r. same r.full x) (rows (beside s (mapped fld f)) (mapped fld g))) (sym (find_append (λ r. same r.full x) (rows (below s (fld k)) (mapped fld f)) (rows (beside s (mapped fld f)) (mapped fld g))) ∙ c.1) in
        let own_not : same (fld k).name x ≡ false = rw e at c.0 in
        rw (undotted (fld k).name x d, seek_nothing (λ k. (fld k).name) (λ k. (fld k).kind) f (first (fld k).kind) none, own_not)
        (dotless g (beside s (mapped fld f)) d e o.1)

-- ---- what is found is a slot of the forest

or_some : {A : Type 0} (x y : Option A) {a : A} → or_else x y ≡ some a → (x ≡ some a) ⊎ (y ≡ some a)
or_some none y e = inr e
or_some (some b) y e = inl e

module _ (name : ℕ → List ℕ) (kind : ℕ → Kind) (b j : ℕ) where
  own_in : (t : Bool) (k : ℕ) → k < b → cond t (some k) none ≡ some j → j < b
  own_in true k l e = let z : k ≡ j = some_is e in omega arith
  own_in false k l e = absurd (none≢some e)

  pub found_in : (f : Forest ℕ) (k : ℕ) (role : Role) (left : Option (List ℕ)) (wait : Option ℕ) → Numbered k f → k + size f ≤ b → (wait ≡ some j → j < b) → seek_in name kind role left wait f ≡ some j → j < b
  unfolding seek_in size
  found_in empty k role left wait nd l h e = h e
  found_in (node i f g) k role left wait nd l h e =
      let z = nd.0 in
      let mine : cond (left_is left (name i)) (some i) none ≡ some j → j < b = own_in (left_is left (name i)) i (omega arith) in
      ⊎_elim
      (found_in f (suc k) (first (kind i)) (inside (skipped role (kind i)) left (name i)) none nd.1.0 (omega arith) (λ w. absurd (none≢some w)))
      (go (late role)
      (found_in g (suc k + size f) (after role) left (or_else wait (own left (name i) i)) nd.1.1 (omega arith) (λ w. ⊎_elim h mine (or_some wait (own left (name i) i) w)))
      (λ w. ⊎_elim mine (found_in g (suc k + size f) (after role) left wait nd.1.1 (omega arith) h) (or_some (own left (name i) i) (seek_in name kind (after role) left wait g) w)))
      (or_some (seek_in name kind (first (kind i)) (inside (skipped role (kind i)) left (name i)) none f) _ e)
    where
      go : (t : Bool) {x y : Option ℕ} → (x ≡ some j → j < b) → (y ≡ some j → j < b) → cond t x y ≡ some j → j < b
      go true p q w = p w
      go false p q w = q w
