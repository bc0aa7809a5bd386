-- The walk meets the rows that the paper's look-up keeps: in slot order, by their full names or by their short ones, since a folded
-- name begins with the folded names above it.
use mathlib.Core.Path.{◌≡◌, refl, sym, ap, subst, ◌∙◌}
use mathlib.Core.Bool.{Bool, true, false, ◌&&◌, cond}
use mathlib.Core.List.{List, [], ◌∷◌, ◌++◌}
use mathlib.Core.Option.{Option, some}
use Prim.Native.Nat.{ℕ, suc, ◌+◌, ◌<◌, ◌≤◌}
use native.Mathlib.Omega.{arith}
use Rattle.paper.specs.declared.Kind.{Kind}
use Rattle.paper.specs.declared.Role.{Role}
use Rattle.paper.specs.declared.Role.TheVariants.{Member}
use Rattle.paper.specs.Answer.{keep, same, among}
use Rattle.paper.specs.Forest.{Forest, empty, node, size, mapped}
use Rattle.paper.specs.Field.{Field, first, after}
use Rattle.paper.specs.Folded.{folded, matching}
use Rattle.paper.specs.Rows.{Row, Start, row, below, beside, rows, skipped, dotted}
use Rattle.laws.proofs.Folding.{folded_append, folded_dotted}
use Rattle.laws.proofs.Preorder.{size_mapped}
use Rattle.plan.proofs.Walks.{Numbered}
use Rattle.index_turns.specs.Turn.{strip, left_is, inside}
use Rattle.index_turns.proofs.Left.{same_strip, strip_below, undotted}
use Rattle.index_folded_names.specs.Met.{matched}
use Rattle.index_folded_names.proofs.Meeting.{matched_nothing}

keep_append : {A : Type 0} (p : A → Bool) (s t : List A) → keep p (s ++ t) ≡ keep p s ++ keep p t
keep_append p [] t = refl
keep_append p (x ∷ s) t = go (p x) (keep_append p s t)
  where
    go : (b : Bool) → keep p (s ++ t) ≡ keep p s ++ keep p t → cond b (x ∷ keep p (s ++ t)) (keep p (s ++ t)) ≡ cond b (x ∷ keep p s) (keep p s) ++ keep p t
    go true e = ap (λ z. x ∷ z) e
    go false e = e

module _ (fld : ℕ → Field) where
  -- Rows, and the slots at which they stand.
  pub data At : List Row → List ℕ → Type 0 where
    done : At [] []
    more : {r : Row} {k : ℕ} {rs : List Row} {ks : List ℕ} → r.slot ≡ k → r.field ≡ fld k → At rs ks → At (r ∷ rs) (k ∷ ks)

  at_append : {a b : List Row} {p q : List ℕ} → At a p → At b q → At (a ++ b) (p ++ q)
  at_append done g = g
  at_append (more e f h) g = more e f (at_append h g)

  at_own : (t : Bool) (r : Row) (k : ℕ) {a : List Row} {p : List ℕ} → r.slot ≡ k → r.field ≡ fld k → At a p → At (cond t (r ∷ a) a) (cond t (k ∷ p) p)
  at_own true r k e h g = more e h g
  at_own false r k e h g = g

  module _ (short : Bool) (x : List ℕ) where
    -- A row's name at this level, and what stands before the names of a list of siblings.
    abbrev pub called : Row → List ℕ
    called r = cond short r.short r.full

    abbrev before : Start → List ℕ
    before s = cond short s.short s.full

    abbrev is : Row → Bool
    is r = same (folded (called r)) (folded x)

    abbrev slots : Role → Option (List ℕ) → Forest ℕ → List ℕ
    slots = matched (λ k. folded (fld k).name) (λ k. (fld k).kind) short

    called_is : (s : Start) (f : Field) (m : Forest Field) → called (row s f m) ≡ before s ++ f.name
    called_is s f m = go short
      where
        go : (b : Bool) → cond b (s.short ++ f.name) (s.full ++ f.name) ≡ cond b s.short s.full ++ f.name
        go true = refl
        go false = refl

    is_left : (s : Start) (f : Field) (m : Forest Field) → left_is (strip (folded (before s)) (folded x)) (folded f.name) ≡ is (row s f m)
    is_left s f m = sym (ap (λ z. same (folded z) (folded x)) (called_is s f m) ∙ ap (λ z. same z (folded x)) (folded_append (before s) f.name) ∙ same_strip (folded (before s)) (folded f.name) (folded x))

    below_is : (s : Start) (f : Field) → before (below s f) ≡ cond (short && skipped s.role f.kind) (before s) (dotted (before s) f.name)
    below_is s f = go short
      where
        go : (b : Bool) → cond b (below s f).short (below s f).full ≡ cond (b && skipped s.role f.kind) (cond b s.short s.full) (dotted (cond b s.short s.full) f.name)
        go true = refl
        go false = refl

    folded_below : (b : Bool) (p y : List ℕ) → folded (cond b p (dotted p y)) ≡ cond b (folded p) (dotted (folded p) (folded y))
    folded_below true p y = refl
    folded_below false p y = folded_dotted p y

    inside_is : (s : Start) (f : Field) → inside (short && skipped s.role f.kind) (strip (folded (before s)) (folded x)) (folded f.name) ≡ strip (folded (before (below s f))) (folded x)
    inside_is s f =
        let b = short && skipped s.role f.kind in
        sym (ap (λ z. strip (folded z) (folded x)) (below_is s f) ∙ ap (λ z. strip z (folded x)) (folded_below b (before s) f.name) ∙ strip_below b (folded (before s)) (folded f.name) (folded x))

    rows_at : (f : Forest ℕ) (s : Start) → Numbered s.slot f → At (keep is (rows s (mapped fld f))) (slots s.role (strip (folded (before s)) (folded x)) f)
    unfolding rows mapped matched
    rows_at empty s nd = done
    rows_at (node k f g) s nd =
        let ng : Numbered (suc (s.slot + size (mapped fld f))) g = subst (λ z. Numbered z g) (let q = size_mapped fld f in omega arith) nd.1.1 in
        rw (keep_append is (rows (below s (fld k)) (mapped fld f)) (rows (beside s (mapped fld f)) (mapped fld g)), is_left s (fld k) (mapped fld f), inside_is s (fld k))
        (at_own (is (row s (fld k) (mapped fld f))) (row s (fld k) (mapped fld f)) k (sym nd.0) refl
        (at_append (rows_at f (below s (fld k)) nd.1.0) (rows_at g (beside s (mapped fld f)) ng)))

    pub matching_at : (f : Forest ℕ) (s : Start) → s.short ≡ [] → s.full ≡ [] → Numbered s.slot f → At (matching (λ r. cond short r.short r.full) x (rows s (mapped fld f))) (slots s.role (some (folded x)) f)
    unfolding matching folded
    matching_at f s es ef nd = subst (λ z. At (keep is (rows s (mapped fld f))) (slots s.role (strip (folded z) (folded x)) f)) (go short) (rows_at f s nd)
      where
        go : (b : Bool) → cond b s.short s.full ≡ []
        go true = es
        go false = ef

-- ---- matches are slots of the forest

abbrev pub All : ℕ → List ℕ → Type 0
All b [] = Unit {0}
All b (k ∷ ks) = (k < b) × All b ks

all_append : (b : ℕ) (s t : List ℕ) → All b s → All b t → All b (s ++ t)
all_append b [] t h g = g
all_append b (k ∷ s) t h g = (h.0, all_append b s t h.1 g)

module _ (name : ℕ → List ℕ) (kind : ℕ → Kind) where
  pub matched_below : (short : Bool) (b : ℕ) (f : Forest ℕ) (k : ℕ) (role : Role) (left : Option (List ℕ)) → Numbered k f → k + size f ≤ b → All b (matched name kind short role left f)
  unfolding matched size
  matched_below short b empty k role left nd l = tt
  matched_below short b (node i f g) k role left nd l =
      let z = nd.0 in
      go (left_is left (name i)) (matched name kind short (first (kind i)) (inside (short && skipped role (kind i)) left (name i)) f ++ matched name kind short (after role) left g) (let h : i < b = omega arith in h)
      (all_append b (matched name kind short (first (kind i)) (inside (short && skipped role (kind i)) left (name i)) f) (matched name kind short (after role) left g)
      (matched_below short b f (suc k) (first (kind i)) (inside (short && skipped role (kind i)) left (name i)) nd.1.0 (omega arith))
      (matched_below short b g (suc k + size f) (after role) left nd.1.1 (omega arith)))
    where
      go : (t : Bool) (ks : List ℕ) → i < b → All b ks → All b (cond t (i ∷ ks) ks)
      go true ks h a = (h, a)
      go false ks h a = a

  -- ---- a name without a dot is no short name but a root's own, which is its full name

  append_none : (s t : List ℕ) → s ++ t ≡ [] → t ≡ []
  append_none [] t e = e
  append_none (k ∷ s) t e = absurd (let z : ◌≡◌ {A = ℕ} 0 1 = cc in omega arith)

  pub dotless : (f : Forest ℕ) (y : List ℕ) → among 46 y ≡ false → matched name kind false Member (some y) f ≡ [] → matched name kind true Member (some y) f ≡ []
  unfolding matched
  dotless empty y d h = refl
  dotless (node k f g) y d h =
      let full = matched name kind false (first (kind k)) (strip (name k ++ (46 ∷ [])) y) f in
      let more = matched name kind false Member (some y) g in
      let c = go (same (name k) y) (full ++ more) h in
      rw (undotted (name k) y d, matched_nothing name kind true f (first (kind k)), c.0) (dotless g y d (append_none full more c.1))
    where
      go : (t : Bool) (ks : List ℕ) → cond t (k ∷ ks) ks ≡ [] → (t ≡ false) × (ks ≡ [])
      go true ks e = absurd (let z : ◌≡◌ {A = ℕ} 0 1 = cc in omega arith)
      go false ks e = (refl, e)
