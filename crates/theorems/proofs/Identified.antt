-- What an accepted update or renumbering answers passes 9 with its own identifiers. An update asks it of the rebuilt
-- tree. A renumbering changes nothing that 9 looks at but the ids: the rows of both trees run side by side, and an
-- identifier finds the row in the place of the one that it found before.
use Prim.Native.Nat.{ℕ, ◌+◌}
use mathlib.Core.Path.{◌≡◌, refl, sym, ap, ap₂, subst, ◌∙◌}
use mathlib.Core.Logic.{inl, inr}
use mathlib.Core.Bool.{Bool, true, false, not, ◌&&◌, cond, true≢false}
use mathlib.Core.List.{List, [], ◌∷◌, ◌++◌, map}
use mathlib.Core.Option.{some}
use native.Mathlib.Omega.{arith}
use lib.Dec.{eqb}
use borrow.Author.Tests.{ne_eqb, not-false}
use Rattle.paper.specs.Answer.{ok, all, find}
use Rattle.paper.specs.Forest.{Forest, empty, node, siblings, mapped}
use Rattle.paper.specs.Field.{Field, kind_of, with_id}
use Rattle.paper.specs.Rows.{Row, Start, top, below, beside, rows, look_id}
use Rattle.paper.specs.Sound.{ids, identifying, holding, identifies, sound}
use Rattle.paper.specs.Renumber.{renamed, level, numbered, Renumbered, renumber}
use Rattle.paper.specs.Update.{Request, Schema}
use Rattle.paper.specs.Rebuild.{carried_out, update}
use Rattle.laws.specs.Members.{◌∈◌}
use Rattle.laws.proofs.Basics.{unbind, ok_is, Distinct, eqb_self}
use Rattle.laws.proofs.Own.{sound_distinct}
use Rattle.laws.proofs.Runs.{map_append}
use Rattle.laws.proofs.Ordered.{row_ids}
use Rattle.laws.proofs.Identified.{none_onto, breaks, sound_identified, sound_with, sound_anywhere}
use Rattle.theorems.proofs.Renumbered.{level_same, renumber_sound}

-- ---- an update

pub update_identified : (s : Schema) (q : Request) (u : Schema) → update s q ≡ ok u
    → sound 0 u.tree q.identifiers ≡ ok tt
unfolding update carried_out
update_identified s q u e =
    unbind _ _ e λ p _ a. unbind _ _ a λ _ _ a₁. unbind _ _ a₁ λ _ e₂ a₂.
    subst (λ (x : Schema). sound 0 x.tree q.identifiers ≡ ok tt) (ok_is a₂)
    (sound_anywhere 4 0 _ q.identifiers e₂)

-- ---- rows side by side

-- What 9 asks of a row that is found.
abbrev fits : Row → Bool
fits r = identifies (some r)

abbrev id_in : Row → ℕ
id_in r = r.field.id

-- It does not look at ids.
fits_mapped : (s s' : Start) (t : Forest Field) → all holding s.above ≡ all holding s'.above
    → map fits (rows s (mapped (with_id 0) t)) ≡ map fits (rows s' t)
unfolding rows mapped
fits_mapped s s' empty e = refl
fits_mapped s s' (node f m n) e =
    let m₀ = mapped (with_id 0) m in
    let f₀ = with_id 0 f in
    let inner = fits_mapped (below s f₀) (below s' f) m (ap (λ (b : Bool). holding f && b) e) in
    let outer = fits_mapped (beside s m₀) (beside s' m) n e in
    ap₂ (λ (b : Bool) (l : List Bool). b ∷ l) (ap (λ (b : Bool). identifying f && b) e)
    (map_append fits (rows (below s f₀) m₀) (rows (beside s m₀) (mapped (with_id 0) n))
    ∙ ap₂ (λ (x y : List Bool). x ++ y) inner outer
    ∙ sym (map_append fits (rows (below s' f) m) (rows (beside s' m) n)))

-- The row that an id finds.
abbrev at_id : ℕ → List Row → Bool
at_id i rs = identifies (find (λ r. eqb r.field.id i) rs)

-- Of two lists of rows that fit alike: what an id finds in the first is found in the second by the id in its place.
record Stays (i : ℕ) (rs rs' : List Row) : Type 0 where
  there : renamed (map id_in rs) (map id_in rs') i ∈ map id_in rs'
  found : at_id (renamed (map id_in rs) (map id_in rs') i) rs' ≡ true

side_by_side : (i : ℕ) (rs rs' : List Row) → map fits rs ≡ map fits rs' → Distinct (map id_in rs')
    → at_id i rs ≡ true → Stays i rs rs'
side_by_side i [] rs' e d h = absurd (true≢false (sym h))
side_by_side i (r ∷ rs) [] e d h = absurd (let z : ◌≡◌ {A = ℕ} 0 1 = cc in omega arith)
side_by_side i (r ∷ rs) (q ∷ qs) e d h =
    let one : fits r ≡ fits q = cc in
    let more : map fits rs ≡ map fits qs = cc in
    go (eqb (id_in r) i) refl one h (side_by_side i rs qs more d.1)
  where
    new : ℕ
    new = renamed (map id_in rs) (map id_in qs) i

    go : (b : Bool) → eqb (id_in r) i ≡ b → fits r ≡ fits q → identifies (cond b (some r) (find (λ x. eqb (id_in x) i) rs)) ≡ true
        → (at_id i rs ≡ true → Stays i rs qs) → Stays i (r ∷ rs) (q ∷ qs)
    go true w one k f = record { there = rw w (inl refl); found = rw (w, eqb_self (id_in q)) (sym one ∙ k) }
    go false w one k f =
        let o = f k in
        let other = ne_eqb (id_in q) new (λ z. d.0 (rw z o.there)) in
        let is : renamed (map id_in (r ∷ rs)) (map id_in (q ∷ qs)) i ≡ new = rw w refl in
        record {
          there = subst (λ (x : ℕ). x ∈ map id_in (q ∷ qs)) (sym is) (inr o.there);
          found = subst (λ (x : ℕ). at_id x (q ∷ qs) ≡ true) (sym is) (rw other o.found);
        }

-- ---- a renumbering

pub renumber_identified : (t : Forest Field) (identifiers : List ℕ) (start : ℕ) (r : Renumbered)
    → renumber t identifiers start ≡ ok r → sound 0 r.tree r.identifiers ≡ ok tt
unfolding renumber numbered look_id
renumber_identified t identifiers start r e =
    let again = renumber_sound t identifiers start r e in
    unbind _ _ e λ _ e₁ a₁. unbind _ _ a₁ λ _ _ a₂.
    let u = level with_id kind_of false start (start + siblings t) t in
    let is : r ≡ record { tree = u; identifiers = map (renamed (ids t) (ids u)) identifiers } = sym (ok_is a₂) in
    let once : Distinct (ids u) = subst (λ (x : Renumbered). Distinct (ids x.tree)) is (sound_distinct 0 r.tree [] again) in
    let alike : map fits (rows top t) ≡ map fits (rows top u) =
    sym (level_same (λ x. map fits (rows top x)) (λ x. fits_mapped top top x refl) false start (start + siblings t) t) in
    let stays : (i : ℕ) → breaks t i ≡ false → breaks u (renamed (ids t) (ids u) i) ≡ false =
    λ i h.
    let o = side_by_side i (rows top t) (rows top u) alike (rw (row_ids top u) once) (not-false (at_id i (rows top t)) h) in
    ap not (rw (row_ids top t, row_ids top u) at o.found) in
    subst (λ (x : Renumbered). sound 0 x.tree x.identifiers ≡ ok tt) (sym is)
    (sound_with 0 0 u [] _ (subst (λ (x : Renumbered). sound 0 x.tree [] ≡ ok tt) is again)
    (none_onto (breaks t) (breaks u) (renamed (ids t) (ids u)) stays 0 identifiers (sound_identified 0 t identifiers e₁)))
