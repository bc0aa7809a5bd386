-- What 9 lets through is found by its id, so it is one of the tree's ids.
use Prim.Native.Nat.{ℕ, suc}
use mathlib.Core.Path.{◌≡◌, refl, sym, ap, subst}
use mathlib.Core.Logic.{inl, inr}
use mathlib.Core.Bool.{Bool, true, false, not, true≢false}
use mathlib.Core.List.{List, [], ◌∷◌, map, map-id}
use mathlib.Core.Option.{Option, none, some}
use lib.Dec.{eqb}
use borrow.Author.Tests.{not-false}
use Rattle.paper.specs.Answer.{ok, among, same, place_of, repeated}
use Rattle.paper.specs.Forest.{Forest}
use Rattle.paper.specs.Field.{Field}
use Rattle.paper.specs.Rows.{Row, top, rows, look_id}
use Rattle.paper.specs.Sound.{ids, names, identifies, sound}
use Rattle.laws.specs.Members.{◌∈◌}
use Rattle.laws.proofs.Basics.{unbind, rebind, fault_ok, no_fault, cond_none, in_map, any_true, eqb_self}
use Rattle.laws.proofs.Ordered.{row_ids}
use Rattle.laws.proofs.Rows.{id_found}

-- Where one test holds nowhere in a list, another holds nowhere in what g makes of it.
pub none_onto : {A B : Type 0} (t : A → Bool) (u : B → Bool) (g : A → B) → ((a : A) → t a ≡ false → u (g a) ≡ false)
    → (k : ℕ) (s : List A) → place_of t k s ≡ none → place_of u k (map g s) ≡ none
none_onto t u g h k [] e = refl
none_onto t u g h k (x ∷ s) e =
    let c = cond_none (t x) k (place_of t (suc k) s) e in
    rw (h x c.0, none_onto t u g h (suc k) s c.1)

pub holds_nowhere : {A : Type 0} (t : A → Bool) (k : ℕ) (s : List A) → place_of t k s ≡ none → (x : A) → x ∈ s → t x ≡ false
holds_nowhere t k [] e x h = absurd h
holds_nowhere t k (y ∷ s) e x (inl q) = rw q (cond_none (t y) k (place_of t (suc k) s) e).0
holds_nowhere t k (y ∷ s) e x (inr h) = holds_nowhere t (suc k) s (cond_none (t y) k (place_of t (suc k) s) e).1 x h

-- What 9 asks of an identifier.
abbrev pub breaks : Forest Field → ℕ → Bool
breaks t i = not (identifies (look_id t i))

pub identified_in : (t : Forest Field) (i : ℕ) → breaks t i ≡ false → i ∈ ids t
identified_in t i e = go (look_id t i) refl (not-false (identifies (look_id t i)) e)
  where
    go : (o : Option Row) → look_id t i ≡ o → identifies o ≡ true → i ∈ ids t
    go none q h = absurd (true≢false (sym h))
    go (some r) q h =
        let f = id_found t i r q in
        subst (λ x. x ∈ ids t) f.1 (rw (← (row_ids top t)) (in_map (λ (z : Row). z.field.id) r (rows top t) f.0))

pub sound_identified : (l : ℕ) (t : Forest Field) (identifiers : List ℕ) {x : Unit {0}} → sound l t identifiers ≡ ok x
    → place_of (breaks t) 0 identifiers ≡ none
unfolding sound
sound_identified l t identifiers e =
    unbind _ _ e λ _ _ a₁. unbind _ _ a₁ λ _ _ a₂. fault_ok 9 5 (place_of (breaks t) 0 identifiers) a₂

pub sound_members : (l : ℕ) (t : Forest Field) (identifiers : List ℕ) {x : Unit {0}} → sound l t identifiers ≡ ok x
    → (i : ℕ) → i ∈ identifiers → i ∈ ids t
sound_members l t identifiers e i h =
    identified_in t i (holds_nowhere (breaks t) 0 identifiers (sound_identified l t identifiers e) i h)

pub sound_known : (l : ℕ) (t : Forest Field) (identifiers : List ℕ) {x : Unit {0}} → sound l t identifiers ≡ ok x
    → place_of (λ i. not (among i (ids t))) 0 identifiers ≡ none
sound_known l t identifiers e =
    rw (map-id identifiers) at
    (none_onto (breaks t) (λ i. not (among i (ids t))) (λ i. i)
    (λ i h. ap not (any_true eqb eqb_self i (ids t) (identified_in t i h))) 0 identifiers
    (sound_identified l t identifiers e))

-- 7 and 8 do not look at the identifiers, and none of the three at the number of the list.
pub sound_with : (l l' : ℕ) (t : Forest Field) (identifiers other : List ℕ) {x : Unit {0}} → sound l t identifiers ≡ ok x
    → place_of (breaks t) 0 other ≡ none → sound l' t other ≡ ok tt
unfolding sound
sound_with l l' t identifiers other e h =
    unbind _ _ e λ _ e₁ a₁. unbind _ _ a₁ λ _ e₂ _.
    rebind _ _ (no_fault 7 l' (fault_ok 7 l (repeated eqb [] 0 (ids t)) e₁))
    (rebind _ _ (no_fault 8 l' (fault_ok 8 l (repeated same [] 0 (names [] t)) e₂)) (no_fault 9 5 h))

pub sound_without : (l : ℕ) (t : Forest Field) (identifiers : List ℕ) {x : Unit {0}} → sound l t identifiers ≡ ok x
    → sound 0 t [] ≡ ok tt
sound_without l t identifiers e = sound_with l 0 t identifiers [] e refl

pub sound_anywhere : (l l' : ℕ) (t : Forest Field) (identifiers : List ℕ) {x : Unit {0}} → sound l t identifiers ≡ ok x
    → sound l' t identifiers ≡ ok tt
sound_anywhere l l' t identifiers e = sound_with l l' t identifiers identifiers e (sound_identified l t identifiers e)
