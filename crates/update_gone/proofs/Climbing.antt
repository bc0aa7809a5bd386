-- Going up from a slot by the places above: a record goes if it is dropped as a member, or if the one above it goes.
use Prim.Native.Nat.{ℕ, zero, suc}
use mathlib.Core.Path.{◌≡◌, refl, sym, subst, ◌∙◌}
use mathlib.Core.Logic.{inl, inr, ⊎_elim}
use mathlib.Core.Bool.{Bool, true, false, ◌||◌, cond, or-true, or-false}
use mathlib.Core.List.{List, ◌∷◌, ◌++◌}
use lib.Dec.{eqb}
use lib.ListN.{get_or}
use Rattle.paper.specs.Answer.{among}
use Rattle.paper.specs.Bytes.{kind_at}
use Rattle.paper.specs.Field.{is_struct}
use Rattle.paper.specs.Forest.{Forest, empty, node, preorder}
use Rattle.paper.specs.Gone.{dropped_member, gone}
use Rattle.laws.specs.Members.{◌∈◌}
use Rattle.laws.proofs.Among.{among_none, among_left, among_right}
use Rattle.laws.proofs.Basics.{Apart, Distinct, distinct_append, in_left, in_right, in_append, any_true, eqb_self}
use Rattle.laws.proofs.Going.{gone_there}
use Rattle.index_names.proofs.Rising.{Climbs}
use Rattle.update_gone.specs.Gone.{slot_id, open_under}

-- Whether the slot of a place is one of these.
abbrev pub goes_at : List ℕ → ℕ → Bool
goes_at gs zero = false
goes_at gs (suc k) = among k gs

as_asked : (q x : Bool) → (q ≡ true → x ≡ true) → (q ≡ false → x ≡ false) → x ≡ q
as_asked true x f g = f refl
as_asked false x f g = g refl

by_above : (q x y z : Bool) → (q ≡ true → (x ≡ true) × (z ≡ true)) → (q ≡ false → x ≡ (y || z)) → x ≡ (y || z)
by_above true x y z f g = let h = f refl in rw (h.0, h.1) (sym (or-true y))
by_above false x y z f g = g refl

module _ (us gs : List ℕ) where
  -- beneath a record that goes all go
  beneath : (f : Forest ℕ) (u : ℕ) → Climbs us u f → goes_at gs u ≡ true → ((k : ℕ) → k ∈ preorder f → among k gs ≡ true) → (k : ℕ) → k ∈ preorder f → goes_at gs (get_or us k 0) ≡ true
  unfolding preorder
  beneath empty u c w h k i = absurd i
  beneath (node j m n) u c w h k (inl e) = rw (e, c.0) w
  beneath (node j m n) u c w h k (inr i) =
      ⊎_elim
      (λ l. beneath m (suc j) c.1.0 (h j (inl refl)) (λ x p. h x (inr (in_left x (preorder m) (preorder n) p))) k l)
      (λ l. beneath n u c.1.1 w (λ x p. h x (inr (in_right x (preorder m) (preorder n) p))) k l)
      (in_append k (preorder m) (preorder n) i)

  module _ (records ds : List ℕ) where
    abbrev goes : Bool → Forest ℕ → List ℕ
    goes b f = gone (slot_id records) (kind_at records) ds b f

    -- These are, of the slots of f, those that go.
    abbrev Same : Bool → Forest ℕ → Type 0
    Same b f = (k : ℕ) → k ∈ preorder f → among k gs ≡ among k (goes b f)

    -- one record, its members and those behind it
    module _ (j : ℕ) (m n : Forest ℕ) (b : Bool) (d : Distinct (preorder (node j m n))) (h : Same b (node j m n)) where
      abbrev inner : Bool
      inner = is_struct (kind_at records j)

      abbrev taken : Bool
      taken = dropped_member b ds (slot_id records j)

      abbrev own : Bool → List ℕ
      own q = cond q (j ∷ preorder m) (goes inner m)

      at_hand : (q : Bool) (k : ℕ) → k ∈ own q → k ∈ (j ∷ preorder m)
      at_hand true k i = i
      at_hand false k i = inr (gone_there (slot_id records) (kind_at records) ds inner m k i)

      apart : (Distinct (preorder m) × Distinct (preorder n) × Apart (preorder m) (preorder n)) × (j ∈ (preorder m ++ preorder n) → ⊥)
      unfolding preorder
      apart = (distinct_append (preorder m) (preorder n) d.1, d.0)

      same : (k : ℕ) → k ∈ (j ∷ (preorder m ++ preorder n)) → among k gs ≡ among k (own taken ++ goes b n)
      unfolding gone preorder
      same k i = h k i

      no_next : (k : ℕ) → k ∈ (j ∷ preorder m) → k ∈ goes b n → ⊥
      no_next k (inl e) i = apart.1 (in_right j (preorder m) (preorder n) (subst (λ z. z ∈ preorder n) e (gone_there (slot_id records) (kind_at records) ds b n k i)))
      no_next k (inr l) i = apart.0.2 k l (gone_there (slot_id records) (kind_at records) ds b n k i)

      -- of the record and its members
      same_own : (k : ℕ) → k ∈ (j ∷ preorder m) → among k gs ≡ among k (own taken)
      same_own k i = same k (go i) ∙ among_left k (own taken) (goes b n) (no_next k i)
        where
          go : k ∈ (j ∷ preorder m) → k ∈ (j ∷ (preorder m ++ preorder n))
          go (inl e) = inl e
          go (inr l) = inr (in_left k (preorder m) (preorder n) l)

      same_next : Same b n
      same_next k i = same k (inr (in_right k (preorder m) (preorder n) i)) ∙ among_right k (own taken) (goes b n) (λ l. go (at_hand taken k l))
        where
          go : k ∈ (j ∷ preorder m) → ⊥
          go (inl e) = apart.1 (in_right j (preorder m) (preorder n) (subst (λ z. z ∈ preorder n) e i))
          go (inr l) = apart.0.2 k l i

      all_taken : taken ≡ true → (k : ℕ) → k ∈ (j ∷ preorder m) → among k gs ≡ true
      all_taken e k i = same_own k i ∙ rw e (any_true eqb eqb_self k (j ∷ preorder m) i)

      same_inner : taken ≡ false → Same inner m
      same_inner e k i = same_own k (inr i) ∙ rw e

      not_taken : taken ≡ false → among j gs ≡ false
      not_taken e = same_own j (inl refl) ∙ rw e (among_none j (goes inner m) (λ i. apart.1 (in_left j (preorder m) (preorder n) (gone_there (slot_id records) (kind_at records) ds inner m j i))))

    abbrev Step : ℕ → Type 0
    Step k = among k gs ≡ (dropped_member (open_under records (get_or us k 0)) ds (slot_id records k) || goes_at gs (get_or us k 0))

    pub steps : (f : Forest ℕ) (u : ℕ) (b : Bool) → Climbs us u f → Distinct (preorder f) → b ≡ open_under records u → goes_at gs u ≡ false → Same b f → (k : ℕ) → k ∈ preorder f → Step k
    unfolding preorder
    steps empty u b c d eb w h k i = absurd i
    steps (node j m n) u b c d eb w h k (inl e) =
        let t = dropped_member b ds (slot_id records j) in
        rw (e, c.0, w, ← eb) (as_asked t (among j gs) (λ q. all_taken j m n b d h q j (inl refl)) (not_taken j m n b d h) ∙ sym (or-false t))
    steps (node j m n) u b c d eb w h k (inr i) =
        let z = apart j m n b d h in
        ⊎_elim
        (λ l. by_above (dropped_member b ds (slot_id records j)) (among k gs) (dropped_member (open_under records (get_or us k 0)) ds (slot_id records k)) (goes_at gs (get_or us k 0))
        (λ q. (all_taken j m n b d h q k (inr l), beneath m (suc j) c.1.0 (all_taken j m n b d h q j (inl refl)) (λ x p. all_taken j m n b d h q x (inr p)) k l))
        (λ q. steps m (suc j) (is_struct (kind_at records j)) c.1.0 z.0.0 refl (not_taken j m n b d h q) (same_inner j m n b d h q) k l))
        (λ l. steps n u b c.1.1 z.0.1 eb w (same_next j m n b d h) k l)
        (in_append k (preorder m) (preorder n) i)
