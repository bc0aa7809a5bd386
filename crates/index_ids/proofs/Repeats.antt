-- The lowest match below each slot gives `repeated`, and the lowest match `place_of`: a chain answers what the paper asks.
use mathlib.Core.Path.{◌≡◌, refl, sym, ap, ◌∙◌}
use mathlib.Core.Bool.{Bool, true, false, not, ◌||◌, cond}
use mathlib.Core.List.{List, [], ◌∷◌}
use mathlib.Core.Option.{Option, none, some}
use Prim.Native.Nat.{ℕ, zero, suc, ◌+◌}
use native.Mathlib.Nat.{add-zero, zero-add}
use native.Mathlib.Omega.{arith}
use lib.Dec.{eqb}
use borrow.Author.Tests.{ne_eqb}
use Rattle.paper.specs.Answer.{any, lowest, or_else, place_of, repeated}
use Rattle.paper.specs.Bytes.{from}
use Rattle.laws.proofs.Basics.{or_else_none}
use Rattle.index_ids.specs.Chain.{pick, lowest_below, new_at}
use Rattle.index_ids.proofs.Chains.{below_zero, below_suc}

-- What the slots below k have, from the last down.
abbrev pub down : {A : Type 0} → (ℕ → A) → ℕ → List A
down f zero = []
down f (suc k) = f k ∷ down f k

below_some : (p : ℕ → Bool) (m k : ℕ) → eqb (lowest_below p (suc m) k) 0 ≡ false
below_some p m zero = rw (below_zero p (suc m)) (ne_eqb (suc m) 0 (λ z. omega arith))
below_some p m (suc k) = rw (below_suc p (suc m) k) (go (p k) (λ i. below_some p i k))
  where
    go : (t : Bool) → ((i : ℕ) → eqb (lowest_below p (suc i) k) 0 ≡ false) → eqb (lowest_below p (pick t (suc k) (suc m)) k) 0 ≡ false
    go true h = h k
    go false h = h m

module _ {A : Type 0} (t : A → A → Bool) (f : ℕ → A) where
  any_below : (x : A) (k : ℕ) → any (t x) (down f k) ≡ not (eqb (lowest_below (λ j. t x (f j)) 0 k) 0)
  any_below x zero = rw (below_zero (λ j. t x (f j)) 0)
  any_below x (suc k) = rw (below_suc (λ j. t x (f j)) 0 k) (go (t x (f k)) (any_below x k))
    where
      go : (b : Bool) → any (t x) (down f k) ≡ not (eqb (lowest_below (λ j. t x (f j)) 0 k) 0) → (b || any (t x) (down f k)) ≡ not (eqb (lowest_below (λ j. t x (f j)) (pick b (suc k) 0) k) 0)
      go true h = rw (below_some (λ j. t x (f j)) k k)
      go false h = h

  pub repeats : (k m : ℕ) → repeated t (down f k) k (from f k m) ≡ lowest (new_at (λ i j. t (f i) (f j))) k m
  unfolding from lowest
  repeats k zero = refl
  repeats k (suc m) = rw (any_below (f k) k) (go (new_at (λ i j. t (f i) (f j)) k) (repeats (suc k) m))
    where
      go : (b : Bool) → repeated t (down f (suc k)) (suc k) (from f (suc k) m) ≡ lowest (new_at (λ i j. t (f i) (f j))) (suc k) m
          → cond (not b) (some k) (repeated t (down f (suc k)) (suc k) (from f (suc k) m)) ≡ elim b [ true ↦ lowest (new_at (λ i j. t (f i) (f j))) (suc k) m | false ↦ some k ]
      go true h = h
      go false h = refl

-- A place as a found slot.
abbrev pub slot_at : ℕ → Option ℕ
slot_at zero = none
slot_at (suc k) = some k

module _ {A : Type 0} (t : A → Bool) (f : ℕ → A) where
  abbrev here : ℕ → Option ℕ
  here k = cond (t (f k)) (some k) none

  place_snoc : (k m : ℕ) → place_of t k (from f k (suc m)) ≡ or_else (place_of t k (from f k m)) (here (k + m))
  unfolding from
  place_snoc k zero = rw (add-zero k)
  place_snoc k (suc m) = go (t (f k)) (let e : k + suc m ≡ suc k + m = omega arith in rw e (place_snoc (suc k) m))
    where
      go : (b : Bool) → place_of t (suc k) (from f (suc k) (suc m)) ≡ or_else (place_of t (suc k) (from f (suc k) m)) (here (k + suc m))
          → cond b (some k) (place_of t (suc k) (from f (suc k) (suc m))) ≡ or_else (cond b (some k) (place_of t (suc k) (from f (suc k) m))) (here (k + suc m))
      go true h = refl
      go false h = h

  or_assoc : (x y z : Option ℕ) → or_else (or_else x y) z ≡ or_else x (or_else y z)
  or_assoc none y z = refl
  or_assoc (some a) y z = refl

  below_place : (best k : ℕ) → slot_at (lowest_below (λ j. t (f j)) best k) ≡ or_else (place_of t 0 (from f 0 k)) (slot_at best)
  unfolding from
  below_place best zero = rw (below_zero (λ j. t (f j)) best)
  below_place best (suc k) =
      rw (below_suc (λ j. t (f j)) best k, place_snoc 0 k, zero-add k)
      (below_place (pick (t (f k)) (suc k) best) k ∙ rw (or_assoc (place_of t 0 (from f 0 k)) (here k) (slot_at best)) (ap (λ z. or_else (place_of t 0 (from f 0 k)) z) (go (t (f k)))))
    where
      go : (b : Bool) → slot_at (pick b (suc k) best) ≡ or_else (cond b (some k) none) (slot_at best)
      go true = refl
      go false = refl

  pub found_below : (k : ℕ) → slot_at (lowest_below (λ j. t (f j)) 0 k) ≡ place_of t 0 (from f 0 k)
  found_below k = below_place 0 k ∙ or_else_none (place_of t 0 (from f 0 k))

  -- some slot passes the test, or none does
  any_place : (k m : ℕ) → any t (from f k m) ≡ elim (place_of t k (from f k m)) [ none ↦ false | some j ↦ true ]
  unfolding from
  any_place k zero = refl
  any_place k (suc m) = go (t (f k)) (any_place (suc k) m)
    where
      go : (b : Bool) → any t (from f (suc k) m) ≡ elim (place_of t (suc k) (from f (suc k) m)) [ none ↦ false | some j ↦ true ]
          → (b || any t (from f (suc k) m)) ≡ elim (cond b (some k) (place_of t (suc k) (from f (suc k) m))) [ none ↦ false | some j ↦ true ]
      go true h = refl
      go false h = h

  pub any_found : (k r : ℕ) → r ≡ lowest_below (λ j. t (f j)) 0 k → any t (from f 0 k) ≡ not (eqb r 0)
  any_found k r e = any_place 0 k ∙ ap (λ (o : Option ℕ). elim o [ none ↦ false | some j ↦ true ]) (sym (found_below k) ∙ ap slot_at (sym e)) ∙ go r
    where
      go : (r : ℕ) → elim (slot_at r) [ none ↦ false | some j ↦ true ] ≡ not (eqb r 0)
      go zero = refl
      go (suc r) = rw (ne_eqb (suc r) 0 (λ z. omega arith))

-- The first that fails a test, as the lowest place at which the test fails.
pub place_lowest : {A : Type 0} (t : A → Bool) (f : ℕ → A) (k m : ℕ) → place_of (λ a. not (t a)) k (from f k m) ≡ lowest (λ j. t (f j)) k m
unfolding from lowest
place_lowest t f k zero = refl
place_lowest t f k (suc m) = go (t (f k)) (place_lowest t f (suc k) m)
  where
    go : (b : Bool) → place_of (λ a. not (t a)) (suc k) (from f (suc k) m) ≡ lowest (λ j. t (f j)) (suc k) m
        → cond (not b) (some k) (place_of (λ a. not (t a)) (suc k) (from f (suc k) m)) ≡ elim b [ true ↦ lowest (λ j. t (f j)) (suc k) m | false ↦ some k ]
    go true h = h
    go false h = refl
