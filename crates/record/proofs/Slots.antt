-- A place is one more than a slot, or 0 for none: `search slotting`; and what is told of a place by the slot before it.
use Rattle.std.proofs.Common.{◌≡◌, ℕ, zero, suc, ◌-◌, sym, refl, ap, ◌∙◌, sub-one, arith}
use Rattle.record.specs.declared.Slot.{Slot}
use Rattle.record.specs.Answers.{FoundSlot}
use Rattle.std.specs.Prelude.{Some, None}
use Rattle.record.specs.Says.{slot_before}

pub before_none : (at : ℕ) → at ≡ 0 → None ≡ slot_before at
unfolding slot_before
before_none at e = rw e

pub before_some : (at : ℕ) → (at ≡ 0 → ⊥) → Some (record { 0 = at - 1 }) ≡ slot_before at
unfolding slot_before
before_some zero h = absurd (h refl)
before_some (suc k) h = rw (sub-one (suc k))

pub ruleset slotting = (before_none, before_some)

pub no_slot : (at : ℕ) (r : FoundSlot) → r ≡ slot_before at → r ≡ None → at ≡ 0
unfolding slot_before
no_slot zero r e q = refl
no_slot (suc k) r e q = let z : ◌≡◌ {A = ℕ} 0 1 = cc in absurd (omega arith)

pub the_slot : (at : ℕ) (r : FoundSlot) (s : Slot) → r ≡ slot_before at → r ≡ Some s → at ≡ suc s.0
unfolding slot_before
the_slot zero r s e q = let z : ◌≡◌ {A = ℕ} 0 1 = cc in absurd (omega arith)
the_slot (suc k) r s e q = let z : k ≡ s.0 = ap (λ (x : Slot). x.0) (same k s (sym e ∙ q)) in ap suc z
  where
    same : (k : ℕ) (s : Slot) → Some (record { 0 = k }) ≡ Some s → record { 0 = k } ≡ s
    same k s e = cc
