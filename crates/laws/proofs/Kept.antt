-- What a test finds in a list, and keeps of it: elements that pass it, and each that does.
use mathlib.Core.Path.{◌≡◌, refl, sym, subst, ap, ◌∙◌}
use mathlib.Core.Logic.{inl, inr}
use mathlib.Core.Bool.{Bool, true, false, cond, true≢false}
use mathlib.Core.List.{List, [], ◌∷◌}
use mathlib.Core.Option.{none, some}
use Rattle.paper.specs.Answer.{find, keep}
use Rattle.laws.specs.Members.{◌∈◌}
use Rattle.laws.proofs.Basics.{none≢some, some_is, cond_none}

module _ {A : Type 0} (t : A → Bool) where
  abbrev Passed : List A → A → Type 0
  Passed s x = (x ∈ s) × (t x ≡ true)

  pub found_in : (s : List A) (x : A) → find t s ≡ some x → Passed s x
  found_in [] x e = absurd (none≢some e)
  found_in (y ∷ s) x e = go (t y) refl e (found_in s x)
    where
      go : (b : Bool) → t y ≡ b → cond b (some y) (find t s) ≡ some x → (find t s ≡ some x → Passed s x) → Passed (y ∷ s) x
      go true q h f = let z : y ≡ x = some_is h in (inl (sym z), subst (λ w. t w ≡ true) z q)
      go false q h f = let k = f h in (inr k.0, k.1)

  pub none_found : (s : List A) → find t s ≡ none → (x : A) → x ∈ s → t x ≡ true → ⊥
  none_found [] e x h p = h
  none_found (y ∷ s) e x (inl q) p = true≢false (sym p ∙ ap t q ∙ (cond_none (t y) y (find t s) e).0)
  none_found (y ∷ s) e x (inr h) p = none_found s (cond_none (t y) y (find t s) e).1 x h p

  pub kept_in : (s : List A) (x : A) → x ∈ keep t s → Passed s x
  kept_in [] x h = absurd h
  kept_in (y ∷ s) x h = go (t y) refl h (kept_in s x)
    where
      go : (b : Bool) → t y ≡ b → x ∈ cond b (y ∷ keep t s) (keep t s) → (x ∈ keep t s → Passed s x) → Passed (y ∷ s) x
      go true q (inl e) f = (inl e, rw e q)
      go true q (inr h) f = let k = f h in (inr k.0, k.1)
      go false q h f = let k = f h in (inr k.0, k.1)

  pub in_kept : (s : List A) (x : A) → x ∈ s → t x ≡ true → x ∈ keep t s
  in_kept [] x h p = h
  in_kept (y ∷ s) x (inl e) p = rw (← e, p) (inl refl)
  in_kept (y ∷ s) x (inr h) p = go (t y) (in_kept s x h p)
    where
      go : (b : Bool) → x ∈ keep t s → x ∈ cond b (y ∷ keep t s) (keep t s)
      go true k = inr k
      go false k = k
