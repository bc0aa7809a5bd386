-- Where a row ends, by a loop over its trees: what is left ends where the whole ends. `search nexts`.
use mathlib.Core.Path.{◌≡◌, sym, ap, ◌∙◌}
use Prim.Native.Nat.{ℕ, ◌+◌, ◌-◌, ◌<◌, ◌≤◌}
use Rattle.paper.specs.Layout.{Part}
use Rattle.plan.specs.Walk.{walk}
use Rattle.plan.proofs.Walks.{walk_none, walk_deep, walk_past, walk_in}
use native.Mathlib.Omega.{arith}

pub next_deep : (kids : ℕ → ℕ) (n lv c k : ℕ) → lv ≡ 0 → k ≡ (walk kids n lv c k).next
next_deep kids n lv c k e = rw (walk_deep kids n lv c k e)

-- W is the whole answer.
module _ (kids : ℕ → ℕ) (n lv c k W : ℕ) (h : W ≡ (walk kids n lv c k).next) where
  pub next_goes : (m j s : ℕ) → (lv ≡ 0 → ⊥) → 0 < c → s ≡ c - 1 → k < n → m ≡ kids k → j ≡ (walk kids n (lv - 1) m (k + 1)).next → W ≡ (walk kids n lv s j).next
  next_goes m j s e f es l em ej = h ∙ ap (λ (p : Part). p.next) (walk_in kids n lv c k m e (λ z. omega arith) l em) ∙ rw (← ej, es)

  pub next_past : n ≤ k → k ≡ W
  next_past l = sym (h ∙ rw (walk_past kids n lv c k l))

  pub next_done : c ≤ 0 → k ≡ W
  next_done l = sym (h ∙ rw (walk_none kids n lv c k (omega arith)))

pub ruleset nexts = (next_deep, next_goes, next_past, next_done)
