-- Going up from a slot by the places above: each place is that of the record that holds it, and in a tree that was read there are at
-- most 16.
use Prim.Native.Nat.{ℕ, zero, suc, ◌+◌, ◌-◌, ◌<◌, ◌≤◌}
use mathlib.Core.Path.{◌≡◌, refl, ap, subst, ◌∙◌}
use mathlib.Core.Logic.{inl, inr, ⊎_elim}
use mathlib.Core.Bool.{true}
use mathlib.Core.List.{List, ◌∷◌, ◌++◌}
use native.Mathlib.Nat.{zero-add}
use native.Mathlib.Numerals.{sub-one}
use native.Mathlib.Omega.{arith}
use lib.ListN.{get_or}
use Rattle.paper.specs.Forest.{Forest, empty, node, size, levels, preorder}
use Rattle.paper.specs.Layout.{roots}
use Rattle.laws.specs.Members.{◌∈◌}
use Rattle.laws.proofs.Agreeing.{Agrees, agrees_first, agrees_left, agrees_right}
use Rattle.laws.proofs.Basics.{in_append}
use Rattle.laws.proofs.Finding.{in_from}
use Rattle.laws.proofs.Taken.{Took, roots_take}
use Rattle.tree.specs.Read.{got, fine, itself}
use Rattle.tree.proofs.Filled.{laid_slots}
use Rattle.tree.proofs.Steps.{fine_got}
use Rattle.plan.specs.Walk.{trees_of}
use Rattle.plan.proofs.Walks.{Numbered, all_numbered, all_there, roots_are}
use Rattle.index_names.specs.Full.{ups}
use Rattle.index_names.proofs.Marking.{length_ups}

-- Each slot of a forest has in `us` the place above it: u, or that of the record that holds it.
abbrev pub Climbs : List ℕ → ℕ → Forest ℕ → Type 0
Climbs us u empty = Unit {0}
Climbs us u (node k m n) = (get_or us k 0 ≡ u) × (Climbs us (suc k) m × Climbs us u n)

climbs_told : (us : List ℕ) (f : Forest ℕ) (k u : ℕ) → Numbered k f → Agrees (λ i. get_or us i 0) 0 k (size f) (ups u f) → Climbs us u f
unfolding ups size
climbs_told us empty k u nd ag = tt
climbs_told us (node j m n) k u nd ag =
    let e : j ≡ k = nd.0 in
    let G : ℕ → ℕ = λ i. get_or us i 0 in
    let h : Agrees G 0 k (suc (size m + size n)) (u ∷ (ups (suc k) m ++ ups u n)) = subst (λ t. Agrees G 0 k (suc (size m + size n)) (u ∷ (ups (suc t) m ++ ups u n))) e ag in
    let l = length_ups (suc k) m in
    rw e
    (agrees_first G 0 k (size m) (size n) u (ups (suc k) m) (ups u n) h, (climbs_told us m (suc k) (suc k) nd.1.0 (agrees_left G 0 k (size m) (size n) u (ups (suc k) m) (ups u n) h l), climbs_told us n (suc k + size m) u nd.1.1 (agrees_right G 0 k (size m) (size n) u (ups (suc k) m) (ups u n) h l)))

-- ---- how far up it is

-- The place that so many steps up lead to.
unfoldable pub risen : (us : List ℕ) (steps place : ℕ) → ℕ
risen us zero u = u
risen us (suc s) zero = 0
risen us (suc s) (suc k) = risen us s (get_or us k 0)

module _ (us : List ℕ) where
  a_step : (j u s : ℕ) → get_or us j 0 ≡ u → ((t : ℕ) → s ≤ t → risen us t u ≡ 0) → (t : ℕ) → suc s ≤ t → risen us t (suc j) ≡ 0
  unfolding risen
  a_step j u s e h zero l = absurd (omega arith)
  a_step j u s e h (suc t) l = rw e (h t (omega arith))

  -- Above each record there are fewer levels than the forest has, and those above the forest.
  levels_up : (f : Forest ℕ) (u s : ℕ) → Climbs us u f → ((t : ℕ) → s ≤ t → risen us t u ≡ 0) → (t : ℕ) → levels f + s ≤ t → (k : ℕ) → k ∈ preorder f → risen us t (suc k) ≡ 0
  unfolding preorder levels
  levels_up empty u s c h t l k i = absurd i
  levels_up (node j m n) u s c h t l k (inl e) = rw e (a_step j u s c.0 h t (omega arith))
  levels_up (node j m n) u s c h t l k (inr i) =
      ⊎_elim
      (λ q. levels_up m (suc j) (suc s) c.1.0 (a_step j u s c.0 h) t (omega arith) k q)
      (λ q. levels_up n u s c.1.1 h t (omega arith) k q)
      (in_append k (preorder m) (preorder n) i)

  nothing_up : (t : ℕ) → risen us t 0 ≡ 0
  unfolding risen
  nothing_up zero = refl
  nothing_up (suc t) = refl

  -- a place that is not yet at the top has a step left, and a step less is left of the place above
  pub rising_left : (s k : ℕ) → risen us s (suc k) ≡ 0 → 1 ≤ s
  unfolding risen
  rising_left zero k e = absurd (omega arith)
  rising_left (suc s) k e = omega arith

  pub rising_on : (s k : ℕ) → risen us s (suc k) ≡ 0 → risen us (s - 1) (get_or us k 0) ≡ 0
  unfolding risen
  rising_on zero k e = absurd (omega arith)
  rising_on (suc s) k e = rw (sub-one (suc s)) e

-- ---- m slots, of which `us` has the places above

module _ (kids : ℕ → ℕ) (m : ℕ) (us : List ℕ) (eu : (k : ℕ) → k < m → get_or us k 0 ≡ get_or (ups 0 (trees_of kids m)) k 0) where
  pub climbs : Climbs us 0 (trees_of kids m)
  unfolding Agrees
  climbs = climbs_told us (trees_of kids m) 0 0 (all_numbered kids m) (λ i l. ap (λ j. get_or us j 0) (zero-add i) ∙ eu i (omega (arith, all_there kids m)))

module _ (list : ℕ) (kids : ℕ → ℕ) (m : ℕ) (read : fine (roots list kids m m 0) ≡ true) where
  taken : Took kids m 16 0 (got (roots list kids m m 0))
  taken = let x = roots list kids m m 0 in roots_take list kids m m 0 (got x) (fine_got x read)

  few_levels : levels (trees_of kids m) ≤ 16
  few_levels = rw (← (roots_are list kids m read)) taken.depth

  pub slot_there : (k : ℕ) → k < m → k ∈ preorder (trees_of kids m)
  slot_there k l =
      let e = roots_are list kids m read in
      rw (← e, laid_slots kids m 0 (got (roots list kids m m 0)).trees taken.laid, e, all_there kids m) (in_from itself 0 m k (omega arith) (omega arith))

  -- from the record at a slot, 16 steps lead out
  pub up_ends : (us : List ℕ) → Climbs us 0 (trees_of kids m) → (k : ℕ) → k < m → risen us 16 (suc k) ≡ 0
  up_ends us c k l = levels_up us (trees_of kids m) 0 0 c (λ t _. nothing_up us t) 16 (omega (arith, few_levels)) k (slot_there k l)
