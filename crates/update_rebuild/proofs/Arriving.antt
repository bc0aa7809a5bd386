-- The additions of one place, in entry order.
use mathlib.Core.Path.{◌≡◌, refl, sym, ap, ◌∙◌}
use mathlib.Core.Bool.{Bool, true, false, not}
use mathlib.Core.List.{List}
use Prim.Native.Nat.{ℕ, ◌+◌, ◌-◌, ◌%◌, ◌<◌, ◌≤◌}
use native.Mathlib.Omega.{arith}
use borrow.Author.Tests.{eq-eqb, eqb-true, ne_eqb, not-true, not-false}
use lib.Dec.{eqb}
use lib.ListN.{get_or}
use Rattle.paper.specs.Forest.{Forest, empty, ◌then◌}
use Rattle.paper.specs.Bytes.{turned, kids_at, from}
use Rattle.paper.specs.Rebuild.{Addition, same_parent, arriving}
use Rattle.laws.proofs.Words.{turned_twice}
use Rattle.laws.proofs.Runs.{from_step, from_done, from_all}
use Rattle.tree.specs.Read.{reads}
use Rattle.plan.specs.Plan.{Source}
use Rattle.update_rebuild.specs.declared.Place.{Place}
use Rattle.update_rebuild.specs.Answers.{Step, Under}
use Rattle.std.specs.Prelude.{Some, None}
use Rattle.std.specs.Option.{option_eq}
use Rattle.update_rebuild.specs.Sources.{parent, added_tree, addition_at, additions}
use Rattle.update_rebuild.specs.Planned.{Planned, Resolved, Word}
use Rattle.update_rebuild.proofs.Onward.{Onward, onward_starts, onward_same, onward_goes, onward_stops, onward_done, went_whole, full_over}
use Rattle.plan.specs.declared.PlanRows.{PlanRows}

-- ---- equal places are equal parents

same_as : (u q : Under) → Word u → Word q → same_parent (parent u) (parent q) ≡ option_eq eqb u q
unfolding parent
same_as None None h g = refl
same_as None (Some y) h g = refl
same_as (Some x) None h g = refl
same_as (Some x) (Some y) h g = go (eqb x y) refl
  where
    go : (b : Bool) → eqb x y ≡ b → eqb (turned x) (turned y) ≡ b
    go true e = let z = eqb-true x y e in eq-eqb (turned x) (turned y) (ap turned z)
    go false e = ne_eqb (turned x) (turned y) (λ d. let z : eqb x y ≡ true = eq-eqb x y (sym (turned_twice x (h x refl)) ∙ ap turned d ∙ turned_twice y (g y refl)) in let t : true ≡ false = sym z ∙ e in let w : ◌≡◌ {A = ℕ} 0 1 = cc in omega arith)

-- Of a first id the low 32 bits count.
pub low_tree : (added : List ℕ) (n k x : ℕ) → added_tree added n k (x % 4294967296) ≡ added_tree added n k x
unfolding added_tree turned
low_tree added n k x = let e : (x % 4294967296 + 2147483648) % 4294967296 ≡ (x + 2147483648) % 4294967296 = omega arith in rw e

module _ (added : List ℕ) (n : ℕ) (unders : List Under) (firsts starts : List ℕ) (total : ℕ) (q : Under) where
  abbrev at_place : ℕ → Addition Source
  at_place = addition_at added n unders firsts starts

  -- what arrives of the additions, and what from the j-th on
  abbrev all : Forest Source
  all = arriving (additions added n unders firsts starts total) (parent q)

  unfoldable pub arriving_from : ℕ → Forest Source
  arriving_from j = arriving (from at_place j (total - j)) (parent q)

  rest_none : (j : ℕ) → total ≤ j → arriving_from j ≡ empty
  unfolding arriving arriving_from
  rest_none j l = rw (from_done at_place j total l)

  rest_other : (j : ℕ) → j < total → Word (get_or unders j None) → Word q → option_eq eqb (get_or unders j None) q ≡ false → arriving_from j ≡ arriving_from (j + 1)
  unfolding arriving arriving_from
  rest_other j l hu hq h = rw (from_step at_place j total l, same_as (get_or unders j None) q hu hq, h)

  rest_here : (j : ℕ) → j < total → Word (get_or unders j None) → Word q → option_eq eqb (get_or unders j None) q ≡ true → arriving_from j ≡ added_tree added n (get_or firsts j 0) (get_or starts j 0) then arriving_from (j + 1)
  unfolding arriving arriving_from
  rest_here j l hu hq h = rw (from_step at_place j total l, same_as (get_or unders j None) q hu hq, h)

  rest_all : all ≡ arriving_from 0
  unfolding additions arriving_from
  rest_all = rw (from_all at_place total)

  module _ (past lv i c v : ℕ) (plan : PlanRows) where
    -- whatever plans what arrives from the j-th addition on plans all that arrives
    pub record Rest (j : ℕ) (here : Place) (plan' : PlanRows) : Type 0 where
      pub on : Onward (Planned all 0 past lv i c v plan) (arriving_from j) 0 here.next lv here.at here.count here.visited plan'
      pub seen : here.visited ≤ here.at + 1024

    pub all_starts : i ≤ 1024 → c ≤ i → v ≤ i + 1024 → Rest 0 (record { next = past; at = i; count = c; visited = v }) plan
    all_starts h g s = record { on = onward_same (onward_starts h g) rest_all refl; seen = s }

    module _ (j : ℕ) (here : Place) (p₁ : PlanRows) (h : Rest j here p₁) where
      pub all_skips : Resolved added n unders firsts total → Word q → j < total → {b : Bool} → b ≡ not (option_eq eqb (get_or unders j None) q) → b ≡ true → Rest (j + 1) here p₁
      all_skips r hq l eb d = record { on = onward_same h.on (rest_other j l (r.under j l) hq (not-true _ (sym eb ∙ d))) refl; seen = h.seen }

      pub all_done : total ≤ j → Planned all 0 past lv i c v plan (Some here) p₁
      all_done l = onward_done h.on (rest_none j l) refl

      module _ (k id : ℕ) (r : Step) (p₂ : PlanRows) (f : Resolved added n unders firsts total) (hq : Word q) (l : j < total) {b : Bool} (eb : b ≡ not (option_eq eqb (get_or unders j None) q)) (e : b ≡ false) (ek : k ≡ get_or firsts j 0) (ei : id ≡ get_or starts j 0) (p : Planned (added_tree added n k id) 0 here.next lv here.at here.count here.visited p₁ r p₂) where
        first : arriving_from j ≡ added_tree added n k id then arriving_from (j + 1)
        first = rw (ek, ei) (rest_here j l (f.under j l) hq (not-false _ (sym eb ∙ e)))

        pub all_goes : (w : Place) → r ≡ Some w → Rest (j + 1) w p₂
        all_goes w er =
            let u = went_whole p er in
            record { on = onward_goes h.on first refl (sym u.next) u; seen = omega (arith, u.at, u.visited, h.seen) }

        pub all_stops : r ≡ None → Planned all 0 past lv i c v plan None p₂
        all_stops er = onward_stops h.on (added_tree added n k id) (arriving_from (j + 1)) first (full_over p er)

      -- the same of an addition that begins at the low 32 bits of its first id
      module _ (k id : ℕ) (r : Step) (p₂ : PlanRows) (f : Resolved added n unders firsts total) (hq : Word q) (l : j < total) {b : Bool} (eb : b ≡ not (option_eq eqb (get_or unders j None) q)) (e : b ≡ false) (ek : k ≡ get_or firsts j 0) (ei : id ≡ get_or starts j 0 % 4294967296) (p : Planned (added_tree added n k id) 0 here.next lv here.at here.count here.visited p₁ r p₂) where
        whole : Planned (added_tree added n k (get_or starts j 0)) 0 here.next lv here.at here.count here.visited p₁ r p₂
        whole = rw (← low_tree added n k (get_or starts j 0), ← ei) p

        pub low_goes : (w : Place) → r ≡ Some w → Rest (j + 1) w p₂
        low_goes = all_goes k (get_or starts j 0) r p₂ f hq l eb e ek refl whole

        pub low_stops : r ≡ None → Planned all 0 past lv i c v plan None p₂
        low_stops = all_stops k (get_or starts j 0) r p₂ f hq l eb e ek refl whole

pub resolved_first : (added : List ℕ) (n : ℕ) (unders : List Under) (firsts : List ℕ) (total j k : ℕ) → Resolved added n unders firsts total → j < total → k ≡ get_or firsts j 0 → k ≤ n
resolved_first added n unders firsts total j k h l e = rw e (h.first j l)

pub resolved_tree : (added : List ℕ) (n : ℕ) (unders : List Under) (firsts : List ℕ) (total j k : ℕ) → Resolved added n unders firsts total → j < total → k ≡ get_or firsts j 0 → reads 1 (kids_at added) n 16 1 k ≡ true
resolved_tree added n unders firsts total j k h l e = rw e (h.tree j l)

pub ruleset arrivals = (resolved_first, resolved_tree, all_starts, all_skips, all_done, all_goes, all_stops, low_goes, low_stops)
