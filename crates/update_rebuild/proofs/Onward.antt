-- Forests planned one behind the other: whatever plans the rest plans the whole.
use mathlib.Core.Path.{◌≡◌, refl}
use Prim.Native.Nat.{ℕ, suc, ◌+◌, ◌≤◌}
use native.Mathlib.Omega.{arith}
use Rattle.paper.specs.Forest.{Forest, empty, size, siblings, levels, ◌then◌}
use Rattle.laws.proofs.Written.{siblings_size}
use Rattle.laws.proofs.Preorder.{size_then, siblings_then, levels_then}
use Rattle.plan.specs.Plan.{Source}
use Rattle.plan.proofs.Laying.{laid_none, laid_then}
use Rattle.update_rebuild.specs.declared.Place.{Place}
use Rattle.update_rebuild.specs.Answers.{Step}
use Rattle.std.specs.Prelude.{Some, None}
use Rattle.update_rebuild.specs.Planned.{Whole, Over, PlannedBy, Planned}
use Rattle.plan.specs.declared.PlanRows.{PlanRows}

-- what an answer says, by its case
module _ {t : Forest Source} {d past lv i c v : ℕ} {plan plan' : PlanRows} {r : Step} (h : Planned t d past lv i c v plan r plan') where
  pub went_whole : {w : Place} → r ≡ Some w → Whole t d past lv i c v plan w plan'
  went_whole e = (rw e at h).by

  pub full_over : r ≡ None → Over t lv i
  full_over e = (rw e at h).by

pub planned_none : {past lv i c v : ℕ} {plan : PlanRows} → i ≤ 1024 → Planned empty 0 past lv i c v plan (Some (record { next = past; at = i; count = c; visited = v })) plan
unfolding size siblings levels
planned_none {i = i} {plan = plan} h = record { by = record { next = refl; at = omega arith; count = omega arith; visited = omega arith; low = omega arith; room = h; laid = laid_none i plan } }

module _ (t u : Forest Source) (d d' past' lv i c v : ℕ) (plan : PlanRows) where
  planned_then : {past : ℕ} {w : Place} {r : Step} {p₁ p₂ : PlanRows} → Whole t d past lv i c v plan w p₁ → Planned u d' past' lv w.at w.count w.visited p₁ r p₂ → Planned (t then u) (d + d') past' lv i c v plan r p₂
  planned_then {w = w} {r} {p₁} {p₂} h g = record { by = go r g.by }
    where
      go : (r : Step) → PlannedBy r u d' past' lv w.at w.count w.visited p₁ p₂ → PlannedBy r (t then u) (d + d') past' lv i c v plan p₂
      go (Some _) g =
          record {
            next = g.next;
            at = let e = size_then t u in omega (arith, h.at, g.at);
            count = let e = siblings_then t u in omega (arith, h.count, g.count);
            visited = let e = size_then t u in omega (arith, h.visited, g.visited);
            low = let e = levels_then t u in omega (arith, h.low, g.low);
            room = g.room;
            laid = laid_then t u i w.at plan p₁ p₂ h.at h.laid g.laid;
          }
      go None g = record { over = λ l m. g.over (let e = levels_then t u in omega arith) (let e = size_then t u in omega (arith, h.at)) }

planned_stops : (t u : Forest Source) (lv i : ℕ) → Over t lv i → Over (t then u) lv i
planned_stops t u lv i h = record { over = λ l m. h.over (let e = levels_then t u in omega arith) (let e = size_then t u in omega arith) }

-- As a loop: to plan u here, where d dropped members are passed, gives G.
pub record Onward (G : Step → PlanRows → Type 0) (u : Forest Source) (d past lv i c v : ℕ) (plan : PlanRows) : Type 0 where
  pub room : i ≤ 1024
  pub few : c ≤ i
  pub go : (r : Step) (plan' : PlanRows) → Planned u d past lv i c v plan r plan' → G r plan'

pub onward_starts : {t : Forest Source} {d past lv i c v : ℕ} {plan : PlanRows} → i ≤ 1024 → c ≤ i → Onward (Planned t d past lv i c v plan) t d past lv i c v plan
onward_starts h g = record { room = h; few = g; go = λ r plan' p. p }

module _ {G : Step → PlanRows → Type 0} {u : Forest Source} {d past lv i c v : ℕ} {plan : PlanRows} (on : Onward G u d past lv i c v plan) where
  pub onward_same : {t : Forest Source} {past' : ℕ} → u ≡ t → past ≡ past' → Onward G t d past' lv i c v plan
  onward_same e f = rw (e, f) at on

  -- a dropped member is passed: it is visited, and nothing is planned
  pub onward_passes : {t : Forest Source} {d' past' : ℕ} → u ≡ t → d ≡ suc d' → past ≡ past' → Onward G t d' past' lv i c (v + 1) plan
  onward_passes {t} {d'} {past'} e ed f = record { room = on.room; few = on.few; go = λ r p₂ p. on.go r p₂ (rw (e, ed, f) record { by = again r p₂ p.by }) }
    where
      again : (r : Step) (p₂ : PlanRows) → PlannedBy r t d' past' lv i c (v + 1) plan p₂ → PlannedBy r t (suc d') past' lv i c v plan p₂
      again (Some _) p₂ h = record { next = h.next; at = h.at; count = h.count; visited = omega (arith, h.visited); low = h.low; room = h.room; laid = h.laid }
      again None p₂ h = h

  pub onward_goes : {a b : Forest Source} {da db past₂ past' : ℕ} {w : Place} {p₁ : PlanRows} → u ≡ a then b → d ≡ da + db → past ≡ past' → Whole a da past₂ lv i c v plan w p₁ → Onward G b db past' lv w.at w.count w.visited p₁
  onward_goes {a} {b} {da} {db} e ed f h =
      record {
        room = h.room;
        few = let s = siblings_size a in omega (arith, h.at, h.count, on.few);
        go = λ r p₂ p. on.go r p₂ (rw (e, ed, f) (planned_then a b da db _ lv i c v plan h p));
      }

  pub onward_stops : (a b : Forest Source) {p₁ : PlanRows} → u ≡ a then b → Over a lv i → G None p₁
  onward_stops a b e h = on.go None _ (rw e record { by = planned_stops a b lv i h })

  pub onward_done : u ≡ empty → d ≡ 0 → G (Some (record { next = past; at = i; count = c; visited = v })) plan
  onward_done e ed = on.go _ plan (rw (e, ed) (planned_none on.room))
