-- What the rebuild's verdict says of the tree that it planned.
use Prim.Native.Nat.{ℕ, ◌+◌}
use mathlib.Core.Path.{◌≡◌, refl, sym, ◌∙◌}
use mathlib.Core.Bool.{Bool, true, false}
use native.Mathlib.Omega.{arith}
use Rattle.paper.specs.Forest.{Forest, size, siblings}
use Rattle.plan.specs.Plan.{Source}
use Rattle.update_rebuild.specs.declared.Place.{Place}
use Rattle.update_rebuild.specs.Answers.{Step}
use Rattle.std.specs.Prelude.{Some, None}
use Rattle.update_rebuild.specs.Planned.{fits, verdict}

pub verdict_went : (n k : ℕ) (t : Forest Source) (r : Step) (w : Place) → r ≡ verdict n k t → r ≡ Some w → (fits t ≡ true) × (w.at ≡ size t) × (w.visited ≡ size t + k)
unfolding verdict
verdict_went n k t r w e d = go (fits t) refl
  where
    go : (f : Bool) → fits t ≡ f → (fits t ≡ true) × (w.at ≡ size t) × (w.visited ≡ size t + k)
    go true q = let z : Some w ≡ Some (record { next = n; at = size t; count = siblings t; visited = size t + k }) = sym d ∙ (rw q at e) in (q, cc, cc)
    go false q = let z : Some w ≡ None = sym d ∙ (rw q at e) in absurd (let y : ◌≡◌ {A = ℕ} 0 1 = cc in omega arith)

pub verdict_full : (n k : ℕ) (t : Forest Source) (r : Step) → r ≡ verdict n k t → r ≡ None → fits t ≡ false
unfolding verdict
verdict_full n k t r e d = go (fits t) refl
  where
    go : (f : Bool) → fits t ≡ f → fits t ≡ false
    go false q = q
    go true q = let z : ◌≡◌ {A = Step} None (Some (record { next = n; at = size t; count = siblings t; visited = size t + k })) = sym d ∙ (rw q at e) in absurd (let y : ◌≡◌ {A = ℕ} 0 1 = cc in omega arith)
