-- The records of an added tree, one after the other: a store behind a run is a longer run.
use mathlib.Core.Path.{◌≡◌, refl}
use Prim.Native.Nat.{ℕ, ◌+◌, ◌-◌, ◌%◌, ◌<◌, ◌≤◌}
use native.Mathlib.Omega.{arith}
use Rattle.paper.specs.Bytes.{turned, from}
use Rattle.laws.proofs.Runs.{from_more}
use Rattle.plan.specs.Table.{sources, numbers, members, planned_at}
use Rattle.update_rebuild.specs.Planned.{AddedIn}
use Rattle.plan.specs.declared.PlanRows.{PlanRows}

-- The bits count on, and start again at 0.
bits_on : (id k d c x : ℕ) → c ≡ id → x ≡ (c + d) % 4294967296 → x ≡ turned (turned id + (k + d - k))
unfolding turned
bits_on id k d c x ec ex = omega arith

pub record Adding (kids : ℕ → ℕ) (k n id : ℕ) (plan : PlanRows) (at i : ℕ) (plan' : PlanRows) : Type 0 where
  pub within : i ≤ n
  pub added : AddedIn kids k i (turned id) plan at plan'

module _ (kids : ℕ → ℕ) (k n id : ℕ) (plan : PlanRows) (at : ℕ) where
  pub add_starts : Adding kids k n id plan at 0 plan
  unfolding from
  add_starts = record { within = omega arith; added = record { sources_set = refl; numbers_set = refl; members_set = refl } }

  module _ (i : ℕ) (p₁ : PlanRows) (h : Adding kids k n id plan at i p₁) where
    pub add_goes : (m x : ℕ) (p₂ : PlanRows) → i < n → m ≡ kids (k + i) → x ≡ (id + i) % 4294967296 → p₂ ≡ planned_at p₁ (at + i) (1024 + (k + i)) x m → Adding kids k n id plan at (i + 1) p₂
    add_goes m x p₂ l em ex e =
        let a = h.added in
        record {
          within = omega arith;
          added = rw e record {
            sources_set = rw a.sources_set (from_more (λ j. 1024 + j) (sources plan) at k i);
            numbers_set = rw (a.numbers_set, bits_on id k i id x refl ex) (from_more (λ j. turned (turned id + (j - k))) (numbers plan) at k i);
            members_set = rw (a.members_set, em) (from_more kids (members plan) at k i);
          };
        }

    pub add_ends : n ≤ i → AddedIn kids k n (turned id) plan at p₁
    add_ends l = let d : i ≡ n = omega (arith, h.within) in rw d at h.added

pub ruleset adding = (add_starts, add_goes, add_ends)
