-- A loop that sums up n numbers below a bound: what is summed and what is left make the whole. `search summing`.
use mathlib.Core.Path.{◌≡◌}
use Prim.Native.Nat.{ℕ, suc, ◌+◌, ◌-◌, ◌*◌, ◌<◌, ◌≤◌}
use native.Mathlib.Numerals.{add-one}
use native.Mathlib.Omega.{arith}
use Rattle.paper.specs.Limits.{sum_from}

-- after i of n numbers
pub record Summed (g : ℕ → ℕ) (n i sum : ℕ) : Type 0 where
  pub within : i ≤ n
  pub few : sum ≤ i * 255
  pub whole : sum + sum_from g i (n - i) ≡ sum_from g 0 n

module _ (g : ℕ → ℕ) (n : ℕ) where
  pub sum_starts : Summed g n 0 0
  sum_starts = let e : n - 0 ≡ n = omega arith in record { within = omega arith; few = omega arith; whole = rw e (omega arith) }

  module _ (i sum : ℕ) (h : Summed g n i sum) where
    pub sum_goes : (x : ℕ) → i < n → x ≡ g i → x ≤ 255 → Summed g n (i + 1) (sum + x)
    unfolding sum_from
    sum_goes x l e b =
        let d : n - i ≡ suc (n - suc i) = omega arith in
        let w : sum + sum_from g i (suc (n - suc i)) ≡ sum_from g 0 n = rw d at h.whole in
        record { within = omega arith; few = omega (arith, h.few); whole = rw (add-one i, e) (omega (arith, w)) }

    pub sum_ends : n ≤ i → sum ≡ sum_from g 0 n
    unfolding sum_from
    sum_ends l = let d : n - i ≡ 0 = omega arith in let w : sum + sum_from g i 0 ≡ sum_from g 0 n = rw d at h.whole in omega (arith, w)

pub ruleset summing = (sum_starts, sum_goes, sum_ends)
