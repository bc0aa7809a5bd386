-- A loop that looks for the lowest place at which a test fails, i counting up to n: `search looking`. W is the whole answer.
use Rattle.std.proofs.Common.{◌≡◌, ℕ, zero, suc, ◌+◌, ◌-◌, ◌<◌, ◌≤◌, Bool, true, false, not, sym, refl, ap, ◌∙◌, add-zero, suc-add, zero-add, add-one, arith}
use mathlib.Core.Option.{Option, none, some}
use borrow.Author.Tests.{not-true, not-false}
use Rattle.paper.specs.Answer.{lowest, or_else}
use Rattle.std.specs.Prelude.{Ok, Err}
use Rattle.record.specs.Says.{tested, refusal_of}

module _ (t : ℕ → Bool) where
  go_on : (i m : ℕ) → t i ≡ true → lowest t i (suc m) ≡ lowest t (suc i) m
  unfolding lowest
  go_on i m e = rw (e, lowest)

  stop : (i m : ℕ) → t i ≡ false → lowest t i (suc m) ≡ some i
  unfolding lowest
  stop i m e = rw (e, lowest)

  pub look_starts : (n : ℕ) → lowest t 0 n ≡ lowest t 0 (n - 0)
  look_starts n = let e : n - 0 ≡ n = omega arith in rw e

  pub none_yet : lowest t 0 0 ≡ none
  unfolding lowest
  none_yet = refl

  -- the lowest of two parts, one behind the other
  lowest_both : (k a b : ℕ) → lowest t k (a + b) ≡ or_else (lowest t k a) (lowest t (k + a) b)
  unfolding lowest
  lowest_both k zero b = rw (zero-add b, add-zero k)
  lowest_both k (suc a) b = let e : k + suc a ≡ suc k + a = omega arith in rw (suc-add a b, e) (at (t k) (lowest_both (suc k) a b))
    where
      at : (v : Bool) → lowest t (suc k) (a + b) ≡ or_else (lowest t (suc k) a) (lowest t (suc k + a) b)
          → ◌≡◌ {A = Option ℕ} (elim v [ true ↦ lowest t (suc k) (a + b) | false ↦ some k ]) (or_else (elim v [ true ↦ lowest t (suc k) a | false ↦ some k ]) (lowest t (suc k + a) b))
      at true h = h
      at false h = refl

  -- where none before a place fails, what is left decides
  pub look_from : (i n : ℕ) → i ≤ n → lowest t 0 i ≡ none → lowest t 0 n ≡ lowest t i (n - i)
  look_from i n l e = let d : n ≡ i + (n - i) = omega arith in ap (lowest t 0) d ∙ lowest_both 0 i (n - i) ∙ rw (e, zero-add i)

  one : (i : ℕ) → t i ≡ true → lowest t i 1 ≡ none
  unfolding lowest
  one i h = rw (h, lowest)

  -- none up to a place fails, nor does the next
  pub none_goes : (i : ℕ) → lowest t 0 i ≡ none → t i ≡ true → lowest t 0 (i + 1) ≡ none
  none_goes i e h = lowest_both 0 i 1 ∙ rw (e, zero-add i) (one i h)

  pub look_goes : (W : Option ℕ) (i n : ℕ) (r : Bool) → W ≡ lowest t i (n - i) → i < n → r ≡ t i → not r ≡ false → W ≡ lowest t (i + 1) (n - (i + 1))
  look_goes W i n r e l q b = let d : n - i ≡ suc (n - (i + 1)) = omega arith in e ∙ rw (d, go_on i (n - (i + 1)) (sym q ∙ not-false r b), add-one i)

  pub look_stops : (number li : ℕ) (W : Option ℕ) (i n : ℕ) (r : Bool) → W ≡ lowest t i (n - i) → i < n → r ≡ t i → not r ≡ true → Err (refusal_of number li i) ≡ tested number li W
  unfolding tested
  look_stops number li W i n r e l q b = let d : n - i ≡ suc (n - (i + 1)) = omega arith in rw (e, d, stop i (n - (i + 1)) (sym q ∙ not-true r b))

  pub look_ends : (number li : ℕ) (W : Option ℕ) (i n : ℕ) → W ≡ lowest t i (n - i) → n ≤ i → (Ok tt) ≡ tested number li W
  unfolding lowest tested
  look_ends number li W i n e l = let d : n - i ≡ 0 = omega arith in rw (e, d)

pub ruleset looking = (look_starts, look_from, look_goes, look_stops, look_ends)
