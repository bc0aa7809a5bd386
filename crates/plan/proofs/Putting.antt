-- Bytes one after another, `search putting`.
use Prim.Native.Nat.{ℕ, suc, ◌+◌, ◌<◌, ◌≤◌}
use mathlib.Core.Path.{◌≡◌, sym, ap, ◌∙◌}
use mathlib.Core.List.{List}
use native.Mathlib.Nat.{add-zero}
use native.Mathlib.Numerals.{add-one}
use native.Mathlib.Omega.{arith}
use lib.ListN.{length, set, drop, get_or}
use lib.Seq.{sets, drop-cons, drop-length}

module _ (W : List ℕ) (at : ℕ) (src : List ℕ) (i : ℕ) (out : List ℕ) (e : W ≡ sets out (at + i) (drop i src)) where
  pub put_goes : (n : ℕ) → n ≡ length src → i < n → W ≡ sets (set out (at + i) (get_or src i 0)) (at + (i + 1)) (drop (i + 1) src)
  put_goes n en l = let d : at + (i + 1) ≡ suc (at + i) = omega arith in e ∙ rw (d, add-one i, drop-cons src i 0 (omega arith))

  pub put_ends : (n : ℕ) → n ≡ length src → n ≤ i → i ≤ n → out ≡ W
  put_ends n en l l' = let d : i ≡ length src = omega arith in sym (e ∙ ap (λ (z : List ℕ). sets out (at + i) z) (ap (λ (z : ℕ). drop z src) d ∙ drop-length src))

pub put_starts : (at : ℕ) (src out : List ℕ) → sets out at src ≡ sets out (at + 0) (drop 0 src)
put_starts at src out = rw (add-zero at)

pub ruleset putting = (put_starts, put_goes, put_ends)
