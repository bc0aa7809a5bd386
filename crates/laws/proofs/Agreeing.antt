-- What stands at m places, from k on, is a list. So it is of the parts of a list.
use Prim.Native.Nat.{ℕ, suc, ◌+◌, ◌<◌}
use mathlib.Core.Path.{◌≡◌, ap, sym, ◌∙◌}
use mathlib.Core.List.{List, ◌∷◌, ◌++◌}
use native.Mathlib.Nat.{add-zero}
use native.Mathlib.Omega.{arith}
use lib.ListN.{length, get_or, get_or-append}
use lib.Seq.{get_or-append-add}

module _ {A : Type 0} (G : ℕ → A) (d : A) where
  unfoldable pub Agrees : ℕ → ℕ → List A → Type 0
  Agrees k m xs = (i : ℕ) → i < m → G (k + i) ≡ get_or xs i d

  module _ (k m m' : ℕ) (x : A) (xs ys : List A) (h : Agrees k (suc (m + m')) (x ∷ (xs ++ ys))) where
    pub agrees_first : G k ≡ x
    unfolding Agrees
    agrees_first = ap G (sym (add-zero k)) ∙ h 0 (omega arith)

    pub agrees_left : length xs ≡ m → Agrees (suc k) m xs
    unfolding Agrees
    agrees_left e i l =
        let a : suc k + i ≡ k + suc i = omega arith in
        rw a (h (suc i) (omega arith) ∙ get_or-append xs ys d i (omega arith))

    pub agrees_right : length xs ≡ m → Agrees (suc k + m) m' ys
    unfolding Agrees
    agrees_right e i l =
        let a : suc k + m + i ≡ k + suc (length xs + i) = omega arith in
        rw a (h (suc (length xs + i)) (omega arith) ∙ get_or-append-add xs ys i d)
