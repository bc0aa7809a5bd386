-- Digits from the last to the first, into the end of ten bytes: what is left to write, before what is written, is the whole text.
use mathlib.Core.Path.{◌≡◌, sym, ◌∙◌}
use mathlib.Core.List.{List, ◌∷◌}
use Prim.Native.Nat.{ℕ, suc, ◌+◌, ◌-◌, ◌/◌, ◌%◌, ◌<◌, ◌≤◌}
use native.Mathlib.Numerals.{add-one}
use native.Mathlib.Omega.{arith}
use borrow.Author.Tests.{lt-ltb, le-ltb}
use lib.ListN.{length, drop, set, length-set}
use lib.Seq.{drop-length, drop-cons, drop-set-lt, get_or-set_same}
use Rattle.paper.specs.Lister.{digits, decimal}
use Rattle.lister_lines.specs.Digits.{Ends}

pub record Counting (number start left : ℕ) (b : List ℕ) : Type 0 where
  pub inside : start < 10
  pub ten : length b ≡ 10
  pub rest : decimal number ≡ digits (start + 1) left (drop (start + 1) b)

-- A byte that is set stands before what was behind it.
drop_set : (b : List ℕ) (i v : ℕ) → i < length b → drop i (set b i v) ≡ v ∷ drop (suc i) b
drop_set b i v l =
    let o : i < length (set b i v) = simp length-set (omega arith) in
    drop-cons (set b i v) i 0 o ∙ rw (get_or-set_same b i v 0 l, drop-set-lt (suc i) b i v (omega arith))

pub count_starts : (number : ℕ) (b : List ℕ) → length b ≡ 10 → Counting number 9 number b
unfolding decimal
count_starts number b e = record { inside = omega arith; ten = e; rest = rw (← e, drop-length b) }

module _ (number start left : ℕ) (b : List ℕ) (h : Counting number start left b) where
  goes : 10 ≤ left → decimal number ≡ digits start (left / 10) (drop start (set b start (48 + left % 10)))
  unfolding digits
  goes l =
      let i = h.inside in
      let t = h.ten in
      h.rest ∙ rw (add-one start, drop_set b start (48 + left % 10) (omega arith), le-ltb left 10 l)

  pub count_goes : 10 ≤ left → (start ≡ 0 → ⊥) → Counting number (start - 1) (left / 10) (set b start (48 + left % 10))
  count_goes l q =
      let i = h.inside in
      let e : start - 1 + 1 ≡ start = omega arith in
      record { inside = omega arith; ten = simp length-set h.ten; rest = rw e (goes l) }

  pub count_full : 10 ≤ left → start ≡ 0 → Ends (decimal number) (record { bytes = set b start (48 + left % 10); start = start })
  unfolding digits
  count_full l q = record { ten = simp length-set h.ten; inside = h.inside; holds = sym (goes l ∙ rw q) }

  pub count_ends : left < 10 → Ends (decimal number) (record { bytes = set b start (48 + left); start = start })
  unfolding digits
  count_ends l =
      let i = h.inside in
      let t = h.ten in
      record { ten = simp length-set h.ten; inside = i; holds = drop_set b start (48 + left) (omega arith) ∙ sym (h.rest ∙ rw (add-one start, lt-ltb left 10 l)) }

pub ruleset counting = (count_starts, count_goes, count_full, count_ends)
