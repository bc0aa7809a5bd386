-- Of trees that stand there the first has its inside after it, and the rest follow. `search standing`.
use mathlib.Core.Path.{◌≡◌, refl, sym, ap}
use mathlib.Core.Logic.{⊎_elim}
use mathlib.Core.List.{List}
use Prim.Native.Nat.{ℕ, zero, suc, ◌+◌, ◌-◌, ◌*◌, ◌<◌, ◌≤◌}
use native.Mathlib.Omega.{arith}
use lib.ListN.{length}
use Rattle.paper.specs.Forest.{size}
use Rattle.paper.specs.Bytes.{kids_at, slots}
use Rattle.paper.specs.Layout.{Part, nothing, before}
use Rattle.tree.specs.Read.{Rowed}
use Rattle.tree.proofs.Filled.{Full, lt_or_le}
use Rattle.tree.proofs.Steps.{part_none, part_in, part_full, no_deep, no_past, reads_inner, reads_rest}
use Rattle.tree_walk.specs.There.{row_of, There}

above_zero : (i : ℕ) → (i ≡ 0 → ⊥) → 0 < i
above_zero zero q = absurd (q refl)
above_zero (suc i) q = omega arith

-- Of `count` siblings so many are left while fewer are passed.
pub left_some : {passed count : ℕ} → passed < count → 0 < count - passed
left_some l = omega arith

pub left_none : {passed count : ℕ} → count ≤ passed → count - passed ≤ 0
left_none l = omega arith

pub left_less : (passed count : ℕ) → count - (passed + 1) ≡ count - passed - 1
left_less passed count = omega arith

pub there_row : (s : List ℕ) (lv c k : ℕ) → There s lv c k → Rowed 0 s (slots s) lv c k
there_row s lv c k h = record { whole = omega arith; small = h.few; within = h.within; read = h.read }

module _ (s : List ℕ) (lv c k : ℕ) where
  pub none_there : c ≤ 0 → row_of s lv c k ≡ nothing k
  none_there l = part_none 0 (kids_at s) (slots s) lv c k (omega arith)

  module _ (h : There s lv c k) where
    pub there_full : Full (kids_at s) (slots s) c k (row_of s lv c k)
    there_full = part_full 0 (kids_at s) (slots s) lv c k h.read

    pub there_past : (row_of s lv c k).next ≤ slots s
    there_past = there_full.most h.within

    module _ (l : 0 < c) where
      some_left : c ≡ 0 → ⊥
      some_left e = omega arith

      pub level_left : 0 < lv
      level_left = above_zero lv (no_deep 0 (kids_at s) (slots s) lv c k h.read some_left)

      -- a call for the inside, by a measure that is the levels left
      pub level_falls : (t : ℕ) → lv ≡ t → lv - 1 < t
      level_falls t e = let a = level_left in omega arith

      pub record_left : k < slots s
      record_left = ⊎_elim (λ q. q) (λ q. absurd (no_past 0 (kids_at s) (slots s) lv c k h.read some_left q)) (lt_or_le k (slots s))

      pub bytes_left : k * 24 + 24 ≤ length s
      bytes_left = let a = record_left in omega arith

      pub place_left : k < 1024
      place_left = let a = record_left in let b = h.few in omega arith

      module _ (m : ℕ) (em : m ≡ kids_at s k) where
        pub split : row_of s lv c k ≡ before k (row_of s (lv - 1) m (k + 1)) (row_of s lv (c - 1) (row_of s (lv - 1) m (k + 1)).next)
        split = part_in 0 (kids_at s) (slots s) lv c k h.read m some_left em

        pub inner_there : There s (lv - 1) m (k + 1)
        inner_there = let w = record_left in record { few = h.few; within = omega arith; read = reads_inner 0 (kids_at s) (slots s) lv c k h.read m some_left em }

        pub inner_row : Rowed 0 s (slots s) (lv - 1) m (k + 1)
        inner_row = there_row s (lv - 1) m (k + 1) inner_there

        pub inner_past : (row_of s (lv - 1) m (k + 1)).next ≡ k + 1 + size (row_of s (lv - 1) m (k + 1)).trees
        inner_past = (part_full 0 (kids_at s) (slots s) (lv - 1) m (k + 1) inner_there.read).next

        pub rest_there : (j : ℕ) → j ≡ (row_of s (lv - 1) m (k + 1)).next → There s lv (c - 1) j
        rest_there j e =
            let a = (part_full 0 (kids_at s) (slots s) (lv - 1) m (k + 1) inner_there.read).most inner_there.within in
            record { few = h.few; within = rw e a; read = reads_rest 0 (kids_at s) (slots s) lv c k h.read m some_left em j e }

        pub rest_next : (j : ℕ) → j ≡ (row_of s (lv - 1) m (k + 1)).next → (row_of s lv (c - 1) j).next ≡ (row_of s lv c k).next
        rest_next j e = rw e (sym (ap (λ (p : Part). p.next) split))

pub ruleset passing = (left_some, left_none, left_less)

pub ruleset standing = (level_left, level_falls, record_left, bytes_left, place_left, inner_there, inner_row)
