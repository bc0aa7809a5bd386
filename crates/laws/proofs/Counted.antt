-- Reading counts back gives the tree that they are of.
use Prim.Native.Nat.{ℕ, zero, suc, ◌+◌, ◌≤◌, ◌<◌}
use mathlib.Core.Path.{◌≡◌, refl, sym, ap, ◌∙◌}
use mathlib.Core.List.{List, ◌∷◌, ◌++◌}
use native.Mathlib.Nat.{add-zero}
use native.Mathlib.Omega.{arith}
use lib.ListN.{length, get_or, get_or-append}
use lib.Seq.{get_or-append-add}
use borrow.Author.Tests.{lt-ltb, le-ltb}
use Rattle.paper.specs.Answer.{ok, ◌>>=◌}
use Rattle.paper.specs.Forest.{Forest, empty, node, size, siblings, levels, preorder, counts, mapped}
use Rattle.paper.specs.Layout.{nothing, before, deep, row_with, row, roots}
use Rattle.laws.proofs.Basics.{rebind}
use Rattle.laws.proofs.Preorder.{length_preorder, length_counts}

-- The slots of a tree that begins at slot k.
unfoldable pub slotted : {A : Type 0} → ℕ → Forest A → Forest ℕ
slotted k empty = empty
slotted k (node f m n) = node k (slotted (suc k) m) (slotted (suc (k + size m)) n)

-- From place k on the counts are those of t.
abbrev pub Counted : {A : Type 0} → (ℕ → ℕ) → ℕ → Forest A → Type 0
Counted kids k empty = Unit {0}
Counted kids k (node a m n) = (kids k ≡ siblings m) × Counted kids (suc k) m × Counted kids (suc (k + size m)) n

-- ---- a list from place k on holds the parts of a tree from their places on

module _ {B : Type 0} (g : ℕ → B) (d : B) (k : ℕ) (b : B) (xs ys : List B) (h : (j : ℕ) → j < suc (length xs + length ys) → g (k + j) ≡ get_or (b ∷ (xs ++ ys)) j d) where
  its_own : g k ≡ b
  its_own = ap g (sym (add-zero k)) ∙ h 0 (omega arith)

  its_first : (j : ℕ) → j < length xs → g (suc k + j) ≡ get_or xs j d
  its_first j l = let e : suc k + j ≡ k + suc j = omega arith in rw e (h (suc j) (omega arith) ∙ get_or-append xs ys d j l)

  its_rest : (j : ℕ) → j < length ys → g (suc (k + length xs) + j) ≡ get_or ys j d
  its_rest j l = let e : suc (k + length xs) + j ≡ k + suc (length xs + j) = omega arith in rw e (h (suc (length xs + j)) (omega arith) ∙ get_or-append-add xs ys j d)

pub counted : {A : Type 0} (kids : ℕ → ℕ) (k : ℕ) (t : Forest A) → ((j : ℕ) → j < size t → kids (k + j) ≡ get_or (counts t) j 0) → Counted kids k t
unfolding counts size
counted kids k empty h = tt
counted kids k (node a m n) h =
    let em = length_counts m in
    let en = length_counts n in
    let h' : (j : ℕ) → j < suc (length (counts m) + length (counts n)) → kids (k + j) ≡ get_or (siblings m ∷ (counts m ++ counts n)) j 0 = λ j l. h j (omega arith) in (
      its_own kids 0 k (siblings m) (counts m) (counts n) h',
      counted kids (suc k) m (λ j l. its_first kids 0 k (siblings m) (counts m) (counts n) h' j (omega arith)),
      counted kids (suc (k + size m)) n (λ j l. rw em at (its_rest kids 0 k (siblings m) (counts m) (counts n) h' j (omega arith))),
    )

-- What stands at the places of a tree makes the tree.
pub placed : {A : Type 0} (g : ℕ → A) (d : A) (k : ℕ) (t : Forest A) → ((j : ℕ) → j < size t → g (k + j) ≡ get_or (preorder t) j d) → mapped g (slotted k t) ≡ t
unfolding preorder size mapped slotted
placed g d k empty h = refl
placed g d k (node a m n) h =
    let em = length_preorder m in
    let en = length_preorder n in
    let h' : (j : ℕ) → j < suc (length (preorder m) + length (preorder n)) → g (k + j) ≡ get_or (a ∷ (preorder m ++ preorder n)) j d = λ j l. h j (omega arith) in
    rw (
      its_own g d k a (preorder m) (preorder n) h',
      placed g d (suc k) m (λ j l. its_first g d k a (preorder m) (preorder n) h' j (omega arith)),
      placed g d (suc (k + size m)) n (λ j l. rw em at (its_rest g d k a (preorder m) (preorder n) h' j (omega arith))),
    )

-- ---- reading

module _ (list : ℕ) (kids : ℕ → ℕ) (n : ℕ) where
  row_goes : (lv c k : ℕ) → k < n → row list kids n (suc lv) (suc c) k ≡ (row list kids n lv (kids k) (suc k) >>= λ a. row list kids n (suc lv) c a.next >>= λ b. ok (before k a b))
  unfolding row row_with
  row_goes lv c k l = rw (lt-ltb k n l, row_with) refl

  root_goes : (most k : ℕ) → k < n → roots list kids n (suc most) k ≡ (row list kids n 15 (kids k) (suc k) >>= λ a. roots list kids n most a.next >>= λ b. ok (before k a b))
  unfolding roots
  root_goes most k l = rw (lt-ltb k n l, roots) refl

  roots_end : (most k : ℕ) → n ≤ k → roots list kids n most k ≡ ok (nothing k)
  unfolding roots
  roots_end zero k l = refl
  roots_end (suc most) k l = rw (le-ltb k n l, roots) refl

  pub row_counted : {A : Type 0} (t : Forest A) (lv k : ℕ) → levels t ≤ lv → k + size t ≤ n → Counted kids k t → row list kids n lv (siblings t) k ≡ ok (record { trees = slotted k t; next = k + size t })
  unfolding row row_with deep levels siblings size slotted
  row_counted empty zero k l o h = rw (add-zero k)
  row_counted empty (suc lv) k l o h = rw (add-zero k)
  row_counted (node f m u) zero k l o h = absurd (omega arith)
  row_counted (node f m u) (suc lv) k l o h =
      let d : suc k + size m ≡ suc (k + size m) = omega arith in
      let d' : suc (k + size m) + size u ≡ k + suc (size m + size u) = omega arith in
      let a = rw (← h.0, d) at (row_counted m lv (suc k) (omega arith) (omega arith) h.1) in
      let b = rw d' at (row_counted u (suc lv) (suc (k + size m)) (omega arith) (omega arith) h.2) in
      row_goes lv (siblings u) k (omega arith) ∙ rebind _ _ a (rebind _ _ b refl)

  pub roots_counted : {A : Type 0} (t : Forest A) (most k : ℕ) → siblings t ≤ most → levels t ≤ 16 → k + size t ≡ n → Counted kids k t → roots list kids n most k ≡ ok (record { trees = slotted k t; next = n })
  unfolding levels siblings size slotted
  roots_counted empty most k l o e h = let d : k ≡ n = omega arith in roots_end most k (omega arith) ∙ rw d
  roots_counted (node f m u) zero k l o e h = absurd (omega arith)
  roots_counted (node f m u) (suc most) k l o e h =
      let d : suc k + size m ≡ suc (k + size m) = omega arith in
      let a = rw (← h.0, d) at (row_counted m 15 (suc k) (omega arith) (omega arith) h.1) in
      root_goes most k (omega arith) ∙ rebind _ _ a (rebind _ _ (roots_counted u most (suc (k + size m)) (omega arith) (omega arith) (omega arith) h.2) refl)
