-- What is read from a slot on: how many trees, and which slots with which counts. The laws say so of the trees that are laid there.
use mathlib.Core.Path.{◌≡◌, refl, sym, ap, ◌∙◌}
use mathlib.Core.Logic.{◌⊎◌, inl, inr, ⊎_elim}
use mathlib.Core.List.{List, ◌∷◌, ◌++◌}
use mathlib.Core.Bool.{Bool, true, false}
use Prim.Native.Nat.{ℕ, zero, suc, ◌+◌, ◌-◌, ◌<◌, ◌≤◌}
use native.Mathlib.Nat.{add-zero, suc-add}
use native.Mathlib.Omega.{arith}
use borrow.Author.Tests.{ltb-true, ltb-false}
use lib.Dec.{ltb}
use Rattle.record.specs.declared.Refusal.{Refusal}
use Rattle.paper.specs.Answer.{Answer, ok, refused}
use Rattle.paper.specs.Forest.{Forest, empty, node, size, siblings, preorder, counts}
use Rattle.paper.specs.Bytes.{from}
use Rattle.paper.specs.Layout.{Part, before, row}
use Rattle.laws.proofs.Basics.{refused≢ok, unbind, ok_is}
use Rattle.laws.proofs.Taken.{Laid, row_take}
use Rattle.tree.specs.Read.{itself}
use Rattle.tree.specs.Answers.{Walked}
use Rattle.std.specs.Prelude.{Ok, Err}
use Rattle.tree.specs.Says.{ended}
use Rattle.tree.proofs.Reading.{row_deep, row_past, row_in}

pub lt_or_le : (a b : ℕ) → (a < b) ⊎ (b ≤ a)
lt_or_le a b = go (ltb a b) refl
  where
    go : (t : Bool) → ltb a b ≡ t → (a < b) ⊎ (b ≤ a)
    go true e = inl (ltb-true a b e)
    go false e = inr (ltb-false a b e)

pub from_append : (g : ℕ → ℕ) (k a b : ℕ) → from g k (a + b) ≡ from g k a ++ from g (k + a) b
unfolding from
from_append g k zero b = let e : 0 + b ≡ b = omega arith in rw (e, add-zero k)
from_append g k (suc a) b = let e : k + suc a ≡ suc k + a = omega arith in rw (suc-add a b, e) (ap (λ (l : List ℕ). g k ∷ l) (from_append g (suc k) a b))

-- p has c trees, a record for each slot from k on, and with each its number of members
pub record Full (kids : ℕ → ℕ) (n c k : ℕ) (p : Part) : Type 0 where
  pub next : p.next ≡ k + size p.trees
  pub most : k ≤ n → p.next ≤ n
  pub trees : siblings p.trees ≡ c
  pub slots : preorder p.trees ≡ from itself k (size p.trees)
  pub sizes : counts p.trees ≡ from kids k (size p.trees)

pub laid_slots : (kids : ℕ → ℕ) (n k : ℕ) (t : Forest ℕ) → Laid kids n k t → preorder t ≡ from itself k (size t)
unfolding size preorder from
laid_slots kids n k empty h = refl
laid_slots kids n k (node j m u) h = rw (h.0, laid_slots kids n (suc k) m h.3, laid_slots kids n (suc (k + size m)) u h.4, from_append itself (suc k) (size m) (size u), suc-add k (size m))

laid_sizes : (kids : ℕ → ℕ) (n k : ℕ) (t : Forest ℕ) → Laid kids n k t → counts t ≡ from kids k (size t)
unfolding size counts from
laid_sizes kids n k empty h = refl
laid_sizes kids n k (node j m u) h = rw (← h.2, laid_sizes kids n (suc k) m h.3, laid_sizes kids n (suc (k + size m)) u h.4, from_append kids (suc k) (size m) (size u), suc-add k (size m))

module _ (li : ℕ) (kids : ℕ → ℕ) (n : ℕ) where
  -- how an answer came to be
  pub row_parts : (P : Type 0) (lv c k : ℕ) (p : Part) → (c ≡ 0 → ⊥) → row li kids n lv c k ≡ ok p
      → ((a b : Part) → (lv ≡ 0 → ⊥) → k < n → row li kids n (lv - 1) (kids k) (k + 1) ≡ ok a → row li kids n lv (c - 1) a.next ≡ ok b → before k a b ≡ p → P) → P
  row_parts P zero c k p h e f = absurd (refused≢ok (sym (row_deep li kids n 0 c k refl h) ∙ e))
  row_parts P (suc lv) c k p h e f =
      ⊎_elim
      (λ l. unbind _ _ (sym (row_in li kids n (suc lv) c k (λ z. omega arith) h l) ∙ e) λ a ea e₁. unbind _ _ e₁ λ b eb e₂. f a b (λ z. omega arith) l ea eb (ok_is e₂))
      (λ l. absurd (refused≢ok (sym (row_past li kids n (suc lv) c k (λ z. omega arith) h l) ∙ e)))
      (lt_or_le k n)

  pub full : (lv c k : ℕ) (p : Part) → row li kids n lv c k ≡ ok p → Full kids n c k p
  full lv c k p e =
      let t = row_take li kids n lv c k p e in
      record { next = t.took.end; most = t.took.inside; trees = t.count; slots = laid_slots kids n k p.trees t.took.laid; sizes = laid_sizes kids n k p.trees t.took.laid }

-- a row that ends, ends within the list, at or after the slot where it began
pub ended_ok : (P : Type 0) (x : Answer Part) (w : Walked) (j : ℕ) → w ≡ ended x → w ≡ Ok j → ((p : Part) → x ≡ ok p → p.next ≡ j → P) → P
unfolding ended
ended_ok P (ok p) w j e d f = f p refl cc
ended_ok P (refused n l k) w j e d f = let z : ◌≡◌ {A = ℕ} 0 1 = cc in absurd (omega arith)

pub ended_no : (x : Answer Part) (p : Part) (w : Walked) (t : Refusal) → x ≡ ok p → w ≡ ended x → w ≡ Err t → ⊥
unfolding ended
ended_no (ok a) p w t e ew et = let z : ◌≡◌ {A = ℕ} 0 1 = cc in omega arith
ended_no (refused n l k) p w t e ew et = let z : ◌≡◌ {A = ℕ} 0 1 = cc in omega arith

pub end_room : (li : ℕ) (kids : ℕ → ℕ) (n lv c k j : ℕ) (w : Walked) → w ≡ ended (row li kids n lv c k) → w ≡ Ok j → (k ≤ j) × (k ≤ n → j ≤ n)
end_room li kids n lv c k j w e d = ended_ok _ (row li kids n lv c k) w j e d λ p ep en. let f = full li kids n lv c k p ep in (omega (arith, f.next), λ h. rw en at (f.most h))

pub next_within : (li : ℕ) (kids : ℕ → ℕ) (n lv c k j : ℕ) (w : Walked) → w ≡ ended (row li kids n lv c (k + 1)) → w ≡ Ok j → k < n → j ≤ n
next_within li kids n lv c k j w e d h = (end_room li kids n lv c (k + 1) j w e d).1 (omega arith)

-- so less is left behind a tree than from its slot on
pub end_less : (li : ℕ) (kids : ℕ → ℕ) (n lv k m : ℕ) (w : Walked) → k < n → w ≡ ended (row li kids n lv m (k + 1)) → (j : ℕ) → w ≡ Ok j → n - j < n - k
end_less li kids n lv k m w l ew j d = let r = end_room li kids n lv m (k + 1) j w ew d in omega arith
