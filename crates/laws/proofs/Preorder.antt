-- Forests as lists: the records in slot order, and how many members each has.
use Prim.Native.Nat.{ℕ, suc, ◌+◌, max}
use mathlib.Core.Path.{◌≡◌, refl, sym, ap, ◌∙◌}
use mathlib.Core.List.{List, ◌∷◌, ◌++◌, map, append_assoc}
use native.Mathlib.Omega.{arith}
use lib.ListN.{length, length-append}
use Rattle.paper.specs.Forest.{Forest, empty, node, size, siblings, levels, preorder, counts, mapped, ◌then◌}
use Rattle.laws.proofs.Runs.{map_append}

module _ {A : Type 0} where
  pub length_preorder : (t : Forest A) → length (preorder t) ≡ size t
  unfolding preorder size
  length_preorder empty = refl
  length_preorder (node a m n) = ap suc (length-append (preorder m) (preorder n) ∙ rw (length_preorder m, length_preorder n))

  pub length_counts : (t : Forest A) → length (counts t) ≡ size t
  unfolding counts size
  length_counts empty = refl
  length_counts (node a m n) = ap suc (length-append (counts m) (counts n) ∙ rw (length_counts m, length_counts n))

  -- ---- one forest's siblings before another's

  pub preorder_then : (t u : Forest A) → preorder (t then u) ≡ preorder t ++ preorder u
  unfolding preorder ◌then◌
  preorder_then empty u = refl
  preorder_then (node a m n) u = ap (λ l. a ∷ l) (rw (preorder_then n u) (sym (append_assoc (preorder m) (preorder n) (preorder u))))

  pub counts_then : (t u : Forest A) → counts (t then u) ≡ counts t ++ counts u
  unfolding counts ◌then◌
  counts_then empty u = refl
  counts_then (node a m n) u = ap (λ (l : List ℕ). siblings m ∷ l) (rw (counts_then n u) (sym (append_assoc (counts m) (counts n) (counts u))))

  pub size_then : (t u : Forest A) → size (t then u) ≡ size t + size u
  unfolding size ◌then◌
  size_then empty u = omega arith
  size_then (node a m n) u = let e = size_then n u in omega arith

  pub siblings_then : (t u : Forest A) → siblings (t then u) ≡ siblings t + siblings u
  unfolding siblings ◌then◌
  siblings_then empty u = omega arith
  siblings_then (node a m n) u = let e = siblings_then n u in omega arith

  pub levels_then : (t u : Forest A) → levels (t then u) ≡ max (levels t) (levels u)
  unfolding levels ◌then◌
  levels_then empty u = omega arith
  levels_then (node a m n) u = let e = levels_then n u in omega arith

  pub then_empty : (t : Forest A) → t then empty ≡ t
  unfolding ◌then◌
  then_empty empty = refl
  then_empty (node a m n) = ap (λ z. node a m z) (then_empty n)

  pub then_then : (t u v : Forest A) → (t then u) then v ≡ t then (u then v)
  unfolding ◌then◌
  then_then empty u v = refl
  then_then (node a m n) u v = ap (λ z. node a m z) (then_then n u v)

-- ---- mapping

module _ {A B : Type 0} (g : A → B) where
  pub size_mapped : (t : Forest A) → size (mapped g t) ≡ size t
  unfolding size mapped
  size_mapped empty = refl
  size_mapped (node a m n) = rw (size_mapped m, size_mapped n)

  pub siblings_mapped : (t : Forest A) → siblings (mapped g t) ≡ siblings t
  unfolding siblings mapped
  siblings_mapped empty = refl
  siblings_mapped (node a m n) = rw (siblings_mapped n)

  pub levels_mapped : (t : Forest A) → levels (mapped g t) ≡ levels t
  unfolding levels mapped
  levels_mapped empty = refl
  levels_mapped (node a m n) = rw (levels_mapped m, levels_mapped n)

  pub preorder_mapped : (t : Forest A) → preorder (mapped g t) ≡ map g (preorder t)
  unfolding preorder mapped
  preorder_mapped empty = refl
  preorder_mapped (node a m n) = ap (λ l. g a ∷ l) (rw (preorder_mapped m, preorder_mapped n) (sym (map_append g (preorder m) (preorder n))))

  pub counts_mapped : (t : Forest A) → counts (mapped g t) ≡ counts t
  unfolding counts mapped
  counts_mapped empty = refl
  counts_mapped (node a m n) = rw (siblings_mapped m, counts_mapped m, counts_mapped n)

pub mapped_mapped : {A B C : Type 0} (g : A → B) (h : B → C) (t : Forest A) → mapped h (mapped g t) ≡ mapped (λ a. h (g a)) t
unfolding mapped
mapped_mapped g h empty = refl
mapped_mapped g h (node a m n) = rw (mapped_mapped g h m, mapped_mapped g h n)
