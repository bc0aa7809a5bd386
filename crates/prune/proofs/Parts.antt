-- What is kept is a part of the tree: it is no deeper, its names are no longer, and its slots are slots of the tree.
use mathlib.Core.Path.{◌≡◌, refl}
use mathlib.Core.Bool.{Bool, true, false}
use mathlib.Core.Option.{Option, none, some}
use Prim.Native.Nat.{ℕ, suc, ◌+◌, ◌≤◌, ◌<◌}
use native.Mathlib.Omega.{arith}
use Rattle.paper.specs.declared.Kind.{Kind}
use Rattle.paper.specs.declared.Kind.TheVariants.{Primitive, Structure, Listing, Mapping}
use Rattle.paper.specs.declared.Role.{Role}
use Rattle.paper.specs.declared.Role.TheVariants.{Member, Element, Key, Value}
use Rattle.paper.specs.Forest.{Forest, empty, node, size, levels, mapped}
use Rattle.paper.specs.Field.{Field, first, after}
use Rattle.paper.specs.Prune.{joined, keyed, assembled}
use Rattle.paper.specs.Sound.{name_bytes}
use Rattle.laws.proofs.Taken as taken
use Rattle.prune_columns.specs.Split.{held, projected}

abbrev pub Below : ℕ → Forest ℕ → Type 0
Below n empty = Unit {0}
Below n (node k m t) = (k < n) × Below n m × Below n t

pub laid_below : (kids : ℕ → ℕ) (n k : ℕ) (t : Forest ℕ) → taken.Laid kids n k t → Below n t
laid_below kids n k empty l = tt
laid_below kids n k (node j m u) l = (rw l.0 l.1, laid_below kids n (suc k) m l.3, laid_below kids n (suc (k + size m)) u l.4)

pub record Within (g : ℕ → Field) (n : ℕ) (v u : Forest ℕ) : Type 0 where
  pub depth : levels v ≤ levels u
  pub count : size v ≤ size u
  pub names : name_bytes (mapped g v) ≤ name_bytes (mapped g u)
  pub slots : Below n u → Below n v

module _ (g : ℕ → Field) (n : ℕ) where
  all_within : (t : Forest ℕ) → Within g n t t
  all_within t = record { depth = omega arith; count = omega arith; names = omega arith; slots = λ b. b }

  none_within : (t : Forest ℕ) → Within g n empty t
  unfolding levels size mapped name_bytes
  none_within t = record { depth = omega arith; count = omega arith; names = omega arith; slots = λ b. tt }

  rest_within : (a : ℕ) (m t v : Forest ℕ) → Within g n v t → Within g n v (node a m t)
  unfolding levels size mapped name_bytes
  rest_within a m t v h = let d = h.depth in let c = h.count in let e = h.names in record { depth = omega arith; count = omega arith; names = omega arith; slots = λ b. h.slots b.2 }

  node_within : (a : ℕ) (m t m' t' : Forest ℕ) → Within g n m' m → Within g n t' t → Within g n (node a m' t') (node a m t)
  unfolding levels size mapped name_bytes
  node_within a m t m' t' h k =
      let d = h.depth in
      let c = h.count in
      let e = h.names in
      let d' = k.depth in
      let c' = k.count in
      let e' = k.names in
      record { depth = omega arith; count = omega arith; names = omega arith; slots = λ b. (b.0, h.slots b.1, k.slots b.2) }

  -- what is held of an inside is a part of it
  pub record Held (o : Option (Forest ℕ)) (m : Forest ℕ) : Type 0 where
    pub part : (m' : Forest ℕ) → o ≡ some m' → Within g n m' m

  joined_within : (a : ℕ) (m t rest : Forest ℕ) (o : Option (Forest ℕ)) → Held o m → Within g n rest t → Within g n (joined a o rest) (node a m t)
  joined_within a m t rest none h k = rest_within a m t rest k
  joined_within a m t rest (some m') h k = node_within a m t m' rest (h.part m' refl) k

  keyed_within : (b : Bool) (a : ℕ) (m t rest : Forest ℕ) → Within g n rest t → Within g n (keyed b a m t rest) (node a m t)
  keyed_within b a m t (node u v w) k = node_within a m t m (node u v w) (all_within m) k
  keyed_within true a m t empty k = all_within (node a m t)
  keyed_within false a m t empty k = none_within (node a m t)

  some_part : (m y m' : Forest ℕ) → Within g n y m → some y ≡ some m' → Within g n m' m
  some_part m y m' h e = let q : y ≡ m' = cc in rw (← q) h

  held_within : (full b : Bool) (k : Kind) (m y : Forest ℕ) → Within g n y m → Held (held full b k m y) m
  held_within full false k m empty h = record { part = λ m' e. absurd (let z : ◌≡◌ {A = ℕ} 0 1 = cc in omega arith) }
  held_within full false k m (node u v w) h = record { part = λ m' e. some_part m (node u v w) m' h e }
  held_within true true k m y h = record { part = λ m' e. some_part m m m' (all_within m) e }
  held_within false true Primitive m y h = record { part = λ m' e. some_part m m m' (all_within m) e }
  held_within false true Structure m y h = record { part = λ m' e. some_part m y m' h e }
  held_within false true Listing m y h = record { part = λ m' e. some_part m m m' (all_within m) e }
  held_within false true Mapping m y h = record { part = λ m' e. some_part m m m' (all_within m) e }

  assembled_within : (r : Role) (b : Bool) (a : ℕ) (m t : Forest ℕ) (o : Option (Forest ℕ)) (rest : Forest ℕ) → Held o m → Within g n rest t → Within g n (assembled r b a m t o rest) (node a m t)
  assembled_within Member b a m t o rest h k = joined_within a m t rest o h k
  assembled_within Element b a m t o rest h k = joined_within a m t rest o h k
  assembled_within Value b a m t o rest h k = joined_within a m t rest o h k
  assembled_within Key b a m t o rest h k = keyed_within b a m t rest k

  pub projected_within : (picks : ℕ → Bool) (kind : ℕ → Kind) (full : Bool) (r : Role) (t : Forest ℕ) → Within g n (projected picks kind full r t) t
  unfolding projected
  projected_within picks kind full r empty = all_within empty
  projected_within picks kind full r (node a m t) =
      assembled_within r (picks a) a m t _ _ (held_within full (picks a) (kind a) m _ (projected_within picks kind full (first (kind a)) m)) (projected_within picks kind full (after r) t)
