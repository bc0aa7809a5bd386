-- What holds of each record of a forest; maps and rebuilds that agree on each record agree.
use Prim.Native.Nat.{ℕ, suc, ◌+◌, ◌<◌}
use mathlib.Core.Path.{◌≡◌, refl, ap, ap₂, ◌∙◌}
use mathlib.Core.Bool.{Bool, true, false, ◌&&◌, cond}
use mathlib.Core.List.{List, [], ◌∷◌, ◌++◌}
use mathlib.Core.Option.{Option, some}
use Rattle.paper.specs.declared.Kind.{Kind}
use Rattle.paper.specs.Answer.{among}
use Rattle.paper.specs.Forest.{Forest, empty, node, size, mapped, ◌then◌}
use Rattle.paper.specs.Field.{is_struct}
use Rattle.paper.specs.Gone.{outermost}
use Rattle.paper.specs.Rebuild.{Addition, same_parent, arriving, rebuilt}
use Rattle.laws.proofs.Taken.{Laid}

abbrev pub Each : {A : Type 0} → (A → Type 0) → Forest A → Type 0
Each P empty = Unit {0}
Each P (node a m n) = P a × Each P m × Each P n

pub each_more : {A : Type 0} (P Q : A → Type 0) → ((a : A) → P a → Q a) → (t : Forest A) → Each P t → Each Q t
each_more P Q f empty h = tt
each_more P Q f (node a m n) h = (f a h.0, each_more P Q f m h.1, each_more P Q f n h.2)

pub each_mapped : {A B : Type 0} (P : B → Type 0) (g : A → B) (t : Forest A) → Each (λ a. P (g a)) t → Each P (mapped g t)
unfolding mapped
each_mapped P g empty h = tt
each_mapped P g (node a m n) h = (h.0, each_mapped P g m h.1, each_mapped P g n h.2)

pub each_then : {A : Type 0} (P : A → Type 0) (t u : Forest A) → Each P t → Each P u → Each P (t then u)
unfolding ◌then◌
each_then P empty u h g = g
each_then P (node a m n) u h g = (h.0, h.1, each_then P n u h.2 g)

-- The slots that were read are below the record count.
pub each_slot : (kids : ℕ → ℕ) (n k : ℕ) (t : Forest ℕ) → Laid kids n k t → Each (λ j. j < n) t
each_slot kids n k empty h = tt
each_slot kids n k (node j m u) h = (rw h.0 h.1, each_slot kids n (suc k) m h.3, each_slot kids n (suc (k + size m)) u h.4)

pub mapped_same : {A B : Type 0} (g h : A → B) (t : Forest A) → Each (λ a. g a ≡ h a) t → mapped g t ≡ mapped h t
unfolding mapped
mapped_same g h empty e = refl
mapped_same g h (node a m n) e = rw (e.0, mapped_same g h m e.1, mapped_same g h n e.2)

-- ---- the rebuild

module _ {A : Type 0} (id id' : A → ℕ) (kind kind' : A → Kind) (ds ds' : List ℕ) (adds : List (Addition A)) (drops : (x : ℕ) → among x ds ≡ among x ds') where
  pub rebuilt_same : (q : Option ℕ) (b : Bool) (t : Forest A) → Each (λ a. (id a ≡ id' a) × (kind a ≡ kind' a)) t → rebuilt id kind ds adds q b t ≡ rebuilt id' kind' ds' adds q b t
  unfolding rebuilt
  rebuilt_same q b empty e = refl
  rebuilt_same q b (node a m n) e =
      let d : among (id a) ds ≡ among (id' a) ds' = drops (id a) ∙ ap (λ (x : ℕ). among x ds') e.0.0 in
      let f : rebuilt id kind ds adds (some (id a)) (is_struct (kind a)) m ≡ rebuilt id' kind' ds' adds (some (id' a)) (is_struct (kind' a)) m = rebuilt_same (some (id a)) (is_struct (kind a)) m e.1 ∙ rw (e.0.0, e.0.1) in
      ap (λ (z : Bool). cond (b && z) (rebuilt id kind ds adds q b n) (node a (rebuilt id kind ds adds (some (id a)) (is_struct (kind a)) m) (rebuilt id kind ds adds q b n))) d
      ∙ ap₂ (λ (y z : Forest A). cond (b && among (id' a) ds') z (node a y z)) f (rebuilt_same q b n e.2)

module _ {A : Type 0} (id id' : A → ℕ) (kind kind' : A → Kind) (ds ds' : List ℕ) (drops : (x : ℕ) → among x ds ≡ among x ds') where
  pub outermost_same : (b : Bool) (t : Forest A) → Each (λ a. (id a ≡ id' a) × (kind a ≡ kind' a)) t → outermost id kind ds b t ≡ outermost id' kind' ds' b t
  unfolding outermost
  outermost_same b empty e = refl
  outermost_same b (node a m n) e =
      let d : among (id a) ds ≡ among (id' a) ds' = drops (id a) ∙ ap (λ (x : ℕ). among x ds') e.0.0 in
      let f : outermost id kind ds (is_struct (kind a)) m ≡ outermost id' kind' ds' (is_struct (kind' a)) m = outermost_same (is_struct (kind a)) m e.1 ∙ rw e.0.1 in
      ap (λ (z : Bool). cond (b && z) (a ∷ []) (outermost id kind ds (is_struct (kind a)) m) ++ outermost id kind ds b n) d
      ∙ ap₂ (λ (y z : List A). cond (b && among (id' a) ds') (a ∷ []) y ++ z) f (outermost_same b n e.2)

-- What holds of each record of a tree and of the additions holds of each record of the rebuild.
module _ {A : Type 0} (P : A → Type 0) (id : A → ℕ) (kind : A → Kind) (ds : List ℕ) where
  abbrev pub All : List (Addition A) → Type 0
  All [] = Unit {0}
  All (a ∷ rest) = Each P a.tree × All rest

  each_arriving : (adds : List (Addition A)) (q : Option ℕ) → All adds → Each P (arriving adds q)
  unfolding arriving
  each_arriving [] q h = tt
  each_arriving (a ∷ rest) q h = go (same_parent a.parent q) (each_arriving rest q h.1)
    where
      go : (b : Bool) → Each P (arriving rest q) → Each P (cond b (a.tree then arriving rest q) (arriving rest q))
      go true r = each_then P a.tree (arriving rest q) h.0 r
      go false r = r

  pub each_rebuilt : (adds : List (Addition A)) → All adds → (q : Option ℕ) (b : Bool) (t : Forest A) → Each P t → Each P (rebuilt id kind ds adds q b t)
  unfolding rebuilt
  each_rebuilt adds h q true empty e = each_arriving adds q h
  each_rebuilt adds h q false empty e = tt
  each_rebuilt adds h q b (node a m n) e = go (b && among (id a) ds) (each_rebuilt adds h (some (id a)) (is_struct (kind a)) m e.1) (each_rebuilt adds h q b n e.2)
    where
      go : (c : Bool) → Each P (rebuilt id kind ds adds (some (id a)) (is_struct (kind a)) m) → Each P (rebuilt id kind ds adds q b n)
          → Each P (cond c (rebuilt id kind ds adds q b n) (node a (rebuilt id kind ds adds (some (id a)) (is_struct (kind a)) m) (rebuilt id kind ds adds q b n)))
      go true x y = y
      go false x y = (e.0, x, y)
