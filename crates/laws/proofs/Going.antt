-- What goes in an update: it is natural, asks of the dropped ids only which are among them, and is of the tree.
use Prim.Native.Nat.{ℕ}
use mathlib.Core.Path.{◌≡◌, refl, sym, ◌∙◌}
use mathlib.Core.Logic.{inl, inr, ⊎_elim}
use mathlib.Core.Bool.{Bool, true, false, cond}
use mathlib.Core.List.{List, ◌∷◌, ◌++◌, map}
use Rattle.paper.specs.declared.Kind.{Kind}
use Rattle.paper.specs.Answer.{among}
use Rattle.paper.specs.Forest.{Forest, empty, node, preorder, mapped}
use Rattle.paper.specs.Field.{is_struct}
use Rattle.paper.specs.Gone.{dropped_member, gone}
use Rattle.laws.specs.Members.{◌∈◌}
use Rattle.laws.proofs.Basics.{in_left, in_right, in_append}
use Rattle.laws.proofs.Preorder.{preorder_mapped}
use Rattle.laws.proofs.Runs.{map_append}

module _ {A B : Type 0} (g : A → B) (id : B → ℕ) (kind : B → Kind) (ds : List ℕ) where
  pub gone_mapped : (b : Bool) (t : Forest A) → gone id kind ds b (mapped g t) ≡ map g (gone (λ a. id (g a)) (λ a. kind (g a)) ds b t)
  unfolding gone mapped
  gone_mapped b empty = refl
  gone_mapped b (node a m n) =
      let x = gone (λ a. id (g a)) (λ a. kind (g a)) ds (is_struct (kind (g a))) m in
      let y = gone (λ a. id (g a)) (λ a. kind (g a)) ds b n in
      rw (gone_mapped (is_struct (kind (g a))) m, gone_mapped b n, preorder_mapped g m)
      (go (dropped_member b ds (id (g a))) x ∙ sym (map_append g (cond (dropped_member b ds (id (g a))) (a ∷ preorder m) x) y))
    where
      go : (c : Bool) (x : List A) → (cond c (g a ∷ map g (preorder m)) (map g x) ++ map g (gone (λ a. id (g a)) (λ a. kind (g a)) ds b n)) ≡ (map g (cond c (a ∷ preorder m) x) ++ map g (gone (λ a. id (g a)) (λ a. kind (g a)) ds b n))
      go true x = refl
      go false x = refl

module _ {A : Type 0} (id : A → ℕ) (kind : A → Kind) where
  pub gone_same : (ds ds' : List ℕ) → ((x : ℕ) → among x ds ≡ among x ds') → (b : Bool) (t : Forest A) → gone id kind ds b t ≡ gone id kind ds' b t
  unfolding gone
  gone_same ds ds' e b empty = refl
  gone_same ds ds' e b (node a m n) = rw (e (id a), gone_same ds ds' e (is_struct (kind a)) m, gone_same ds ds' e b n)

  pub gone_there : (ds : List ℕ) (b : Bool) (t : Forest A) (x : A) → x ∈ gone id kind ds b t → x ∈ preorder t
  unfolding gone preorder
  gone_there ds b empty x h = h
  gone_there ds b (node a m n) x h =
      ⊎_elim (λ k. own (dropped_member b ds (id a)) k (gone_there ds (is_struct (kind a)) m x))
      (λ k. inr (in_right x (preorder m) (preorder n) (gone_there ds b n x k)))
      (in_append x (cond (dropped_member b ds (id a)) (a ∷ preorder m) (gone id kind ds (is_struct (kind a)) m)) (gone id kind ds b n) h)
    where
      own : (c : Bool) → x ∈ cond c (a ∷ preorder m) (gone id kind ds (is_struct (kind a)) m) → (x ∈ gone id kind ds (is_struct (kind a)) m → x ∈ preorder m) → x ∈ (a ∷ (preorder m ++ preorder n))
      own true (inl e) f = inl e
      own true (inr k) f = inr (in_left x (preorder m) (preorder n) k)
      own false k f = inr (in_left x (preorder m) (preorder n) (f k))
