-- In a tree that passed 7 no id stands twice.
use Prim.Native.Nat.{ℕ}
use mathlib.Core.Path.{◌≡◌, refl}
use mathlib.Core.List.{List, [], map}
use lib.Dec.{eqb}
use Rattle.paper.specs.Answer.{ok, repeated}
use Rattle.paper.specs.Forest.{Forest, empty, node, preorder}
use Rattle.paper.specs.Field.{Field, id_of}
use Rattle.paper.specs.Sound.{ids, sound}
use Rattle.laws.proofs.Basics.{unbind, fault_ok, Distinct, none_twice, eqb_self}
use Rattle.laws.proofs.Runs.{map_append}

pub sound_distinct : (l : ℕ) (t : Forest Field) (identifiers : List ℕ) {x : Unit {0}} → sound l t identifiers ≡ ok x
    → Distinct (ids t)
unfolding sound
sound_distinct l t identifiers e =
    unbind _ _ e λ _ e₁ _. none_twice eqb eqb_self 0 (ids t) (fault_ok 7 l (repeated eqb [] 0 (ids t)) e₁)

-- The ids in slot order.
pub ids_preorder : (t : Forest Field) → ids t ≡ map id_of (preorder t)
unfolding ids preorder
ids_preorder empty = refl
ids_preorder (node f m n) = rw (ids_preorder m, ids_preorder n, map_append id_of (preorder m) (preorder n))
