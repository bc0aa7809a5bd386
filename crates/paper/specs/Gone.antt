-- 02, 3/13: which records go in an update, of any sort: it asks of one its id and its kind. The rebuild leaves out these and no
-- others (theorems' `gone_is_left_out`).
use Rattle.std.specs.Prelude.{ℕ, Bool, true, ◌&&◌, cond, List, [], ◌∷◌, ◌++◌, map}
use Rattle.paper.specs.declared.Kind.{Kind}
use Rattle.paper.specs.Answer.{among}
use Rattle.paper.specs.Forest.{Forest, empty, node, preorder}
use Rattle.paper.specs.Field.{Field, id_of, kind_of, is_struct}

-- Whether a record is dropped as a member: it is dropped, and its siblings are `open`, members of the root list or of a struct.
-- A dropped element, key or value is not.
abbrev pub dropped_member : (open? : Bool) → (dropped : List ℕ) → (id : ℕ) → Bool
dropped_member open? dropped id = open? && among id dropped

-- The records that are dropped as a member, and all that stand beneath them.
unfoldable pub gone : {A : Type 0} → (id : A → ℕ) → (kind : A → Kind) → (dropped : List ℕ) → (open? : Bool) → Forest A
    → List A
gone id kind dropped open? empty = []
gone id kind dropped open? (node a m n) =
    cond (dropped_member open? dropped (id a)) (a ∷ preorder m) (gone id kind dropped (is_struct (kind a)) m)
    ++ gone id kind dropped open? n

-- The dropped members that stand beneath no other dropped member.
unfoldable pub outermost : {A : Type 0} → (id : A → ℕ) → (kind : A → Kind) → (dropped : List ℕ) → (open? : Bool) → Forest A
    → List A
outermost id kind dropped open? empty = []
outermost id kind dropped open? (node a m n) =
    cond (dropped_member open? dropped (id a)) (a ∷ []) (outermost id kind dropped (is_struct (kind a)) m)
    ++ outermost id kind dropped open? n

-- The ids of those that go of a tree.
abbrev pub gone_columns : (dropped : List ℕ) → Forest Field → List ℕ
gone_columns dropped tree = map id_of (gone id_of kind_of dropped true tree)
