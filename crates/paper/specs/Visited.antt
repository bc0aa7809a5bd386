-- 02, 7/13: how many records an update visits in its rebuild, over the base and the request alone.
use Rattle.std.specs.Prelude.{ℕ, ◌+◌, Bool, true, not, cond, List, [], ◌∷◌, ◌++◌, length}
use Rattle.std.proofs.Math.Option.{Option, none, some}
use Rattle.paper.specs.declared.Kind.{Kind}
use Rattle.paper.specs.Answer.{Answer, ok, refused, among}
use Rattle.paper.specs.Forest.{Forest, empty, node, size}
use Rattle.paper.specs.Field.{Field, id_of, kind_of, is_struct}
use Rattle.paper.specs.Gone.{dropped_member, gone_columns}
use Rattle.paper.specs.Update.{Request, Schema, Plan, planned}
use Rattle.paper.specs.Rebuild.{Addition, added}

-- The base records with no dropped member of a struct or of the root above them. A dropped member is one of them, what is inside
-- it is not. A dropped element, key or value stays, and is no reason to leave out what is inside it.
unfoldable pub reached : {A : Type 0} → (id : A → ℕ) → (kind : A → Kind) → (dropped : List ℕ) → (open? : Bool) → Forest A
    → List A
reached id kind dropped open? empty = []
reached id kind dropped open? (node a m n) =
    a ∷ cond (dropped_member open? dropped (id a)) [] (reached id kind dropped (is_struct (kind a)) m)
    ++ reached id kind dropped open? n

-- Whether what is added under a parent stands in the rebuilt tree: the root list stays, a struct unless it is gone.
abbrev pub stays : (gone : List ℕ) → (parent : Option ℕ) → Bool
stays gone none = true
stays gone (some id) = not (among id gone)

-- How many added records stand there.
unfoldable pub arrived : (gone : List ℕ) → List (Addition Field) → ℕ
arrived gone [] = 0
arrived gone (a ∷ rest) = cond (stays gone a.parent) (size a.tree) 0 + arrived gone rest

abbrev pub visited_by : Schema → Request → Plan → ℕ
visited_by schema request plan =
    length (reached id_of kind_of plan.dropped true schema.tree)
    + arrived (gone_columns plan.dropped schema.tree) (added schema request plan)

-- Where it is refused before the rebuild: none.
abbrev pub visited_if : Schema → Request → Answer Plan → ℕ
visited_if schema request (ok plan) = visited_by schema request plan
visited_if schema request (refused n l p) = 0

unfoldable pub visited : Schema → Request → ℕ
visited schema request = visited_if schema request (planned schema request)
