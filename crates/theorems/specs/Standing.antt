-- 02, 3/13: what an accepted update does with the records that it adds, and with those that go. Of `update` over
-- forests; by `OfStored` also of `update_entry` over bytes.
use Rattle.std.specs.Prelude.{ℕ, ◌+◌, ◌≤◌, ◌≡◌, ◌⊎◌, ◌↔◌, true, List, [], ◌∷◌, length}
use Rattle.paper.specs.Answer.{ok}
use Rattle.paper.specs.Forest.{size}
use Rattle.paper.specs.Field.{Field, id_of, kind_of}
use Rattle.paper.specs.Sound.{ids}
use Rattle.paper.specs.Gone.{gone, gone_columns}
use Rattle.paper.specs.Update.{Request, Schema, Plan, planned}
use Rattle.paper.specs.Rebuild.{Addition, added}
use Rattle.paper.specs.Lent.{Stored, Lent}
use Rattle.paper.specs.Entries.{Result}
use Rattle.laws.specs.Members.{◌∈◌}
use Rattle.theorems.specs.Numbers.{tally}
use Rattle.theorems.specs.Columns.{Column, Stands, Has, Found, Missing}
use Rattle.theorems.specs.Run.{Consumed, given}
use Rattle.theorems.specs.Stored.{schema_of, request_of, to_store}

-- A column of the additions: the root of each under the addition's parent, its inside under itself.
abbrev pub Adds : List (Addition Field) → Column → Type 0
Adds [] column = ⊥
Adds (addition ∷ rest) column = Stands addition.parent addition.tree column ⊎ Adds rest column

-- Each stands in the answer, under that parent.
abbrev pub AdditionsStand : Schema → Request → Plan → (updated : Schema) → Type 0
AdditionsStand schema request plan updated =
    (column : Column) → Adds (added schema request plan) column → Has updated column

pub record ConsumedAreAdded (schema : Schema) (request : Request) (plan : Plan) (updated : Schema) : Type 0 where
  -- The ids consumed are those of added records, and each is found in the answer.
  pub of_added : (id : ℕ) → Consumed schema updated id ↔ (Found updated id × (id ∈ given (added schema request plan)))
  -- Where no id of the base is above its last id, they are those found in the answer and missing in the base.
  pub new : ((id : ℕ) → Found schema id → id ≤ schema.last) → (id : ℕ)
      → Consumed schema updated id ↔ (Found updated id × Missing schema id)

-- The records of the answer and those that go are those of the base and those added: as many, and each id as often.
pub record NothingVanishes (schema : Schema) (request : Request) (plan : Plan) (updated : Schema) : Type 0 where
  pub as_many : size updated.tree + length (gone id_of kind_of plan.dropped true schema.tree)
      ≡ size schema.tree + size request.added
  pub each_id : (id : ℕ) → tally id (ids updated.tree) + tally id (gone_columns plan.dropped schema.tree)
      ≡ tally id (ids schema.tree) + tally id (given (added schema request plan))

-- A column of the base goes exactly where its id is missing in the answer. An id that is given anew is left aside: it
-- can be one of the base, above the last id.
abbrev pub GoneIsLeftOut : Schema → Request → Plan → (updated : Schema) → Type 0
GoneIsLeftOut schema request plan updated =
    (id : ℕ) → Found schema id → (id ∈ given (added schema request plan) → ⊥)
    → (id ∈ gone_columns plan.dropped schema.tree) ↔ Missing updated id

-- One of these, of what is stored and lent, of the plan that is made of it, and of what the answer leaves to be
-- stored.
pub record OfStored (so : Schema → Request → Plan → Schema → Type 0) (stored : Stored) (lent : Lent)
    (result : Result) : Type 0 where
  pub plan : Plan
  pub plans : planned (schema_of stored) (request_of lent) ≡ ok plan
  pub holds : so (schema_of stored) (request_of lent) plan (schema_of (to_store result))
