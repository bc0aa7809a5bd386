-- The columns of a schema; what a request sets of them; and what a column is after that, as last set (02, 5/13 and 6/13).
use Rattle.std.specs.Prelude.{ℕ, ◌≡◌, ◌⊎◌, Bool, true, false, not, ◌&&◌, ◌||◌, cond, List, [], ◌∷◌, ◌++◌, map, eqb}
use Rattle.std.proofs.Math.Option.{Option, none, some}
use Rattle.paper.specs.Answer.{any}
use Rattle.paper.specs.Forest.{Forest, empty, node}
use Rattle.paper.specs.Field.{Field, is_primitive, is_required}
use Rattle.paper.specs.Rows.{Row, look_name}
use Rattle.paper.specs.Sound.{ids}
use Rattle.paper.specs.Promotions.{allowed}
use Rattle.paper.specs.Edits.{Change, rename, relax, widen, Edit, Edited, edit_fields}
use Rattle.paper.specs.Update.{Request, Schema}
use Rattle.laws.specs.Members.{◌∈◌}

-- ---- schemas

-- A column: a record (id, name, kind, flags, type code, attribute) with its parent's id, if it has one.
pub record Column : Type 0 where
  pub parent : Option ℕ
  pub field : Field

-- The column stands among the siblings under a parent, or below one of them.
abbrev pub Stands : (parent : Option ℕ) → Forest Field → Column → Type 0
Stands parent empty column = ⊥
Stands parent (node f m n) column =
    (column ≡ record { parent = parent; field = f }) ⊎ (Stands (some f.id) m column ⊎ Stands parent n column)

abbrev pub Has : Schema → Column → Type 0
Has schema column = Stands none schema.tree column

abbrev pub Found : Schema → (id : ℕ) → Type 0
Found schema id = id ∈ ids schema.tree

abbrev pub Missing : Schema → (id : ℕ) → Type 0
Missing schema id = Found schema id → ⊥

-- ---- what a request sets

-- Each of its edits, of the column that its path finds in the schema that it is given.
abbrev pub set_one : Option Row → Change → List Edited
set_one none change = []
set_one (some row) change = record { id = row.field.id; change = change } ∷ []

abbrev pub set_by : Forest Field → List Edit → List Edited
set_by tree [] = []
set_by tree (edit ∷ edits) = set_one (look_name tree edit.path) edit.change ++ set_by tree edits

abbrev pub settings : Schema → Request → List Edited
settings schema request = set_by schema.tree request.edits

-- ---- as last set

-- The last of what is new, or what was before where nothing is.
abbrev pub last_of : {A : Type 0} → (before : A) → (new : List A) → A
last_of before [] = before
last_of before (new ∷ more) = last_of new more

-- What changes of a column give, in order.
abbrev pub given_by : {A : Type 0} → (gives : Change → List A) → (id : ℕ) → List Edited → List A
given_by gives id [] = []
given_by gives id (set ∷ more) = cond (eqb set.id id) (gives set.change) [] ++ given_by gives id more

-- Its new names.
abbrev pub named_by : Change → List (List ℕ)
named_by (rename name) = name ∷ []
named_by relax = []
named_by (widen version code) = []

abbrev pub new_names : (id : ℕ) → List Edited → List (List ℕ)
new_names id sets = given_by named_by id sets

-- Its widenings: the version that the request of one names, and the new type code.
pub record Widening : Type 0 where
  pub version : ℕ
  pub code : ℕ

abbrev pub widened_by : Change → List Widening
widened_by (rename name) = []
widened_by relax = []
widened_by (widen version code) = record { version = version; code = code } ∷ []

abbrev pub widenings : (id : ℕ) → List Edited → List Widening
widenings id sets = given_by widened_by id sets

abbrev pub new_codes : (id : ℕ) → List Edited → List ℕ
new_codes id sets = map (λ widening. widening.code) (widenings id sets)

-- Each is a step from the code before it, by the version that its own request names.
abbrev pub Stepwise : (code : ℕ) → List Widening → Type 0
Stepwise code [] = Unit {0}
Stepwise code (widening ∷ more) =
    (allowed widening.version code widening.code ≡ true) × Stepwise widening.code more

-- Whether a column is relaxed.
abbrev pub is_relax : Change → Bool
is_relax (rename name) = false
is_relax relax = true
is_relax (widen version code) = false

abbrev pub relaxes : (id : ℕ) → Edited → Bool
relaxes id set = eqb set.id id && is_relax set.change

-- Of the two flags: whether it has an initial default.
abbrev pub has_default : (flags : ℕ) → Bool
has_default flags = eqb flags 2 || eqb flags 3

-- What a column of one schema and a column of another have in common if they are one, whatever was set.
pub record SameColumn (column other : Column) : Type 0 where
  pub id : other.field.id ≡ column.field.id
  pub kind : other.field.kind ≡ column.field.kind
  pub default : has_default other.field.flags ≡ has_default column.field.flags
  pub attribute : other.field.attribute ≡ column.field.attribute
  pub parent : other.parent ≡ column.parent

-- The later of two columns is the earlier one as last set: its name is the last new one, if it got one; it is required if it
-- was and nothing relaxes it; its type code is the last new one, if it got one.
pub record AsLastSet (sets : List Edited) (column later : Column) : Type 0 where
  pub same : SameColumn column later
  pub name : later.field.name ≡ last_of column.field.name (new_names column.field.id sets)
  pub required : is_required later.field.flags
      ≡ (is_required column.field.flags && not (any (relaxes column.field.id) sets))
  pub code : later.field.code ≡ last_of column.field.code (new_codes column.field.id sets)
  -- Each widening was allowed, from the code of then, by the version that its own request names; and only a primitive is widened.
  pub steps : Stepwise column.field.code (widenings column.field.id sets)
  pub primitive : (widening : Widening) → widening ∈ widenings column.field.id sets
      → is_primitive column.field.kind ≡ true
  -- So it is, bit for bit, what the edits make of it.
  pub edited : later.field ≡ edit_fields sets column.field
