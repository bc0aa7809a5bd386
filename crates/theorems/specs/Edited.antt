-- 02, 5/13: what an accepted update makes of the columns that stay, and by which names a renamed one is found. Of
-- `update` over forests; by `OfStored` also of `update_entry` over bytes. And a run in which one column is renamed,
-- relaxed and renamed again; 6/13: and one in which three are widened.
use Rattle.std.specs.Prelude.{ℕ, ◌+◌, ◌*◌, ◌≡◌, List, [], ◌∷◌, ◌++◌}
use Prim.Native.String.{String}
use Rattle.std.proofs.Math.Option.{some}
use Rattle.paper.specs.declared.Kind.TheVariants.{Primitive}
use Rattle.paper.specs.Answer.{Answer, refused}
use Rattle.paper.specs.Forest.{Forest, empty, node}
use Rattle.paper.specs.Field.{Field}
use Rattle.paper.specs.Rows.{Row, dotted, look_name, look_id}
use Rattle.paper.specs.Sound.{text}
use Rattle.paper.specs.Gone.{gone_columns}
use Rattle.paper.specs.Promotions.{int, long, date, timestamp}
use Rattle.paper.specs.Edits.{Change, rename, relax, widen, Edited}
use Rattle.paper.specs.Update.{Request, Schema, Plan}
use Rattle.paper.specs.Bytes.{turned}
use Rattle.laws.specs.Members.{◌∈◌}
use Rattle.theorems.specs.Columns.{Column, Has, settings, AsLastSet}
use Rattle.theorems.specs.Run.{between}

-- ---- what stays

-- Each column of the base that does not go stands in the answer, as the request sets it.
abbrev pub StaysAsSet : Schema → Request → Plan → (updated : Schema) → Type 0
StaysAsSet schema request plan updated =
    (column : Column) → Has schema column → (column.field.id ∈ gone_columns plan.dropped schema.tree → ⊥)
    → (later : Column) × Has updated later × AsLastSet (settings schema request) column later

-- ---- a renamed column

-- What stands before a column's name in its full name: the names of the records above it, the nearest first here.
abbrev pub names_above : (above : List Field) → List ℕ
names_above [] = []
names_above (f ∷ above) = dotted (names_above above) f.name

-- Of the column of an id, renamed: its row in the tree from before and in that of the answer.
pub record Renamed (before answered : Forest Field) (id : ℕ) (new : List ℕ) : Type 0 where
  pub was : Row
  pub was_there : look_id before id ≡ some was
  pub now : Row
  pub now_there : look_id answered id ≡ some now
  -- It has the new name, alone at the root, else behind the names above it as they are now;
  pub name : now.field.name ≡ new
  pub full : now.full ≡ names_above now.above ++ new
  -- and is found by that.
  pub found : look_name answered now.full ≡ some now
  -- Its old full name finds it no more, if the new name is another: what it finds, if anything, is another column.
  pub lost : (was.field.name ≡ new → ⊥) → (row : Row) → look_name answered was.full ≡ some row
      → row.field.id ≡ id → ⊥

-- So it is with each rename of an accepted request.
abbrev pub RenamesFound : Schema → Request → Plan → (updated : Schema) → Type 0
RenamesFound schema request plan updated =
    (id : ℕ) (new : List ℕ) → record { id = id; change = rename new } ∈ settings schema request
    → Renamed schema.tree updated.tree id new

-- ---- one column, edited three times

abbrev pub column_5 : String → (flags : ℕ) → Column
column_5 name flags =
    let f : Field = record {
      id = turned 5;
      name = text name;
      kind = Primitive;
      flags = flags;
      code = 0;
      attribute = 0;
    } in
    record { parent = some (turned 1); field = f }

abbrev pub sets_5 : Change → Edited
sets_5 change = record { id = turned 5; change = change }

-- Of a run whose schema after i requests is `at i`, and in which request i sets `sets i`: after each request what its
-- column 5 is. The second rename comes after the relaxing and a request that is refused.
pub record EditedInARow (at : ℕ → Schema) (sets : ℕ → List Edited) : Type 0 where
  pub first : Has (at 0) (column_5 "cost" 1)
  pub renamed : Has (at 1) (column_5 "price" 1)
  pub relaxed : Has (at 2) (column_5 "price" 0)
  pub refused : Has (at 3) (column_5 "price" 0)
  pub again : Has (at 4) (column_5 "fee" 0)
  -- What was set between the first and the last, in order.
  pub all_set : between sets 0 4
      ≡ sets_5 (rename (text "price")) ∷ sets_5 relax ∷ sets_5 (rename (text "fee")) ∷ []

-- ---- three columns, widened

-- A decimal's type code.
abbrev pub decimal : (precision scale : ℕ) → ℕ
decimal precision scale = 65536 + 256 * precision + scale

abbrev pub typed : (id : ℕ) → String → (code : ℕ) → Field
typed id name code =
    record { id = turned id; name = text name; kind = Primitive; flags = 0; code = code; attribute = 0 }

-- `count` 1, `day` 2 and `price` 3, of these type codes.
abbrev pub sales : (count day price : ℕ) → Forest Field
sales count day price =
    node (typed 1 "count" count) empty (node (typed 2 "day" day) empty (node (typed 3 "price" price) empty empty))

abbrev pub widens : (id version code : ℕ) → Edited
widens id version code = record { id = turned id; change = widen version code }

-- Of a run that answers `answers i` to request i. In version 2 `count` is widened to long, and `price` to a higher precision;
-- then `day` to timestamp, which is refused; in version 3 it is widened, and `price` again.
pub record WidenedInARow {A : Type 0} (answers : ℕ → Answer A) (at : ℕ → Schema) (sets : ℕ → List Edited) : Type 0 where
  pub first : (at 0).tree ≡ sales int date (decimal 9 2)
  pub widened : (at 1).tree ≡ sales long date (decimal 18 2)
  pub refused_day : answers 1 ≡ refused 26 6 0
  pub as_it_was : (at 2).tree ≡ sales long date (decimal 18 2)
  pub day_widened : (at 3).tree ≡ sales long timestamp (decimal 38 2)
  -- What was set between the first and the last, in order, each with the version of its own request.
  pub all_set : between sets 0 3
      ≡ widens 1 2 long ∷ widens 3 2 (decimal 18 2) ∷ widens 2 3 timestamp ∷ widens 3 3 (decimal 38 2) ∷ []
