-- The bytes that planned records become, and what the writer leaves.
use Rattle.std.specs.Prelude.{ℕ, ◌-◌, ◌≡◌, List, ◌++◌, length, get_or, drop}
use Rattle.paper.specs.Forest.{Forest}
use Rattle.paper.specs.Field.{Field}
use Rattle.paper.specs.Bytes.{rec_at, kind_at}
use Rattle.paper.specs.Encode.{kind_byte, row24, record_bytes, pool_bytes}
use Rattle.record.specs.Trees.{Trees}
use Rattle.plan.specs.Plan.{by_source, edited_slot, mark_of, marked_flags, marked_code}
use Rattle.plan.specs.Sources.{marked_len}
use Rattle.plan.specs.Table.{sources, numbers, members}
use Rattle.plan.specs.declared.PlanRows.{PlanRows}

-- The record at a slot of a list, with another id, count, name offset, name length, flags and type code.
unfoldable pub row_of : List ℕ → (k id kids at len flags code : ℕ) → List ℕ
row_of records k id kids at len flags code =
    row24 id at len (kind_byte (kind_at records k)) flags kids code (rec_at records k).attribute

-- The same with its own name length, flags and type code.
abbrev pub kept_row : List ℕ → (k id kids at : ℕ) → List ℕ
kept_row records k id kids at =
    row_of records k id kids at (rec_at records k).name_len (rec_at records k).flags (rec_at records k).code

unfoldable pub source_row : (base added edits : List ℕ) → (x id kids at : ℕ) → List ℕ
source_row base added edits x id kids at =
    by_source x (kept_row base x id kids at) (kept_row added (x - 1024) id kids at)
    (row_of base (edited_slot x) id kids at (marked_len base edits (mark_of x) (edited_slot x))
    (marked_flags base (mark_of x) (edited_slot x)) (marked_code base edits (mark_of x) (edited_slot x)))

-- The bytes that the record at a place becomes, its name at offset `at` of the answer.
abbrev pub planned_row : Trees → (plan : PlanRows) (i at : ℕ) → List ℕ
planned_row l plan i at =
    source_row l.records l.added_records l.edits (get_or (sources plan) i 0) (get_or (numbers plan) i 0) (get_or (members plan) i 0) at

-- Bytes stand at the start of a buffer, and the rest is as it was.
abbrev pub Over : (bytes old new : List ℕ) → Type 0
Over bytes old new = new ≡ bytes ++ drop (length bytes) old

-- What the writer leaves in the two buffers, and the name bytes that it used.
pub record Written (t : Forest Field) (records names : List ℕ) (used : ℕ) (records' names' : List ℕ) : Type 0 where
  pub rows : Over (record_bytes t) records records'
  pub pool : Over (pool_bytes t) names names'
  pub bytes : used ≡ length (pool_bytes t)
