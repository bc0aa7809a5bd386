-- Where the name of the record at a slot stands in the lent pool, and its six numbers.
use Rattle.std.specs.Prelude.{ℕ, ◌+◌, ◌≤◌, ◌≡◌, cond, List, ltb, length, take, drop}
use Rattle.std.proofs.Math.Option.{Option, none, some}
use Rattle.paper.specs.Answer.{Answer, ok, refused, ◌>>◌, lowest}
use Rattle.paper.specs.Refusals.{pooled}
use Rattle.paper.specs.Bytes.{rec_at, in_pool, slots}
use Rattle.paper.specs.Rows.{Row}
use Rattle.braidhurdle.specs.declared.NameNumbers.{NameNumbers}

-- A part of a pool.
pub record Part : Type 0 where
  pub offset : ℕ
  pub size : ℕ

abbrev pub part_at : List ℕ → ℕ → Part
part_at records k = record { offset = (rec_at records k).name_at; size = (rec_at records k).name_len }

-- 4 is asked of the one record.
abbrev pub part_in : (records pool : List ℕ) (slot : ℕ) → Answer (Option Part)
part_in records pool k = do
  pooled 0 (lowest (in_pool (length pool) records) k 1)
  ok (some (part_at records k))

-- Nothing for a slot behind the last record.
unfoldable pub found_name : (records pool : List ℕ) (slot : ℕ) → Answer (Option Part)
found_name records pool k = cond (ltb k (slots records)) (part_in records pool k) (ok none)

-- Where there is no name, or on a refusal, offset and length are 0.
unfoldable pub name_numbers : Answer (Option Part) → NameNumbers
name_numbers (ok (some p)) =
    record { refusal = 0; list = 0; place = 0; found = 1; offset = p.offset; length = p.size }
name_numbers (ok none) = record { refusal = 0; list = 0; place = 0; found = 0; offset = 0; length = 0 }
name_numbers (refused n l p) = record { refusal = n; list = l; place = p; found = 0; offset = 0; length = 0 }

-- p is where the name of a row lies: the answer is p, it lies in the pool, and its bytes are the pool's own there.
pub record Shows (records pool : List ℕ) (r : Row) (p : Part) : Type 0 where
  pub answer : found_name records pool r.slot ≡ ok (some p)
  pub inside : p.offset + p.size ≤ length pool
  pub bytes : take p.size (drop p.offset pool) ≡ r.field.name
