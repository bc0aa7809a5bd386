-- What an answer of the code says: for each of its cases the paper's number and values.
use Rattle.std.specs.Prelude.{ℕ, zero, suc, length}
use Rattle.std.proofs.Math.Option.{Option, none, some}
use Rattle.paper.specs.Answer.{Answer, ok, refused}
use Rattle.paper.specs.Forest.{size}
use Rattle.paper.specs.Rows.{Row}
use Rattle.paper.specs.Bytes.{turned}
use Rattle.paper.specs.Encode.{pool_bytes}
use Rattle.paper.specs.Entries.{Result}
use Rattle.record.specs.declared.Refusal.{Refusal}
use Rattle.record.specs.Answers.{Check, Found, FoundSlot, Sought, Changed}
use Rattle.std.specs.Prelude.{Ok, Err, Some, None}

abbrev pub refusal_of : (number list place : ℕ) → Refusal
refusal_of n l p = record { number = n; list = l; place = p }

-- A test over a list: refusal `number` of `list` at the place that was found, if one was.
unfoldable pub tested : (number list : ℕ) → Option ℕ → Check
tested number list none = (Ok tt)
tested number list (some p) = Err (refusal_of number list p)

unfoldable pub checked : Answer (Unit {0}) → Check
checked (ok u) = (Ok tt)
checked (refused n l p) = Err (refusal_of n l p)

-- The slot before a place, which is one more than a slot, or 0 for none.
unfoldable pub slot_before : ℕ → FoundSlot
slot_before zero = None
slot_before (suc k) = Some (record { 0 = k })

-- A row that a look-up finds: its id as 32 bits, and its slot.
unfoldable pub found_row : Option Row → Found
found_row none = None
found_row (some r) = Some ((record { 0 = turned r.field.id }), (record { 0 = r.slot }))

unfoldable pub looked : Answer (Option Row) → Sought
looked (ok o) = Ok (found_row o)
looked (refused n l p) = Err (refusal_of n l p)

unfoldable pub changes : Answer Result → Changed
changes (ok r) = Ok (record { records = size r.tree; names = length (pool_bytes r.tree); last_id = r.last; visited = r.visited })
changes (refused n l p) = Err (refusal_of n l p)
