-- 02, 2/13: the search for many ids, told by the search for one: the same rows, the same refusals, as many found; and the
-- bytes that stand for its rows.
use Rattle.std.specs.Prelude.{ℕ, ◌*◌, ◌/◌, ◌<◌, ◌≡◌, ◌↔◌, true, List, [], leb, length, get_or, take, drop}
use Rattle.std.proofs.Math.Option.{Option, none, some}
use Rattle.paper.specs.Answer.{ok, refused, ◌>>=◌}
use Rattle.paper.specs.Rows.{Row}
use Rattle.paper.specs.Bytes.{word32}
use Rattle.paper.specs.Encode.{bytes32}
use Rattle.paper.specs.Limits.{whole, sum_from}
use Rattle.paper.specs.Entries.{find_id, find_ids}
use Rattle.paper.specs.Outcome.{found, searched, slot_number, out_slots, leaves}

-- ---- ids that are asked for, four bytes each

abbrev pub how_many_asked : (ids : List ℕ) → ℕ
how_many_asked ids = length ids / 4

-- The 32 bits of one of them, as the search for one takes them.
abbrev pub asked_at : (ids : List ℕ) (i : ℕ) → ℕ
asked_at ids i = word32 ids (i * 4)

-- 1 and 2 let them through.
abbrev pub Lendable : (ids : List ℕ) (room_slots : ℕ) → Type 0
Lendable ids room_slots = (leb (length ids) room_slots ≡ true) × (whole 4 1024 ids ≡ true)

-- ---- as many searches for one

pub record OneByOne (records pool ids : List ℕ) (room_slots : ℕ) : Type 0 where
  -- The search for the i-th id answers the i-th row, or is refused as the search for all is;
  pub each : (i : ℕ) → i < how_many_asked ids
      → find_id records pool (asked_at ids i) ≡ (find_ids records pool ids room_slots >>= λ rows. ok (get_or rows i none))
  -- and so is that for any id: where none is asked for the tree is tested all the same.
  pub tested : (id number list place : ℕ) → (find_id records pool id ≡ refused number list place)
      ↔ (find_ids records pool ids room_slots ≡ refused number list place)
  -- As many are found as searches for one find, each time that an id is asked for.
  pub counted : (searched (find_ids records pool ids room_slots)).found
      ≡ sum_from (λ i. (found (find_id records pool (asked_at ids i))).found) 0 (how_many_asked ids)

-- ---- accepted rows

pub record InSlots (ids : List ℕ) (rows : List (Option Row)) : Type 0 where
  -- There are as many as ids, and as many bytes as were asked with.
  pub as_many : length rows ≡ how_many_asked ids
  pub as_long : length (out_slots rows) ≡ length ids
  -- The i-th four bytes are those of the i-th row's number; a caller who reads them in the buffer has that number.
  pub four_bytes : (i : ℕ) → i < how_many_asked ids
      → take 4 (drop (i * 4) (out_slots rows)) ≡ bytes32 (slot_number (get_or rows i none)) []
  pub in_buffer : (old : List ℕ) (i : ℕ) → i < how_many_asked ids
      → word32 (leaves out_slots (ok rows) old) (i * 4) ≡ slot_number (get_or rows i none)
  -- It is a slot, below 1,024, or the mark; so the mark means that there is none, and nothing else means it.
  pub below : (i : ℕ) (row : Row) → get_or rows i none ≡ some row → row.slot < 1024
  pub marked : (i : ℕ) → (slot_number (get_or rows i none) ≡ 4_294_967_295) ↔ (get_or rows i none ≡ none)
