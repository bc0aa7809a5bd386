-- An id is no slot. 01: an id is what data files carry, a slot a place in today's list; both are small numbers, and no slot may
-- be handed out as an id. In the code they are types of their own (`FieldId`, `Slot`); here both are numbers, and what is meant
-- is that each stands for what it says: the record at the answered slot is there, and has the answered id.
use Rattle.std.specs.Prelude.{ℕ, ◌<◌, ◌≡◌, List, get_or}
use Rattle.std.proofs.Math.Option.{Option, none, some}
use Rattle.paper.specs.Answer.{ok}
use Rattle.paper.specs.Rows.{Row}
use Rattle.paper.specs.Bytes.{turned, rec_at, slots}
use Rattle.paper.specs.Entries.{find_name, find_id, find_parent, find_folded, find_ids}
use Rattle.paper.specs.Outcome.{Found, found}
use Rattle.paper.specs.Sample.{T_records, T_pool}
use Rattle.theorems.specs.Many.{asked_at}

-- Where something is found. Two numbers that `turned` makes one are the same 32 bits.
pub record AtItsSlot (records : List ℕ) (said : Found) : Type 0 where
  pub there : said.slot < slots records
  pub same_id : turned said.id ≡ turned (rec_at records said.slot).id

abbrev pub found_at : (id slot : ℕ) → Found
found_at id slot = record { refusal = 0; list = 0; place = 0; found = 1; id = id; slot = slot }

abbrev pub not_found : Found
not_found = record { refusal = 0; list = 0; place = 0; found = 0; id = 0; slot = 0 }

pub record IdsAreNoSlots : Type 0 where
  pub by_name : (records pool name : List ℕ) → (found (find_name records pool name)).found ≡ 1
      → AtItsSlot records (found (find_name records pool name))
  -- What is found by an id has that id.
  pub by_id : (records pool : List ℕ) (id : ℕ) → (found (find_id records pool id)).found ≡ 1
      → AtItsSlot records (found (find_id records pool id))
      × (turned (found (find_id records pool id)).id ≡ turned id)
  pub by_parent : (records pool : List ℕ) (id : ℕ) → (found (find_parent records pool id)).found ≡ 1
      → AtItsSlot records (found (find_parent records pool id))
  pub by_folded_name : (records pool name : List ℕ) → (found (find_folded records pool name)).found ≡ 1
      → AtItsSlot records (found (find_folded records pool name))
  -- Of many ids, each is that of the record at the slot that is told of it.
  pub by_ids : (records pool ids : List ℕ) (room_slots : ℕ) (rows : List (Option Row))
      → find_ids records pool ids room_slots ≡ ok rows → (i : ℕ) (row : Row) → get_or rows i none ≡ some row
      → AtItsSlot records (found_at (asked_at ids i) row.slot)
  -- The two differ, both ways: T has ids 3 and 6 and slots 3 and 6. Id 3 is at slot 6 and id 6 at slot 4; slot 3 has
  -- id 2. Slot 0 is there and id 0 is not; id 10 is there and slot 10 is not.
  pub id_3 : found (find_id T_records T_pool 3) ≡ found_at 3 6
  pub id_6 : found (find_id T_records T_pool 6) ≡ found_at 6 4
  pub slot_3 : (rec_at T_records 3).id ≡ 2
  pub id_0 : found (find_id T_records T_pool 0) ≡ not_found
  pub id_10 : found (find_id T_records T_pool 10) ≡ found_at 10 9
