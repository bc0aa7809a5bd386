-- Which ids of the base go, of its records; and what going up from a slot needs.
use Rattle.std.specs.Prelude.{ℕ, zero, suc, ◌*◌, ◌<◌, ◌≤◌, ◌≡◌, Bool, true, List, map, length, get_or}
use Rattle.paper.specs.Bytes.{turned, rec_at, kids_at, kind_at}
use Rattle.paper.specs.Field.{is_struct}
use Rattle.paper.specs.Forest.{Forest, preorder}
use Rattle.paper.specs.Gone.{gone}
use Rattle.paper.specs.Layout.{roots}
use Rattle.laws.proofs.Basics.{Distinct}
use Rattle.tree.specs.Read.{got, fine}
use Rattle.index_names.specs.Full.{ups}

-- The slots of the base in their trees, and the id at a slot.
abbrev pub base_slots : (records : List ℕ) (n : ℕ) → Forest ℕ
base_slots records n = (got (roots 0 (kids_at records) n n 0)).trees

abbrev pub slot_id : (records : List ℕ) (k : ℕ) → ℕ
slot_id records k = turned (rec_at records k).id

-- The ids of the records that go.
unfoldable pub ids_gone : (records : List ℕ) (n : ℕ) (dropped : List ℕ) → List ℕ
ids_gone records n dropped =
    map (slot_id records) (gone (slot_id records) (kind_at records) dropped true (base_slots records n))

-- Whether the siblings under a place are open to change: the root list is, and the members of a struct are.
abbrev pub open_under : (records : List ℕ) (above : ℕ) → Bool
open_under records zero = true
open_under records (suc p) = is_struct (kind_at records p)

-- n records that were read, no id twice; `us` has the place above each.
pub record Rises (records : List ℕ) (n : ℕ) (us : List ℕ) : Type 0 where
  pub whole : n * 24 ≤ length records
  pub small : n ≤ 1024
  pub read : fine (roots 0 (kids_at records) n n 0) ≡ true
  pub above : (k : ℕ) → k < n → get_or us k 0 ≡ get_or (ups 0 (base_slots records n)) k 0
  pub own : Distinct (map (slot_id records) (preorder (base_slots records n)))
