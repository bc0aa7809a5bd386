-- Identifier ids, mapped to the new ids: by the slots of their records, which the index finds by the old ids.
use Rattle.std.specs.Prelude.{ℕ, ◌*◌, ◌/◌, ◌≤◌, ◌<◌, ◌≡◌, not, List, ◌++◌, eqb, length, get_or, drop}
use Rattle.std.proofs.Math.Option.{none, some}
use Rattle.paper.specs.Answer.{among, place_of}
use Rattle.paper.specs.Bytes.{from}
use Rattle.paper.specs.Lists.{id_at, id_list}
use Rattle.paper.specs.Encode.{id_bytes}
use Rattle.index_ids.specs.Ids.{id_in, ids_in}
use Rattle.index_ids.specs.Path.{IdsChained}

-- 9 was tested, the ids are indexed, and there is room for the slots.
pub record Findable (identifiers ids : List ℕ) (index : List (List ℕ)) (m : ℕ) (slots : List ℕ) : Type 0 where
  pub few : m ≤ 1024
  pub chained : IdsChained ids index m
  pub known : place_of (λ i. not (among i (ids_in ids m))) 0 (id_list identifiers) ≡ none
  pub few_identifiers : length identifiers ≤ 256
  pub room : length slots ≡ 64

-- The slot of each identifier: where its id stands among the ids.
pub record Located (identifiers ids : List ℕ) (m : ℕ) (slots : List ℕ) : Type 0 where
  pub stands : (i : ℕ) → i < length identifiers / 4
      → place_of (eqb (id_at identifiers i)) 0 (ids_in ids m) ≡ some (get_or slots i 0)

-- The first n slots are places of a plan, and there is room.
pub record Applicable (n : ℕ) (slots out : List ℕ) : Type 0 where
  pub few : n ≤ 64
  pub small : (i : ℕ) → i < n → get_or slots i 0 < 1024
  pub room : n * 4 ≤ length out

-- The bytes of the ids at the first n slots.
unfoldable pub bytes_at : (n : ℕ) (slots ids : List ℕ) → List ℕ
bytes_at n slots ids = id_bytes (from (λ i. id_in ids (get_or slots i 0)) 0 n)

-- These bytes, then the old ones.
pub record Applied (n : ℕ) (slots ids out out' : List ℕ) : Type 0 where
  pub bytes : out' ≡ bytes_at n slots ids ++ drop (length (bytes_at n slots ids)) out
