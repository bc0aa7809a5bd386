-- An index lies in one table of eight rows: the paths of ids, what is known of each slot's full name, the chains of full names. Its
-- rows by their names, and which rows a writer leaves.
use Rattle.std.specs.Prelude.{ℕ, suc, ◌<◌, ◌≤◌, ◌≡◌, List, [], length, get_or}
use Rattle.index_ids.specs.Chain.{Cleared, Entered}

abbrev pub row : (index : List (List ℕ)) → ℕ → List ℕ
row index r = get_or index r []

-- Heads of the paths of ids, and their links by a bit.
abbrev pub id_heads : List (List ℕ) → List ℕ
id_heads index = row index 0

abbrev pub id_next : (bit : ℕ) → List (List ℕ) → List ℕ
id_next bit index = row index (suc bit)

-- The place above each slot, and the length and the tag of its full name.
abbrev pub ups_in : List (List ℕ) → List ℕ
ups_in index = row index 3

abbrev pub lens_in : List (List ℕ) → List ℕ
lens_in index = row index 4

abbrev pub tags_in : List (List ℕ) → List ℕ
tags_in index = row index 5

-- Heads and links of the chains of full names; or what is remembered, and the sorted slots (crates/index_full_names).
abbrev pub name_heads : List (List ℕ) → List ℕ
name_heads index = row index 6

abbrev pub name_next : List (List ℕ) → List ℕ
name_next index = row index 7

-- Eight rows of 1,024 numbers.
pub record Rooms (index : List (List ℕ)) : Type 0 where
  pub rows : length index ≡ 8
  pub wide : (r : ℕ) → r < 8 → length (row index r) ≡ 1024

-- An index that is fresh, as a table of zeros is: no id stands on a path, and no full name in a chain.
pub record Fresh (index : List (List ℕ)) : Type 0 where
  pub rooms : Rooms index
  pub ids : Cleared (id_heads index)
  pub names : Cleared (name_heads index)

-- The rows below a and those from b on are as they were, and all have the room that they had.
pub record Within (a b : ℕ) (old new : List (List ℕ)) : Type 0 where
  pub below : (r : ℕ) → r < a → row new r ≡ row old r
  pub beyond : (r : ℕ) → b ≤ r → row new r ≡ row old r
  pub rooms : Rooms old → Rooms new

-- What entering the slot k in the bucket b leaves, where the row h has the heads and the next one the links.
pub record EnteredIn (h b k : ℕ) (old new : List (List ℕ)) : Type 0 where
  pub entered : Entered (row old h) (row old (suc h)) b k (row new h) (row new (suc h))
  pub within : Within h (suc (suc h)) old new
