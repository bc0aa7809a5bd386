-- The same, said of a plan's table and an index's.
use Rattle.std.specs.Prelude.{ℕ, ◌+◌, ◌≤◌, ◌≡◌, List, length, set}
use Rattle.paper.specs.Layout.{Part}
use Rattle.record.specs.Trees.{Trees}
use Rattle.plan.specs.Table.{sources}
use Rattle.plan.specs.Named.{names_in}
use Rattle.index_ids.specs.Table.{ups_in, lens_in, tags_in, Within}
use Rattle.index_names.specs.declared.Prefix.{Prefix}
use Rattle.index_names.specs.Hash.{mix, hash_on, tag}
use Rattle.index_names.specs.Full.{full_at}
use Rattle.index_names.specs.Told.{Marked, Spelt, Tagged}
use Rattle.plan.specs.declared.PlanRows.{PlanRows}

-- The full name of a slot.
abbrev pub full_in : Trees → (plan : PlanRows) (index : List (List ℕ)) → ℕ → List ℕ
full_in l plan index = full_at (names_in l plan) (ups_in index)

abbrev pub SpeltIn : Trees → (plan : PlanRows) (m : ℕ) (index : List (List ℕ)) → Type 0
SpeltIn l plan m index = Spelt l (sources plan) m (ups_in index) (lens_in index)

abbrev pub TaggedIn : Trees → (plan : PlanRows) (m : ℕ) (index : List (List ℕ)) → Type 0
TaggedIn l plan m index = Tagged l (sources plan) m (ups_in index) (tags_in index)

-- What is kept of one slot is put into the three rows of the names, and no other is written.
pub record PutIn (k up len tag : ℕ) (old new : List (List ℕ)) : Type 0 where
  pub ups_put : ups_in new ≡ set (ups_in old) k up
  pub lens_put : lens_in new ≡ set (lens_in old) k len
  pub tags_put : tags_in new ≡ set (tags_in old) k tag
  pub within : Within 3 6 old new

-- What stands before the names inside the record k.
abbrev pub inside : (name : ℕ → List ℕ) (k : ℕ) → Prefix → Prefix
inside name k p = record { hash = mix (hash_on p.hash (name k)) 46; len = p.len + length (name k) + 1 }

-- One record is marked.
pub record OneIn (name : ℕ → List ℕ) (k up : ℕ) (p r : Prefix) (old new : List (List ℕ)) : Type 0 where
  pub put : PutIn k up (p.len + length (name k)) (tag (hash_on p.hash (name k))) old new
  pub inner : r ≡ inside name k p
  pub room : r.len ≤ p.len + 256

-- What a walk over a row leaves: the three rows of the names, and no other, are written.
pub record MarkedIn (name : ℕ → List ℕ) (p : Part) (slot up len hash : ℕ) (old new : List (List ℕ)) (r : ℕ) : Type 0 where
  pub marked : Marked name p slot up len hash (ups_in old) (lens_in old) (tags_in old) (ups_in new) (lens_in new) (tags_in new) r
  pub within : Within 3 6 old new
