-- What renumbering leaves in a plan's ids: place k holds the new number of the record at slot k, as 32 bits.
use Rattle.std.specs.Prelude.{ℕ, ◌+◌, ◌<◌, ◌≡◌, Bool, List, map}
use Rattle.std.proofs.lemmas.List.Edits.{sets}
use Rattle.paper.specs.declared.Kind.{Kind}
use Rattle.paper.specs.Forest.{Forest, size, preorder}
use Rattle.paper.specs.Bytes.{turned, kind_at}
use Rattle.paper.specs.Renumber.{inside_first, level}
use Rattle.plan.specs.Plan.{Source, bits_of}
use Rattle.tree_walk.specs.There.{row_of, There}
use Rattle.renumber_id_reassigner.specs.declared.Reassigned.{Reassigned}

-- The record at slot k with the number i, as a plan has it.
abbrev pub numbered_source : ℕ → ℕ → Source
numbered_source i k = record { slot = k; id = turned i }

-- The new ids of siblings and their insides in slot order, as 32 bits. The first sibling gets `own`, and its inside begins at `next`.
unfoldable pub new_ids : (ℕ → Kind) → Bool → (own next : ℕ) → Forest ℕ → List ℕ
new_ids kind m? own next t = map bits_of (preorder (level numbered_source kind m? own next t))

-- The trees stand there, and there are numbers for their records.
pub record Room (records : List ℕ) (lv c k : ℕ) (ids : List ℕ) (first : ℕ) : Type 0 where
  pub there : There records lv c k
  pub numbers : first + size (row_of records lv c k).trees < 4294967296

-- The trees, siblings of a map or not, got the numbers from `first` on, and no other place changed.
pub record Given (records : List ℕ) (m? : Bool) (lv c k : ℕ) (ids : List ℕ) (first : ℕ) (r : Reassigned) (ids' : List ℕ) : Type 0 where
  pub next : r.next ≡ (row_of records lv c k).next
  pub counter : r.next_field_id ≡ first + size (row_of records lv c k).trees
  pub given : ids' ≡ sets ids k (new_ids (kind_at records) m? first (inside_first m? first (row_of records lv c k).trees) (row_of records lv c k).trees)
