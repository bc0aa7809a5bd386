-- What the arrays of an index tell of the full names of m planned records.
use Rattle.std.specs.Prelude.{ℕ, ◌<◌, ◌≤◌, ◌≡◌, List, map, length, get_or}
use Rattle.std.proofs.lemmas.List.Edits.{sets}
use Rattle.paper.specs.Layout.{Part}
use Rattle.record.specs.Trees.{Trees}
use Rattle.plan.specs.Named.{name_in, Sources}
use Rattle.plan.specs.Plan.{kids_in}
use Rattle.plan.specs.Walk.{trees_of}
use Rattle.index_names.specs.Hash.{hash_of, tag_of}
use Rattle.index_names.specs.Full.{fulls, ups, full_at}

-- What a walk over a row leaves, whatever stands before its names: `len` and `hash` are that prefix's.
pub record Marked (name : ℕ → List ℕ) (p : Part) (slot up len hash : ℕ) (us ls ts us' ls' ts' : List ℕ) (r : ℕ) : Type 0 where
  pub next : r ≡ p.next
  pub ups_set : us' ≡ sets us slot (ups up p.trees)
  pub lens_set : (pre : List ℕ) → len ≡ length pre → ls' ≡ sets ls slot (map length (fulls name pre p.trees))
  pub tags_set : (pre : List ℕ) → hash ≡ hash_of pre → ts' ≡ sets ts slot (map tag_of (fulls name pre p.trees))

-- `us` holds the place above each slot.
pub record Raised (ks : List ℕ) (m : ℕ) (us : List ℕ) : Type 0 where
  pub above : (k : ℕ) → k < m → get_or us k 0 ≡ get_or (ups 0 (trees_of (kids_in ks) m)) k 0

-- The places above, and the lengths and tags of the full names.
pub record Spelt (l : Trees) (xs : List ℕ) (m : ℕ) (us ls : List ℕ) : Type 0 where
  pub sources : Sources l xs m
  pub falls : (k : ℕ) → k < m → get_or us k 0 ≤ k
  pub len : (k : ℕ) → k < m → get_or ls k 0 ≡ length (full_at (name_in l xs) us k)

pub record Tagged (l : Trees) (xs : List ℕ) (m : ℕ) (us ts : List ℕ) : Type 0 where
  pub tag : (k : ℕ) → k < m → get_or ts k 0 ≡ tag_of (full_at (name_in l xs) us k)
