-- What the limits give to those who read on: how long each list can be.
use mathlib.Core.Path.{◌≡◌, refl, sym, ◌∙◌}
use mathlib.Core.List.{List}
use mathlib.Core.Bool.{Bool, true, false, not, ◌&&◌}
use Prim.Native.Nat.{ℕ, ◌*◌, ◌/◌, ◌%◌, ◌≤◌}
use native.Mathlib.Omega.{arith}
use borrow.Author.Tests.{leb-true, not-true, not-false}
use lib.Dec.{eqb, leb}
use lib.ListN.{length}
use Rattle.paper.specs.Limits.{whole, sum_from, name_lens, name_sum, tree_sized, sized, sized_ids, sized_update}
use Rattle.paper.specs.Lent.{Stored, Lent}
use Rattle.laws.proofs.RoundTrip.{both}

pub whole_most : (item most : ℕ) (s : List ℕ) → whole item most s ≡ true → length s ≤ item * most
unfolding whole
whole_most item most s e = leb-true (length s) (item * most) (both (eqb (length s % item) 0) _ e).1

pub tree_most : (s p : List ℕ) → sized s p ≡ true → length s ≤ 24576
unfolding sized tree_sized
tree_most s p e = whole_most 24 1024 s (both (whole 24 1024 s) _ (both (tree_sized s) _ e).0).0

-- where `sized_ids` said yes: `search ids_within`
module _ (most : ℕ) (s p i : List ℕ) (t : Bool) (e : t ≡ sized_ids most s p i) (f : not t ≡ false) where
  parts : (sized s p ≡ true) × (whole 4 most i ≡ true)
  unfolding sized_ids
  parts = both (sized s p) (whole 4 most i) (sym e ∙ not-false t f)

  pub ids_tree : length s ≤ 24576
  ids_tree = tree_most s p parts.0

  pub ids_most : length i ≤ 4 * most
  ids_most = whole_most 4 most i parts.1

  pub ids_sized : sized s p ≡ true
  ids_sized = parts.0

pub ruleset ids_within = (ids_tree, ids_most, ids_sized)

-- where `sized_update` said yes: `search update_within`
module _ (stored : Stored) (lent : Lent) (t : Bool) (e : t ≡ sized_update stored lent) (f : not t ≡ false) where
  abbrev paths : Bool
  paths = whole 8 64 lent.deletions && whole 8 64 lent.additions

  abbrev entries : Bool
  entries = paths && whole 16 64 lent.edits

  halves : (sized_ids 64 stored.records stored.pool lent.identifiers ≡ true)
      × ((entries && sized lent.added_records lent.request_pool) ≡ true)
  unfolding sized_update
  halves = both (sized_ids 64 stored.records stored.pool lent.identifiers) _ (sym e ∙ not-false t f)

  all : (paths ≡ true) × (whole 16 64 lent.edits ≡ true)
  all = both paths _ (both entries _ halves.1).0

  lists : (whole 8 64 lent.deletions ≡ true) × (whole 8 64 lent.additions ≡ true)
  lists = both (whole 8 64 lent.deletions) _ all.0

  pub update_sized : sized stored.records stored.pool ≡ true
  update_sized = ids_sized 64 stored.records stored.pool lent.identifiers true (sym halves.0) refl

  pub added_sized : sized lent.added_records lent.request_pool ≡ true
  added_sized = (both entries _ halves.1).1

  pub base_most : length stored.records ≤ 24576
  base_most = tree_most stored.records stored.pool update_sized

  pub added_most : length lent.added_records ≤ 24576
  added_most = tree_most lent.added_records lent.request_pool added_sized

  pub identifiers_most : length lent.identifiers ≤ 256
  identifiers_most = ids_most 64 stored.records stored.pool lent.identifiers true (sym halves.0) refl

  pub deletions_most : length lent.deletions ≤ 512
  deletions_most = whole_most 8 64 lent.deletions lists.0

  pub additions_most : length lent.additions ≤ 512
  additions_most = whole_most 8 64 lent.additions lists.1

  pub edits_most : length lent.edits ≤ 1024
  edits_most = whole_most 16 64 lent.edits all.1

pub ruleset update_within = (update_sized, added_sized, base_most, added_most, identifiers_most, deletions_most, additions_most, edits_most)

-- a tree: a whole number of records first, then its name sum. `search sizing`
module _ (s : List ℕ) (b : Bool) (e : b ≡ whole 24 1024 s) where
  pub not_whole : not b ≡ true → false ≡ tree_sized s
  unfolding tree_sized
  not_whole t = rw (← e, not-true b t)

  module _ (t : not b ≡ false) where
    pub slots_most : (m : ℕ) → m ≡ length s → m / 24 ≤ 1024
    slots_most m d = let l = whole_most 24 1024 s (sym e ∙ not-false b t) in omega arith

    pub sum_left : (x : ℕ) → x ≡ sum_from (name_lens s) 0 (length s / 24) → leb x 32768 ≡ tree_sized s
    unfolding tree_sized name_sum
    sum_left x d = rw (← e, not-false b t, d)

pub ruleset sizing = (not_whole, slots_most, sum_left)
