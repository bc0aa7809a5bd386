-- A planned record's name, length and kind are its source's. `search sourced`.
use mathlib.Core.Path.{◌≡◌, ◌∙◌}
use mathlib.Core.List.{List}
use Prim.Native.Nat.{ℕ, ◌<◌}
use native.Mathlib.Omega.{arith}
use lib.ListN.{length, get_or}
use Rattle.paper.specs.declared.Kind.{Kind}
use Rattle.record.specs.Trees.{Trees}
use Rattle.plan.specs.Plan.{source_field, Sits}
use Rattle.plan.specs.Sources.{source_kind, source_len, In}
use Rattle.plan.proofs.Sourcing.{sits_in, kind_source, len_source}
use Rattle.plan.specs.Named.{name_in, kind_in, Sources}

module _ (l : Trees) (xs : List ℕ) (m k : ℕ) (s : Sources l xs m) (q : k < m) where
  pub source_small : k < 1024
  source_small = let z = s.few in omega arith

  pub source_sits : Sits l (get_or xs k 0)
  source_sits = s.sits k q

  pub source_in : In l.records l.added_records l.edits (get_or xs k 0)
  source_in = sits_in l (get_or xs k 0) (s.sits k q)

  pub len_is : (r : ℕ) → r ≡ source_len l.records l.added_records l.edits (get_or xs k 0) → r ≡ length (name_in l xs k)
  unfolding name_in
  len_is r e = e ∙ len_source l (get_or xs k 0) (s.sits k q)

pub name_is : (l : Trees) (xs : List ℕ) (k : ℕ) (r : List ℕ) → r ≡ (source_field l (get_or xs k 0)).name → r ≡ name_in l xs k
unfolding name_in
name_is l xs k r e = e

pub kind_is : (l : Trees) (xs : List ℕ) (k : ℕ) (r : Kind) → r ≡ source_kind l.records l.added_records (get_or xs k 0) → r ≡ kind_in l xs k
unfolding kind_in
kind_is l xs k r e = e ∙ kind_source l (get_or xs k 0)

pub ruleset sourced = (source_small, source_sits, source_in, len_is, name_is, kind_is)
