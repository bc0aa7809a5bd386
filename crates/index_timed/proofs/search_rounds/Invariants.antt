-- The count goes from round to round. Assumes nothing.
use Prim.Native.Nat.{◌≤◌}
use mathlib.Core.Path.{◌≡◌}
use Rattle.plan.specs.Table.{numbers}
use Rattle.index_timed.specs.Timed.{all_rounds}
use Rattle.index_timed.proofs.search_rounds.Given as goal

abbrev pub invariant-loop-k : goal.invariant-loop-k
invariant-loop-k l = (l.count ≡ all_rounds (numbers l.plan) l.m l.ids l._k) × (l._k ≤ l.rounds)
