-- Each id counts where it is found. Assumes nothing.
use Prim.Native.Nat.{◌≤◌}
use mathlib.Core.Path.{◌≡◌}
use Rattle.plan.specs.Table.{numbers}
use Rattle.index_timed.specs.Timed.{each_round}
use Rattle.index_timed.proofs.search_each.Given as goal

abbrev pub invariant-loop-i : goal.invariant-loop-i
invariant-loop-i l = (l.found ≡ each_round (numbers l.plan) l.m l.ids l.count l.i) × (l.i ≤ l.n)
