-- What is left of the list gives the whole answer, whatever the test is.
use Rattle.std.proofs.Common.{◌≡◌, ℕ, Bool, ◌-◌, ◌<◌, ◌≤◌}
use Rattle.std.proofs.Math.Option.{none}
use Rattle.paper.specs.Answer.{lowest}
use Rattle.record.proofs.check_each.Given as goal

abbrev pub invariant-loop-i : goal.invariant-loop-i
invariant-loop-i g l =
    (l.from ≤ l.i) × (l.i ≤ l.n)
    × ((test : ℕ → Bool) → ((i : ℕ) (b : Bool) → i < l.n → goal.F-post g l.holds i b → b ≡ test i) → lowest test 0 l.from ≡ none → lowest test 0 l.n ≡ lowest test l.i (l.n - l.i))
