-- What is left of the list gives the whole answer, whatever the test is.
use Rattle.std.proofs.Common.{not, ap, arith}
use Rattle.record.proofs.Lowest.{look_from, look_goes, look_stops, look_ends}
use Rattle.record.proofs.check_each.Goals as goal

pub loop-i-init : goal.loop-i-init
loop-i-init g c = (omega arith, omega arith, λ test told none. look_from test c.args.from c.args.n (omega arith) none)

pub returns-then-not-holds : goal.returns-then-not-holds
returns-then-not-holds g c =
    λ test told none.
    look_stops test c.args.number c.args.list _ c.loop-i.i c.args.n _ (c.loop-i.invariant.2 test told none) (omega arith) (told c.loop-i.i _ (omega arith) c.holds.ensures) (ap not c.if-not-holds.true)

pub loop-i-preserved : goal.loop-i-preserved
loop-i-preserved g c = (
  omega arith,
  omega arith,
  λ test told none.
      look_goes test _ c.loop-i.i c.args.n _ (c.loop-i.invariant.2 test told none) (omega arith) (told c.loop-i.i _ (omega arith) c.holds.ensures) (ap not c.if-not-holds.false),
)

pub returns : goal.returns
returns g c = λ test told none. look_ends test c.args.number c.args.list _ c.loop-i.i c.args.n (c.loop-i.invariant.2 test told none) (omega arith)
