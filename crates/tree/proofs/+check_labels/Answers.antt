-- The levels left fall at each call, and the siblings left at each turn.
use Rattle.std.proofs.lemmas.Result.{err_from_is_err_and}
use Rattle.tree.proofs.Labels.{labelling}
use borrow.Author.Rules.{rules}
use native.Mathlib.Omega.{arith}
use Rattle.tree.proofs.+check_labels.Goals as goal

pub loop-left-init : goal.loop-left-init
loop-left-init t c = search (labelling, rules)

pub label_ok-requires : goal.label_ok-requires
label_ok-requires t c = search (labelling, rules)

pub returns-then-not-label_ok : goal.returns-then-not-label_ok
returns-then-not-label_ok t c = search (labelling, rules)

pub loop-left-preserved-then-kids-eq0 : goal.loop-left-preserved-then-kids-eq0
loop-left-preserved-then-kids-eq0 t c = search (labelling, rules)

pub check_labels-requires : goal.check_labels-requires
check_labels-requires t c = (omega arith, (omega arith, omega arith, omega arith, search labelling, search rules))

pub returns-in_err-at : goal.returns-in_err-at
returns-in_err-at t c =
    let p = err_from_is_err_and c.from_residual.result c.from_residual.ensures.1 in
    rw (p.1, p.2) (search (labelling, rules, c.in_err-at.was))

pub loop-left-preserved : goal.loop-left-preserved
loop-left-preserved t c = search (labelling, rules, c.in_ok-at.was)

pub returns : goal.returns
returns t c = search (labelling, rules)
