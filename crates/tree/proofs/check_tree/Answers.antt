-- Four tests in the order of `decode`; what one pass tells of 3 and 4 is where they begin, and 3, 4 and 5 give what the labels ask.
use Rattle.std.proofs.lemmas.Result.{err_from_is_err_and}
use Rattle.tree.proofs.Deciding.{deciding, planted}
use native.Mathlib.Omega.{arith}
use Rattle.tree.proofs.check_tree.Goals as goal

pub returns-in_err-check_bytes : goal.returns-in_err-check_bytes
returns-in_err-check_bytes c =
    let p = err_from_is_err_and c.from_residual.result c.from_residual.ensures.1 in
    rw (p.1, p.2) (search (deciding, c.in_err-check_bytes.was))

pub returns-in_err-check_bounds : goal.returns-in_err-check_bounds
returns-in_err-check_bounds c =
    let p = err_from_is_err_and c.from_residual-in_err-check_bounds.result c.from_residual-in_err-check_bounds.ensures.1 in
    rw (p.1, p.2) (search (deciding, c.in_ok-check_bytes.was, c.in_err-check_bounds.was))

pub returns-in_err-count : goal.returns-in_err-count
returns-in_err-count c =
    let p = err_from_is_err_and c.from_residual-in_err-count.result c.from_residual-in_err-count.ensures.1 in
    rw (p.1, p.2) (search (deciding, c.in_ok-check_bytes.was, c.in_ok-check_bounds.was, c.in_err-count.was))

pub label_roots-requires : goal.label_roots-requires
label_roots-requires c = (planted _ _ _ _ _ _ _ _ (omega arith) (omega arith) c.check_bytes.ensures c.in_ok-check_bytes.was c.check_bounds.ensures c.in_ok-check_bounds.was c.check_shape.ensures c.in_ok-count.was, c.sift-sifted.ensures.level)

pub returns-in_err-label_roots : goal.returns-in_err-label_roots
returns-in_err-label_roots c =
    let p = err_from_is_err_and c.from_residual-in_err-label_roots.result c.from_residual-in_err-label_roots.ensures.1 in
    rw (p.1, p.2) (search (deciding, c.in_ok-check_bytes.was, c.in_ok-check_bounds.was, c.in_ok-count.was, c.in_err-label_roots.was))

pub returns : goal.returns
returns c = search (deciding, c.in_ok-check_bytes.was, c.in_ok-check_bounds.was, c.in_ok-count.was, c.in_ok-label_roots.was)
