-- A refusal is `read`'s; else the look-up is in the tree that was read.
use Rattle.std.proofs.lemmas.Result.{err_from_is_err_and}
use Rattle.index_ids.proofs.Tables.{fresh_index}
use Rattle.index.proofs.Opening.{readable, opened}
use Rattle.index_folded.proofs.Looking.{finding}
use borrow.Author.Rules.{rules}
use Rattle.index_folded.proofs.find_folded.Goals as goal

pub returns-in_err-read_tree : goal.returns-in_err-read_tree
returns-in_err-read_tree c =
    let p = err_from_is_err_and c.from_residual.result c.from_residual.ensures.1 in
    rw (p.1, p.2) (search (finding, rules, c.in_err-read_tree.was))

pub index_base-requires : goal.index_base-requires
index_base-requires c = (rw c.alone-trees.ensures (readable _ _ _ c.read_tree.ensures _ c.in_ok-read_tree.was), (search rules, (c.empty-plan.ensures.room, fresh_index)))

pub returns-in_err-index_base : goal.returns-in_err-index_base
returns-in_err-index_base c =
    let o = opened _ _ _ c.read_tree.ensures _ c.in_ok-read_tree.was _ _ _ _ (rw c.alone-trees.ensures at c.index_base.ensures) in
    let p = err_from_is_err_and c.from_residual-in_err-index_base.result c.from_residual-in_err-index_base.ensures.1 in
    rw (p.1, p.2) (search (finding, o, rules, c.in_err-index_base.was))

pub returns : goal.returns
returns c =
    let o = opened _ _ _ c.read_tree.ensures _ c.in_ok-read_tree.was _ _ _ _ (rw c.alone-trees.ensures at c.index_base.ensures) in
    search (finding, o, rules, c.in_ok-index_base.was, rw c.alone-trees.ensures at c.look_folded.ensures)
