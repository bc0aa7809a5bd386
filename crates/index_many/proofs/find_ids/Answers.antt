-- 1, then 2 of the ids; a refusal of the tree is `read`'s; else each id is looked up in the tree that was read.
use Rattle.std.proofs.lemmas.Result.{err_from_is_err_and}
use Rattle.index_ids.proofs.Tables.{fresh_index}
use Rattle.index.proofs.Opening.{readable, opened}
use Rattle.index_many.proofs.Looking.{searchable, finding}
use borrow.Author.Rules.{rules}
use Rattle.index_many.proofs.find_ids.Goals as goal

pub returns-then-out_slots-ids : goal.returns-then-out_slots-ids
returns-then-out_slots-ids c = search (finding, rules)

pub returns-then-not-whole_list : goal.returns-then-not-whole_list
returns-then-not-whole_list c = search (finding, rules)

pub returns-in_err-read_tree : goal.returns-in_err-read_tree
returns-in_err-read_tree c =
    let p = err_from_is_err_and c.from_residual.result c.from_residual.ensures.1 in
    rw (p.1, p.2) (search (finding, rules, c.in_err-read_tree.was))

pub index_base-requires : goal.index_base-requires
index_base-requires c = (rw c.alone-trees.ensures (readable _ _ _ c.read_tree.ensures _ c.in_ok-read_tree.was), (search rules, (c.empty-plan.ensures.room, fresh_index)))

pub returns-in_err-index_base : goal.returns-in_err-index_base
returns-in_err-index_base c =
    let o = opened _ _ _ c.read_tree.ensures _ c.in_ok-read_tree.was _ _ _ _ (rw c.alone-trees.ensures at c.index_base.ensures) in
    let p = err_from_is_err_and c.from_residual-in_err-index_base.result c.from_residual-in_err-index_base.ensures.1 in
    rw (p.1, p.2) (search (finding, o, rules, c.in_err-index_base.was))

pub look_ids-requires : goal.look_ids-requires
look_ids-requires c =
    let o = opened _ _ _ c.read_tree.ensures _ c.in_ok-read_tree.was _ _ _ _ (rw c.alone-trees.ensures at c.index_base.ensures) in
    searchable _ _ _ _ c.if-out_slots-ids.false _ c.whole_list.ensures c.if-not-whole_list.false _ _ _ _ o c.in_ok-index_base.was

pub returns : goal.returns
returns c =
    let o = opened _ _ _ c.read_tree.ensures _ c.in_ok-read_tree.was _ _ _ _ (rw c.alone-trees.ensures at c.index_base.ensures) in
    search (finding, o, rules, c.in_ok-index_base.was)
