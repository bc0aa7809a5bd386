-- A refusal is `read`'s; else the lines are those of the tree that was read.
use Rattle.index_ids.proofs.Tables.{fresh_index}
use Rattle.index.proofs.Opening.{readable, opened}
use Rattle.lister_lines.proofs.Lines.{listed, tree_listed}
use borrow.Author.Rules.{rules}
use Rattle.lister_lines.proofs.listing.Goals as goal

pub returns-in-Err : goal.returns-in-Err
returns-in-Err c = search (listed, rules)

pub index_base-tested-requires : goal.index_base-tested-requires
index_base-tested-requires c = (rw c.alone-trees.ensures (readable _ _ _ c.read_tree-read.ensures _ c.in_default.is), (search rules, (c.empty-plan.ensures.room, fresh_index)))

pub returns-in-Err-tested : goal.returns-in-Err-tested
returns-in-Err-tested c =
    let o = opened _ _ _ c.read_tree-read.ensures _ c.in_default.is _ _ _ _ (rw c.alone-trees.ensures at c.index_base-tested.ensures) in
    search (listed, o, rules)

pub invariant_of-names : goal.invariant_of-names
invariant_of-names c =
    let o = opened _ _ _ c.read_tree-read.ensures _ c.in_default.is _ _ _ _ (rw c.alone-trees.ensures at c.index_base-tested.ensures) in
    rw c.alone-trees.ensures (record { spelt = (o.indexed c.in_default-tested.is).spelt })

pub returns : goal.returns
returns c =
    let o = opened _ _ _ c.read_tree-read.ensures _ c.in_default.is _ _ _ _ (rw c.alone-trees.ensures at c.index_base-tested.ensures) in
    tree_listed _ _ _ _ _ _ _ _ _ _ o c.in_default-tested.is (rw c.alone-trees.ensures at c.list_rows.ensures)
