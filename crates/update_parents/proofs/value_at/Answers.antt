-- The key is the first of two members.
use Rattle.update_parents.proofs.Receiving.{key_stands, value_ends}
use Rattle.update_parents.proofs.value_at.Goals as goal

pub tree_end-requires : goal.tree_end-requires
tree_end-requires c = let p = c.requires in key_stands _ _ _ p.0 p.1

pub returns : goal.returns
returns c = let p = c.requires in value_ends _ _ _ p.0 _ p.1 c.tree_end.ensures
