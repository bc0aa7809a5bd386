-- A list has an element.
use native.Mathlib.Omega.{arith}
use Rattle.update_parents.proofs.Receiving.{element_in, list_kid}
use Rattle.update_parents.proofs.resolve_parent_target.Goals as goal

pub as_struct-requires : goal.as_struct-requires
as_struct-requires c = let p = c.requires in let h = element_in _ _ _ p.0 (list_kid _ _ _ _ c.kind_at.ensures p.0 p.1 c.in-Listing.is) in omega (arith, h, p.0.whole)
