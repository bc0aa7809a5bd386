-- With a path the parent is looked up, without one the name.
use Rattle.update_schema.proofs.Rising.{rises}
use Rattle.update_schema.proofs.Found.{found_sited, goes_under, goes_root}
use borrow.Author.Rules.{rules}
use Rattle.update_schema.proofs.Request.find_place.Goals as goal

pub place_under-requires : goal.place_under-requires
place_under-requires c = let p = c.requires.0 in (found_sited _ _ _ _ _ p.based _ _ c.look_name-parent.ensures, rises _ _ _ _ _ p.based _ p.indexed.raised)

pub returns-then-has_path : goal.returns-then-has_path
returns-then-has_path c = goes_under _ _ _ _ _ c.requires.0.based _ _ _ _ c.name_at-name.ensures.0 _ _ _ c.has_path.ensures _ _ _ (search rules) c.path_at-path.ensures.0 c.look_name-parent.ensures c.place_under.ensures

pub returns : goal.returns
returns c = goes_root _ _ _ _ _ c.requires.0.based _ _ _ _ c.name_at-name.ensures.0 _ _ _ c.has_path.ensures _ _ (search rules) c.look_name-taken.ensures c.place_at_root.ensures
