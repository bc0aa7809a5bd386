-- Nothing found is 15, no struct 16; then the struct decides.
use Rattle.update_decide.proofs.Leading.{parent_nothing, parent_stands, target_sited, parent_shut, parent_joins}
use Rattle.update_decide.proofs.Base.place_under.Goals as goal

pub returns-in_default : goal.returns-in_default
returns-in_default c = parent_nothing _ _ _ _ _ _ _ c.in_default.is

pub resolve_parent_target-requires : goal.resolve_parent_target-requires
resolve_parent_target-requires c = parent_stands _ _ _ _ _ _ c.in-Some.is c.requires.0

pub returns-in_default-resolve_parent_target : goal.returns-in_default-resolve_parent_target
returns-in_default-resolve_parent_target c = parent_shut _ _ _ _ _ _ _ _ _ c.in-Some.is c.requires.0 _ c.resolve_parent_target.ensures c.in_default-resolve_parent_target.is

pub join-requires : goal.join-requires
join-requires c = (target_sited _ _ _ _ _ _ _ _ c.in-Some.is c.requires.0 c.resolve_parent_target.ensures c.in-Some-resolve_parent_target.is, c.requires.1)

pub returns : goal.returns
returns c = parent_joins _ _ _ _ _ _ _ _ _ c.in-Some.is c.requires.0 _ c.resolve_parent_target.ensures _ _ c.in-Some-resolve_parent_target.is c.join.ensures
