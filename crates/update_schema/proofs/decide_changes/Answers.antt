-- A set with the members of the deletions decides the additions.
use Rattle.std.proofs.lemmas.Result.{err_from_is_err_and}
use Rattle.update_schema.proofs.Changing.{changes_stop, changes_go}
use Rattle.update_schema.proofs.decide_changes.Goals as goal

pub returns-in_err-drop_columns : goal.returns-in_err-drop_columns
returns-in_err-drop_columns c = let p = err_from_is_err_and c.from_residual.result c.from_residual.ensures.1 in rw (p.1, p.2) (changes_stop _ _ _ _ _ _ _ _ _ _ _ _ c.drop_columns.ensures.drops _ _ _ _ c.in_err-drop_columns.was)

pub returns : goal.returns
returns c = changes_go _ _ _ _ _ _ _ _ _ _ _ _ c.drop_columns.ensures.drops _ _ _ _ _ _ c.in_ok-drop_columns.was c.fill.ensures c.place_columns.ensures.places c.place_columns.ensures.same_drops
