-- A set with the members of the deletions decides the edits; without edits nothing is asked. Assumes nothing.
use Rattle.update_edited.proofs.Editing.{none_asked, behind}
use Rattle.update_edited.proofs.edit_columns.Goals as goal

pub returns-then-given-eq0 : goal.returns-then-given-eq0
returns-then-given-eq0 c = none_asked _ _ _ _ _ c.requires _ c.if-given-eq0.true

pub returns : goal.returns
returns c = behind _ _ _ _ _ c.requires _ _ _ _ c.if-given-eq0.false c.fill.ensures c.edit_all.ensures
