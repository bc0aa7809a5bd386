-- What is left of the deletions, behind the ids in the row, is the whole.
use Rattle.paper.specs.Lists.{id_list}
use Rattle.record.specs.Trees.{trees_in, lists_in}
use Rattle.plan.specs.Table.{fields_in}
use Rattle.update_rebuild.specs.Planned.{drops_in, DecisionsRoom}
use Rattle.update_schema.proofs.Deleting.{Deleting}
use Rattle.update_schema.proofs.Request.drop_columns.Given as goal

abbrev pub invariant-loop-k : goal.invariant-loop-k
invariant-loop-k l = Deleting (fields_in (trees_in l.self.trees.now) l.self.plan.now l.self.given.base) (id_list (lists_in l.self.lists.now).identifiers) (trees_in l.self.trees.now).request_pool (lists_in l.self.lists.now).deletions l.self.given.deletions l.k (drops_in l.decisions) × DecisionsRoom l.decisions
