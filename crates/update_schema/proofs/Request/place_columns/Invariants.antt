-- What is left of the additions, behind the places in the rows, is the whole.
use Rattle.record.specs.Trees.{trees_in, lists_in}
use Rattle.plan.specs.Table.{fields_in}
use Rattle.update_dropped.specs.Set.{dropped_ids}
use Rattle.update_schema.proofs.Rows.{Held}
use Rattle.update_schema.proofs.Columns.{Placing}
use Rattle.update_schema.proofs.Request.place_columns.Given as goal

abbrev pub invariant-loop-k : goal.invariant-loop-k
invariant-loop-k l = Held (Placing (fields_in (trees_in l.self.trees.now) l.self.plan.now l.self.given.base) (dropped_ids l.dropped) (trees_in l.self.trees.now).request_pool (trees_in l.self.trees.now).added_records (lists_in l.self.lists.now).additions l.self.given.additions l.self.given.added l.self.given.last l.k l.slot l.last) l.initial.decisions l.decisions
