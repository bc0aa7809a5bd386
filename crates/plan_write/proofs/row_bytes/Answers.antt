-- The definition byte for byte.
use Rattle.plan_write.proofs.Rows.{row_is}
use borrow.Author.Rules.{rules}
use Rattle.plan_write.proofs.row_bytes.Goals as goal

pub returns : goal.returns
returns c = search (row_is, rules)
