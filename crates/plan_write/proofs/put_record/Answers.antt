-- The record's bytes, put at its place; byte 8 is the length.
use Rattle.plan_write.proofs.Rows.{row_len}
use Rattle.plan_write.proofs.Writing.{row_put}
use borrow.Author.Rules.{rules}
use Rattle.plan_write.proofs.put_record.Goals as goal

pub returns : goal.returns
returns c = search (row_put, row_len, rules)
