-- The entry leaves what the paper says; its numbers are laid out.
-- Assumes nothing.
use Rattle.braidhurdle.proofs.Telling.{left_told}
use borrow.Author.Rules.{rules}
use Rattle.braidhurdle.proofs.braidhurdle_update.Goals as goal

pub returns : goal.returns
returns c = search (left_told, rules)
