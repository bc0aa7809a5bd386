-- The entry leaves what the paper says; its numbers are laid out.
-- Assumes nothing.
use Rattle.braidhurdle.proofs.Telling.{search_told}
use borrow.Author.Rules.{rules}
use Rattle.braidhurdle.proofs.braidhurdle_find_ids.Goals as goal

pub returns : goal.returns
returns c = search (search_told, rules)
