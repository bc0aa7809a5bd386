-- What is asked of a record, from the two halves of a step.
use Rattle.index_turns.proofs.Fitting.{room_fit}
use Rattle.index_short_names.proofs.Seeking.{turned}
use borrow.Author.Rules.{rules}
use Rattle.index_short_names.proofs.turn_at.Goals as goal

pub inside_at-inside-requires : goal.inside_at-inside-requires
inside_at-inside-requires c = (search rules, (search rules, (room_fit _ _ _ _ _ c.requires.1.0 c.fit_at-f.ensures, search rules)))

pub returns : goal.returns
returns c = search (turned, rules)
