-- Any bytes get an answer: those that are not whole records 0, and so do equal ids.
use Rattle.index_ids.proofs.Tables.{fresh_index}
use Rattle.index_timed.proofs.Timing.{timed_few, timing}
use borrow.Author.Rules.{rules}
use Rattle.index_timed.proofs.braidhurdle_timed_search.Goals as goal

pub returns-then-not-whole_list : goal.returns-then-not-whole_list
returns-then-not-whole_list c = search (timing, rules)

pub take_base-requires : goal.take_base-requires
take_base-requires c = search (timing, rules)

pub check_ids-requires : goal.check_ids-requires
check_ids-requires c = (search (timed_few, rules), (fresh_index.rooms, fresh_index.ids))

pub returns-in-Err : goal.returns-in-Err
returns-in-Err c = search (timing, rules)

pub search_rounds-requires : goal.search_rounds-requires
search_rounds-requires c = (search (timed_few, rules), c.check_ids.ensures.index c.in-Ok.is)

pub returns-in-Ok : goal.returns-in-Ok
returns-in-Ok c = search (timing, rules)
