-- The slots below k stand on their paths, and what is left to test gives the whole answer.
use Rattle.index_ids.proofs.IdLaws.{checking, ids}
use borrow.Author.Rules.{rules}
use Rattle.index_ids.proofs.check_ids.Goals as goal

pub loop-k-init : goal.loop-k-init
loop-k-init c = search (checking, rules)

pub returns-in-Met : goal.returns-in-Met
returns-in-Met c = search (checking, rules)

pub enter_id-requires : goal.enter_id-requires
enter_id-requires c = search (ids, checking, rules)

pub loop-k-preserved : goal.loop-k-preserved
loop-k-preserved c = search (checking, rules)

pub returns : goal.returns
returns c = search (checking, rules)
