-- `turned` is one to one on 32 bits.
use Rattle.index_ids.proofs.IdLaws.{ids}
use borrow.Author.Rules.{rules}
use Rattle.index_ids.proofs.same_id.Goals as goal

pub returns : goal.returns
returns c = search (ids, rules)
