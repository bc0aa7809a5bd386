-- The bits of an id turned twice are the bits, so the bucket is the definition's.
use Rattle.index_ids.proofs.IdLaws.{ids}
use borrow.Author.Rules.{rules}
use Rattle.index_ids.proofs.bucket_of.Goals as goal

pub returns : goal.returns
returns c = search (ids, rules)
