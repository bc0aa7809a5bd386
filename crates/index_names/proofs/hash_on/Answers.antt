-- What is left of the name carries the hash on to the whole.
use Rattle.index_names.proofs.Hashing.{hashing}
use borrow.Author.Rules.{rules}
use Rattle.index_names.proofs.hash_on.Goals as goal

pub loop-pair-preserved : goal.loop-pair-preserved
loop-pair-preserved c = search (hashing, rules)

pub returns-then-name-eq0 : goal.returns-then-name-eq0
returns-then-name-eq0 c = search (hashing, rules)

pub returns : goal.returns
returns c = search (hashing, rules)
