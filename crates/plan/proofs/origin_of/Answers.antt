-- The three kinds of sources in turn.
use borrow.Author.Tests.{lt-ltb, le-ltb}
use Rattle.std.proofs.Common.{arith}
use Rattle.plan.specs.Origin.{origin_of}
use Rattle.plan.proofs.origin_of.Goals as goal

pub returns-then-k-lt1024 : goal.returns-then-k-lt1024
unfolding origin_of
returns-then-k-lt1024 c = rw (lt-ltb c.args.source 1024 c.if-k-lt1024.true)

pub returns-then-k-lt2048 : goal.returns-then-k-lt2048
unfolding origin_of
returns-then-k-lt2048 c = rw (le-ltb c.args.source 1024 (omega arith), lt-ltb c.args.source 2048 c.if-k-lt2048.true)

pub returns : goal.returns
unfolding origin_of
returns c = rw (le-ltb c.args.source 1024 (omega arith), le-ltb c.args.source 2048 (omega arith), c.named.ensures, c.named-2.ensures)
