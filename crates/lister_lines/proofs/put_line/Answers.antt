-- The numbers, then the name behind them.
use native.Mathlib.Omega.{arith}
use Rattle.lister_lines.proofs.Putting.{put_line}
use borrow.Author.Rules.{rules}
use Rattle.lister_lines.proofs.put_line.Goals as goal

pub returns : goal.returns
returns c = (search (put_line, rules), omega arith)
