-- Each number is put behind the last blank.
use native.Mathlib.Omega.{arith}
use Rattle.lister_lines.proofs.Putting.{put_numbers}
use borrow.Author.Rules.{rules}
use Rattle.lister_lines.proofs.put_numbers.Goals as goal

pub returns : goal.returns
returns c = (search (put_numbers, rules), omega arith)
