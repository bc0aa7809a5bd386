-- Each part is put behind the last one.
use Rattle.lister_lines.proofs.Putting.{put_refusal}
use native.Mathlib.Omega.{arith}
use borrow.Author.Rules.{rules}
use Rattle.lister_lines.proofs.put_refusal.Goals as goal

pub returns : goal.returns
returns c = (search (put_refusal, rules), omega arith)
