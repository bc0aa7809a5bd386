-- From 2^31 on the bits are those of a negative number.
use native.Mathlib.Omega.{arith}
use Rattle.lister_lines.proofs.Putting.{signed_low, signed_high}
use borrow.Author.Rules.{rules}
use Rattle.lister_lines.proofs.put_signed.Goals as goal

pub returns-then-id-lt2147483648 : goal.returns-then-id-lt2147483648
returns-then-id-lt2147483648 c = (search (signed_low, rules), omega arith)

pub returns : goal.returns
returns c = (search (signed_high, rules), omega arith)
