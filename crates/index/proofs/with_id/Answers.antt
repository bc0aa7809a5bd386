-- The slot's id stands in the plan.
use mathlib.Core.Path.{◌∙◌}
use Rattle.index.proofs.Looking.{placing, nothing_at}
use borrow.Author.Rules.{rules}
use Rattle.index.proofs.with_id.Goals as goal

pub returns-in_err-k : goal.returns-in_err-k
returns-in_err-k c = c.from_residual.ensures ∙ nothing_at _ _ c.in_err-k.was

pub returns : goal.returns
returns c = search (placing, rules, c.in_ok-k.was)
