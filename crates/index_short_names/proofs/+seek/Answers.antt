-- What is left of the row gives the whole answer; levels fall.
use mathlib.Core.Path.{◌≡◌, refl, sym, ◌∙◌}
use mathlib.Core.Bool.{false, true≢false}
use Rattle.std.specs.Option.{is_some}
use native.Mathlib.Omega.{arith}
use borrow.Author.Rules.{rules}
use Rattle.index_short_names.proofs.Seeking.{seeking, leave_done, turn_found, turn_own, turn_on}
use Rattle.index_short_names.proofs.+seek.Goals as goal
use Rattle.index_short_names.proofs.+seek.Goals.{else-not-is_late-via-then-not-is_late+else-is_some, else-not-is_late-via-else-not-is_late}

pub returns-then-x-pos : goal.returns-then-x-pos
returns-then-x-pos t c = search (seeking, rules)

pub returns-then-row-eq0 : goal.returns-then-row-eq0
returns-then-row-eq0 t c = search (seeking, rules)

pub returns-then-m-at : goal.returns-then-m-at
returns-then-m-at t c = search (seeking, rules)

pub returns-in_err-next : goal.returns-in_err-next
returns-in_err-next t c = c.from_residual.ensures ∙ turn_found _ _ _ _ _ _ _ _ _ _ _ _ _ _ _ c.if-row-eq0.false (omega arith) c.if-m-at.false refl c.loop-done.invariant.0 c.turn_at-turn.ensures c.seek.ensures _ c.loop-done.invariant.1 _ c.in_err-next.was

pub returns-then-is_some : goal.returns-then-is_some
returns-then-is_some t c = turn_own _ _ _ _ _ _ _ _ _ _ _ _ _ _ _ c.if-row-eq0.false (omega arith) c.if-m-at.false refl c.loop-done.invariant.0 c.turn_at-turn.ensures c.seek.ensures _ c.loop-done.invariant.1 _ _ c.in_ok-next.was c.is_late.ensures c.if-not-is_late.true (sym c.is_some.ensures ∙ c.if-is_some.true)

pub loop-done-preserved : goal.loop-done-preserved
loop-done-preserved t c =
    let none_mine : c.is_late.result ≡ false → is_some c.turn_at-turn.result.me ≡ false =
    λ e. elim c.else-not-is_late.branch [
      | else-not-is_late-via-then-not-is_late+else-is_some w ↦ sym w.is_some.ensures ∙ w.if-is_some.false
      | else-not-is_late-via-else-not-is_late w ↦ absurd (true≢false (sym w.if-not-is_late.false ∙ e))
    ] in
    (c.loop-done.invariant.0, turn_on _ _ _ _ _ _ _ _ _ _ _ _ _ _ _ c.if-row-eq0.false (omega arith) c.if-m-at.false refl c.loop-done.invariant.0 c.turn_at-turn.ensures c.seek.ensures _ c.loop-done.invariant.1 _ _ _ _ _ c.in_ok-next.was c.is_late.ensures none_mine c.or-first.ensures c.next_role-part.ensures (omega arith))

pub returns : goal.returns
returns t c = leave_done _ _ _ _ _ _ _ _ _ _ _ _ _ c.loop-done.invariant.1 c.ended-2.ensures (omega arith)
