-- What is left of the row gives the whole answer; levels fall.
use mathlib.Core.Path.{refl, ◌∙◌}
use native.Mathlib.Omega.{arith}
use borrow.Author.Rules.{rules}
use Rattle.index_turns.proofs.Fitting.{room_fit}
use Rattle.index_folded_names.proofs.Meeting.{own_met, left_met, leave_over, leave_done, turn_miss, turn_twice, turn_leaf, turn_down, turn_in, turn_further, turn_on}
use Rattle.index_folded_names.proofs.+meet_row.Goals as goal

pub returns-then-x-part : goal.returns-then-x-part
returns-then-x-part t c = leave_over _ _ _ _ _ _ _ _ _ _ _ _ _ c.loop-row.invariant.1 _ c.then-x-part.either c.row_next.ensures

pub loop-row-preserved-then-misses : goal.loop-row-preserved-then-misses
loop-row-preserved-then-misses t c = (search rules, turn_miss _ _ _ _ _ _ _ _ _ _ _ _ _ c.loop-row.invariant.1 c.if-row-eq0.false c.loop-row-test.true c.if-m-at.false _ _ _ _ refl refl c.if-x-part.false c.misses.ensures c.if-misses.true c.next_role-part.ensures)

pub returns-then-both : goal.returns-then-both
returns-then-both t c = turn_twice _ _ _ _ _ _ _ _ _ _ _ _ _ c.loop-row.invariant.1 c.if-row-eq0.false c.loop-row-test.true c.if-m-at.false _ _ (own_met _ _ _ _ _ c.if-x-part.false c.fit_at-f.ensures _ c.own_slot-me.ensures) c.both.ensures c.if-both.true

pub loop-row-preserved-then-members-eq0 : goal.loop-row-preserved-then-members-eq0
loop-row-preserved-then-members-eq0 t c = (search rules, turn_leaf _ _ _ _ _ _ _ _ _ _ _ _ _ c.loop-row.invariant.1 c.if-row-eq0.false c.loop-row-test.true c.if-m-at.false _ _ (own_met _ _ _ _ _ c.if-x-part.false c.fit_at-f.ensures _ c.own_slot-me.ensures) c.both.ensures _ c.if-both.false c.or-met.ensures _ _ refl c.if-members-eq0.true c.next_role-part.ensures)

pub inside_at-inside-requires : goal.inside_at-inside-requires
inside_at-inside-requires t c = (search rules, (search rules, (room_fit _ _ _ _ _ c.if-x-part.false c.fit_at-f.ensures, search rules)))

pub loop-row-preserved-then-row-eq0-2 : goal.loop-row-preserved-then-row-eq0-2
loop-row-preserved-then-row-eq0-2 t c = (search rules, turn_down _ _ _ _ _ _ _ _ _ _ _ _ _ c.loop-row.invariant.1 c.if-row-eq0.false c.loop-row-test.true c.if-m-at.false _ _ (own_met _ _ _ _ _ c.if-x-part.false c.fit_at-f.ensures _ c.own_slot-me.ensures) c.both.ensures _ c.if-both.false c.or-met.ensures _ refl _ _ c.inside_at-inside.ensures.members (left_met _ _ _ _ _ _ c.if-x-part.false c.fit_at-f.ensures _ _ _ c.inside_at-inside.ensures) (omega arith))

pub returns-in_err-next : goal.returns-in_err-next
returns-in_err-next t c = c.from_residual.ensures ∙ turn_in _ _ _ _ _ _ _ _ _ _ _ _ _ c.loop-row.invariant.1 c.if-row-eq0.false c.loop-row-test.true c.if-m-at.false _ _ (own_met _ _ _ _ _ c.if-x-part.false c.fit_at-f.ensures _ c.own_slot-me.ensures) c.both.ensures _ c.if-both.false c.or-met.ensures _ refl _ _ c.inside_at-inside.ensures.members (left_met _ _ _ _ _ _ c.if-x-part.false c.fit_at-f.ensures _ _ _ c.inside_at-inside.ensures) _ c.meet_row.ensures _ c.in_err-next.was

pub loop-row-smaller : goal.loop-row-smaller
loop-row-smaller t c = omega (arith, turn_further _ _ _ _ _ _ _ _ _ _ _ _ _ c.loop-row.invariant.1 c.if-row-eq0.false c.loop-row-test.true c.if-m-at.false _ _ (own_met _ _ _ _ _ c.if-x-part.false c.fit_at-f.ensures _ c.own_slot-me.ensures) c.both.ensures _ c.if-both.false c.or-met.ensures _ refl _ _ c.inside_at-inside.ensures.members (left_met _ _ _ _ _ _ c.if-x-part.false c.fit_at-f.ensures _ _ _ c.inside_at-inside.ensures) _ c.meet_row.ensures _ _ c.in_ok-next.was, c.if-m-at.false)

pub loop-row-preserved : goal.loop-row-preserved
loop-row-preserved t c = (c.loop-row.invariant.0, turn_on _ _ _ _ _ _ _ _ _ _ _ _ _ c.loop-row.invariant.1 c.if-row-eq0.false c.loop-row-test.true c.if-m-at.false _ _ (own_met _ _ _ _ _ c.if-x-part.false c.fit_at-f.ensures _ c.own_slot-me.ensures) c.both.ensures _ c.if-both.false c.or-met.ensures _ refl _ _ c.inside_at-inside.ensures.members (left_met _ _ _ _ _ _ c.if-x-part.false c.fit_at-f.ensures _ _ _ c.inside_at-inside.ensures) _ c.meet_row.ensures _ _ _ c.in_ok-next.was c.next_role-part.ensures)

pub returns : goal.returns
returns t c = leave_done _ _ _ _ _ _ _ _ _ _ _ _ _ c.loop-row.invariant.1 (omega arith)
