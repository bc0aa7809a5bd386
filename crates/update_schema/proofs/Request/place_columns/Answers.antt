-- What is left of the additions, behind the places in the rows, is the whole.
use mathlib.Core.Path.{refl}
use Rattle.std.proofs.lemmas.Result.{err_from_is_err_and}
use Rattle.update_schema.proofs.Rows.{place_stored}
use Rattle.update_schema.proofs.Columns.{Placing, place_starts, place_ends, column_here, addition_here, place_stops, place_goes}
use Rattle.update_schema.proofs.Request.place_columns.Goals as goal

pub loop-k-init : goal.loop-k-init
loop-k-init c = let p = c.requires.0 in record { holds = place_starts _ _ _ _ _ _ _ _ _ _ _ p.columns p.low; room = c.requires.1; same_drops = refl }

pub place_one-requires : goal.place_one-requires
place_one-requires c = let p = c.requires.0 in let v = c.loop-k.invariant.holds in (p, addition_here _ _ _ _ _ _ _ _ _ _ _ _ _ _ v c.loop-k-test.true p.columns, column_here _ _ _ _ _ _ _ _ _ _ _ _ _ _ v c.loop-k-test.true p.columns, v.most)

pub returns-in_err-spot : goal.returns-in_err-spot
returns-in_err-spot c = let p = err_from_is_err_and c.from_residual.result c.from_residual.ensures.1 in rw (p.1, p.2) record { places = place_stops _ _ _ _ _ _ _ _ _ _ _ _ _ _ c.loop-k.invariant.holds c.loop-k-test.true _ _ _ _ _ c.place_one.ensures c.in_err-spot.was; same_drops = c.loop-k.invariant.same_drops }

pub loop-k-preserved : goal.loop-k-preserved
loop-k-preserved c = let o = c.loop-k in let v = o.invariant in let r = v.room in place_stored (Placing _ _ _ _ _ _ _ _ _ _ _) _ o.decisions o.k c.in_ok-spot.spot.under _ _ r v.same_drops (place_goes _ _ _ _ _ _ _ _ _ _ _ _ _ _ v.holds c.loop-k-test.true _ _ _ (r.unders_room, r.firsts_room, r.starts_room) c.requires.0.columns c.place_one.ensures c.in_ok-spot.was c.from.ensures)

pub returns : goal.returns
returns c = record { places = place_ends _ _ _ _ _ _ _ _ _ _ _ _ _ _ c.loop-k.invariant.holds c.loop-k-test.false; same_drops = c.loop-k.invariant.same_drops }
