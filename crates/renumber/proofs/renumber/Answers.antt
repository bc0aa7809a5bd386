-- What each step asks is known by then, and what it answers is the entry's. The two trees of a plan are the base,
-- by `alone-trees.ensures`.
use Rattle.std.proofs.lemmas.Result.{err_from_is_err_and}
use mathlib.Core.Path.{refl}
use Prim.Native.Nat.{ℕ}
use lib.ListN.{length-replicate}
use Rattle.index_ids.proofs.Tables.{fresh_index}
use Rattle.renumber.proofs.Entry.{stop_6, readable, few_identifiers, numbers_left, stop_9, stop_18, findable, applicable, writable, few_names, done}
use Rattle.renumber.proofs.renumber.Goals as goal

pub returns-in_err-count : goal.returns-in_err-count
returns-in_err-count c =
    let p = err_from_is_err_and c.from_residual.result c.from_residual.ensures.1 in
    rw (p.1, p.2) (stop_6 _ _ _ _ _ _ _ c.«open».ensures _ _ _ _ _ c.in_err-count.was)

pub index_base-requires : goal.index_base-requires
index_base-requires c = (rw c.alone-trees.ensures (readable _ _ _ _ _ _ _ c.«open».ensures _ c.in_ok-count.was), (few_identifiers _ _ _ _ _ _ _ c.«open».ensures _ c.in_ok-count.was, (c.empty-plan.ensures.room, fresh_index)))

pub returns-in_err-index_base : goal.returns-in_err-index_base
returns-in_err-index_base c =
    let p = err_from_is_err_and c.from_residual-in_err-index_base.result c.from_residual-in_err-index_base.ensures.1 in
    rw (p.1, p.2) (stop_9 _ _ _ _ _ _ _ c.«open».ensures _ c.in_ok-count.was _ _ _ _ (rw c.alone-trees.ensures at c.index_base.ensures) _ _ _ _ _ c.in_err-index_base.was)

pub returns-then-n-first : goal.returns-then-n-first
returns-then-n-first c = stop_18 _ _ _ _ _ _ _ c.«open».ensures _ c.in_ok-count.was _ _ _ _ (rw c.alone-trees.ensures at c.index_base.ensures) c.in_ok-index_base.was _ _ _ _ _ c.turn-first.ensures c.if-n-first.true

pub find_identifiers-requires : goal.find_identifiers-requires
find_identifiers-requires c = findable _ _ _ _ _ _ _ c.«open».ensures _ c.in_ok-count.was _ _ _ _ (rw c.alone-trees.ensures at c.index_base.ensures) c.in_ok-index_base.was _ (length-replicate {A = ℕ} 64 0)

pub reassign_field_ids-requires : goal.reassign_field_ids-requires
reassign_field_ids-requires c = numbers_left _ _ _ _ _ _ _ c.«open».ensures _ c.in_ok-count.was _ _ c.if-n-first.false

pub apply_to_identifier_fields-requires : goal.apply_to_identifier_fields-requires
apply_to_identifier_fields-requires c = applicable _ _ _ _ _ _ _ c.«open».ensures _ c.in_ok-count.was _ _ _ _ (rw c.alone-trees.ensures at c.index_base.ensures) c.in_ok-index_base.was _ _ c.find_identifiers.ensures refl

pub write_plan-names-requires : goal.write_plan-names-requires
write_plan-names-requires c = rw c.alone-trees.ensures (writable _ _ _ _ _ _ _ c.«open».ensures _ c.in_ok-count.was _ _ _ _ (rw c.alone-trees.ensures at c.index_base.ensures) c.in_ok-index_base.was _)

pub overflow_cast-result-2 : goal.overflow_cast-result-2
overflow_cast-result-2 c = record { fits = few_names _ _ _ _ _ _ _ c.«open».ensures _ c.in_ok-count.was _ _ _ _ (rw c.alone-trees.ensures at c.index_base.ensures) c.in_ok-index_base.was _ _ _ _ _ _ (rw c.alone-trees.ensures at c.write_plan-names.ensures) }

pub returns : goal.returns
returns c = done _ _ _ _ _ _ _ c.«open».ensures _ c.in_ok-count.was _ _ _ _ (rw c.alone-trees.ensures at c.index_base.ensures) c.in_ok-index_base.was _ _ _ _ _ _ (rw c.alone-trees.ensures at c.write_plan-names.ensures) _ c.if-n-first.false _ c.reassign_field_ids.ensures _ _ _ _ c.turn-first.ensures c.find_identifiers.ensures c.apply_to_identifier_fields.ensures
