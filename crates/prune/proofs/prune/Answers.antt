-- The steps one after the other. Assumes nothing.
use Rattle.std.proofs.lemmas.Result.{err_from_is_err_and}
use borrow.Author.Rules.{rules}
use Rattle.index_ids.proofs.Tables.{fresh_index}
use Rattle.prune.proofs.Steps.{stop_6, passed, unmarked, base_reads, stop_8, test_goes, stop_20, plan_row, write_asks, kept_small, names_small, all_written}
use Rattle.prune.proofs.prune.Goals as goal

pub returns-in_err-count : goal.returns-in_err-count
returns-in_err-count c =
    let p = err_from_is_err_and c.from_residual.result c.from_residual.ensures.1 in
    rw (p.1, p.2) (stop_6 _ _ _ _ _ _ c.«open».ensures _ _ _ _ c.in_err-count.was)

pub index_base-requires : goal.index_base-requires
index_base-requires c = let h = passed _ _ _ _ _ _ c.«open».ensures _ c.in_ok-count.was in (rw c.alone-trees.ensures (base_reads h), (search rules, (c.empty-plan.ensures.room, fresh_index)))

pub returns-in_err-index_base : goal.returns-in_err-index_base
returns-in_err-index_base c =
    let h = passed _ _ _ _ _ _ c.«open».ensures _ c.in_ok-count.was in
    let p = err_from_is_err_and c.from_residual-in_err-index_base.result c.from_residual-in_err-index_base.ensures.1 in
    rw (p.1, p.2) (stop_8 h (rw c.alone-trees.ensures at c.index_base.ensures) _ _ _ _ c.in_err-index_base.was)

pub decide-requires : goal.decide-requires
decide-requires c = let h = passed _ _ _ _ _ _ c.«open».ensures _ c.in_ok-count.was in (test_goes h (rw c.alone-trees.ensures at c.index_base.ensures) c.in_ok-index_base.was, unmarked)

pub returns-in_err-decide : goal.returns-in_err-decide
returns-in_err-decide c =
    let h = passed _ _ _ _ _ _ c.«open».ensures _ c.in_ok-count.was in
    let p = err_from_is_err_and c.from_residual-in_err-decide.result c.from_residual-in_err-decide.ensures.1 in
    rw (p.1, p.2) (stop_20 h (rw c.alone-trees.ensures at c.index_base.ensures) c.in_ok-index_base.was c.decide.ensures _ _ _ c.in_err-decide.was)

pub project_fields-kept-requires : goal.project_fields-kept-requires
project_fields-kept-requires c = plan_row (passed _ _ _ _ _ _ c.«open».ensures _ c.in_ok-count.was)

pub write_plan-names-requires : goal.write_plan-names-requires
write_plan-names-requires c = let h = passed _ _ _ _ _ _ c.«open».ensures _ c.in_ok-count.was in rw c.alone-trees.ensures (write_asks h (rw c.alone-trees.ensures at c.index_base.ensures) _ _ c.project_fields-kept.ensures)

pub overflow_cast-result : goal.overflow_cast-result
overflow_cast-result c = let h = passed _ _ _ _ _ _ c.«open».ensures _ c.in_ok-count.was in record { fits = kept_small h (rw c.alone-trees.ensures at c.index_base.ensures) _ _ c.project_fields-kept.ensures }

pub overflow_cast-result-2 : goal.overflow_cast-result-2
overflow_cast-result-2 c = let h = passed _ _ _ _ _ _ c.«open».ensures _ c.in_ok-count.was in let q = names_small h (rw c.alone-trees.ensures at c.index_base.ensures) _ _ c.project_fields-kept.ensures (rw c.alone-trees.ensures at c.write_plan-names.ensures) in search (q, rules)

pub returns : goal.returns
returns c =
    let h = passed _ _ _ _ _ _ c.«open».ensures _ c.in_ok-count.was in
    all_written h (rw c.alone-trees.ensures at c.index_base.ensures) c.in_ok-index_base.was c.decide.ensures c.in_ok-decide.was c.project_fields-kept.ensures (rw c.alone-trees.ensures at c.write_plan-names.ensures)
