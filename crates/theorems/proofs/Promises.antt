-- The promises of the paper, one statement each. What a statement says is defined in paper/specs and in the
-- specs of this crate; why it holds is said at the head of the file that its last line cites.
use Prim.Native.Nat.{ℕ, suc, ◌+◌, ◌-◌, ◌<◌, ◌≤◌}
use mathlib.Core.Path.{◌≡◌}
use mathlib.Core.Bool.{Bool, true}
use mathlib.Core.List.{List, [], ◌∷◌, map}
use mathlib.Core.Option.{Option, some}
use lib.IntN.{pos, negsuc}
use lib.ListN.{length}
use Rattle.paper.specs.Answer.{Answer, ok, refused}
use Rattle.paper.specs.Forest.{Forest, size}
use Rattle.paper.specs.Field.{Field}
use Rattle.paper.specs.Renumber.{renumber}
use Rattle.paper.specs.Renumber as Renumber
use Rattle.paper.specs.Promotions.{known_version, known_code, allowed}
use Rattle.paper.specs.Edits.{Edited}
use Rattle.paper.specs.Update.{Request, Schema, Plan, planned}
use Rattle.paper.specs.Rebuild.{update}
use Rattle.paper.specs.Visited.{visited}
use Rattle.paper.specs.Rows.{Row, look_name}
use Rattle.paper.specs.Folded.{look_folded}
use Rattle.paper.specs.Sound.{sound}
use Rattle.paper.specs.Bytes.{turned, slots}
use Rattle.paper.specs.Lists.{id_list}
use Rattle.paper.specs.Decode.{decode}
use Rattle.paper.specs.Encode.{record_bytes, pool_bytes}
use Rattle.paper.specs.Limits.{sized}
use Rattle.paper.specs.Lent.{Stored, Lent}
use Rattle.paper.specs.Entries.{Result, update_entry, prune_entry, renumber_entry, read, find_name, find_folded}
use Rattle.paper.specs.Entries.{find_ids}
use Rattle.paper.specs.Outcome.{changed, searched, out_identifiers, Found, Buffer, Answers}
use Rattle.paper.specs.Sample.{T, T_records, T_pool}
use Rattle.paper.specs.Asked.{AnUpdate, APruner, id_bytes, signed_id, answer, update_reply, ◌with_last◌}
use Rattle.paper.specs.Worked.{examples}
use Rattle.paper.specs.Pinned.{limits}
use Rattle.paper.proofs.Hold.{T_decodes, all_hold}
use Rattle.paper.proofs.Pins.{Held, pins}
use Rattle.laws.specs.Fit.{Bytes}
use Rattle.theorems.specs.Promoted.{Chain, OnlyRises}
use Rattle.theorems.specs.Columns.{Column, Has, SameColumn}
use Rattle.theorems.specs.Run.{Begins, run, run_sets, identifiers_at, Lasting}
use Rattle.theorems.specs.Run.{LastingRun}
use Rattle.theorems.specs.Stored.{schema_of, BytesLent, LendsBytes, bytes_of, run_stored, BeginsStored}
use Rattle.theorems.specs.Stored.{stored_sets, LastingStored}
use Rattle.theorems.specs.Identified.{PassesAgain, IdentifiersAgain}
use Rattle.theorems.specs.Standing.{AdditionsStand, ConsumedAreAdded, NothingVanishes, GoneIsLeftOut, OfStored}
use Rattle.theorems.specs.Visits.{AnswerAndDropped, ReachedAndAdded, FewVisited, NoneVisited}
use Rattle.theorems.specs.Edited.{StaysAsSet, RenamesFound, EditedInARow, WidenedInARow}
use Rattle.theorems.specs.Before as Before
use Rattle.theorems.specs.Before.{request_before, lent_before, result_before}
use Rattle.theorems.specs.Again.{ReadsAgain}
use Rattle.theorems.specs.Changed.{Pruned, Renumbered}
use Rattle.theorems.specs.One.{NoByteChanges, PromisedFound, Told, RefusalsTold}
use Rattle.theorems.specs.Numbered.{OneNumberEach}
use Rattle.theorems.specs.Sites.{IdsAreNoSlots}
use Rattle.theorems.specs.Folds.{Alone, Second, ByRows, Plain, CaseForgotten, FoldingMet}
use Rattle.theorems.specs.Many.{Lendable, OneByOne, InSlots}
use Rattle.theorems.specs.Wrong.{P4, two_added, RightUpdate, P8, P9, RightPruner}
use Rattle.theorems.proofs.Signed.{signed_natural, signed_negative}
use Rattle.theorems.proofs.Promoted.{two_in_three, rises, not_to_itself, never_back, in_table}
use Rattle.theorems.proofs.Evolution.{begins_without, lasting, types_rise, one_column}
use Rattle.theorems.proofs.Storing.{begins_stored_without, lasting_stored, of_stored}
use Rattle.theorems.proofs.Identified.{update_identified, renumber_identified}
use Rattle.theorems.proofs.Passing.{update_passes, renumber_passes}
use Rattle.theorems.proofs.Standing as Standing
use Rattle.theorems.proofs.Standing.{additions_stand, consumed_added, gone_left_out}
use Rattle.theorems.proofs.Visits as Visits
use Rattle.theorems.proofs.Visits.{visits_answer, visits_added, visits_deletions, visits_all, of_visited}
use Rattle.theorems.proofs.Visits.{few_stored, all_stored, none_visited}
use Rattle.theorems.proofs.Carried.{stays_as_set}
use Rattle.theorems.proofs.Renaming.{renames_found}
use Rattle.theorems.proofs.Before.{as_before, as_before_stored}
use Rattle.theorems.proofs.Beginning.{T_schema, T_stored, T_requests, T_begins, T_begins_stored}
use Rattle.theorems.proofs.Beginning.{T_lends_bytes, accepted_in_a_row}
use Rattle.theorems.proofs.Beginning.{keyed_schema, keyed_stored, keyed_by, keyed_requests, keyed_begins}
use Rattle.theorems.proofs.Beginning.{keyed_begins_stored, keyed_lends_bytes, keyed_answers, keyed_in_a_row}
use Rattle.theorems.proofs.Beginning.{edits_requests, edits_lend_bytes, edits_asked, edited_in_a_row, edited_in_a_row_stored}
use Rattle.theorems.proofs.Beginning.{sales_schema, sales_stored, sales_begins, sales_begins_stored, sales_requests}
use Rattle.theorems.proofs.Beginning.{sales_lend_bytes, sales_asked, sales_answers, sales_answers_stored}
use Rattle.theorems.proofs.Beginning.{widened_in_a_row, widened_in_a_row_stored}
use Rattle.theorems.proofs.Ends as Ends
use Rattle.theorems.proofs.Again.{decoded_again, update_again, prune_again, renumber_again}
use Rattle.theorems.proofs.Again.{prune_parts, renumber_numbers}
use Rattle.theorems.proofs.One as One
use Rattle.theorems.proofs.Told.{refusals_told, none_accepted, none_searched}
use Rattle.theorems.proofs.Numbered.{one_number_each}
use Rattle.theorems.proofs.Limits.{limits_hold}
use Rattle.theorems.proofs.Sites.{ids_are_no_slots}
use Rattle.theorems.proofs.Folds.{plain_exact, plain_exact_read, exact_alone, case_forgotten}
use Rattle.theorems.proofs.Folds.{ambiguous_two, by_rows, folding_met}
use Rattle.theorems.proofs.Many.{one_by_one, in_slots}
use Rattle.theorems.proofs.Wrong.{right_update, right_pruner}

-- ---- the worked examples

-- T's bytes are the forest T.
pub worked_tree : decode 0 T_records T_pool ≡ ok T
worked_tree = T_decodes

-- P1 to P13: what the definitions answer to each question, asked
-- in bytes and read in signed ids, is what 01 gives.
pub worked_examples : map (λ e. answer e.asked) examples ≡ map (λ e. e.given) examples
worked_examples = all_hold

-- Rules that P1 to P13 don't show, each refusal, and the order of any two that can meet: one list, and one claim over it. Beside
-- it the seven numbers, the bytes in the buffers, and the lister's text.
pub pinned_rules : Held
pinned_rules = pins

-- The limits: what is still let through, and one more.
pub pinned_limits : map (λ e. answer e.asked) limits ≡ map (λ e. e.given) limits
pinned_limits = limits_hold

-- The signed reading is two's complement: n and -(n + 1), from their 32 bits.
pub signed_reading : (n : ℕ) → n < 2_147_483_648
    → (signed_id (turned n) ≡ pos n) × (signed_id (turned (4_294_967_295 - n)) ≡ negsuc n)
signed_reading n l = (signed_natural n l, signed_negative n l)

-- ---- the steps of a type, by the table of 02, 6/13

-- What version 2 allows, version 3 allows.
pub steps_of_2_are_of_3 : (old new : ℕ) → allowed 2 old new ≡ true → allowed 3 old new ≡ true
steps_of_2_are_of_3 = two_in_three

-- In whatever version, a step leads from a code to a higher one,
pub steps_rise : (version old new : ℕ) → allowed version old new ≡ true → old < new
steps_rise = rises

-- so none to the same;
pub no_step_to_itself : (version code : ℕ) → allowed version code code ≡ true → ⊥
no_step_to_itself = not_to_itself

-- and no steps one after another, each in whatever version, lead back to the code that they left.
pub steps_never_lead_back : (code : ℕ) → Chain code code → ⊥
steps_never_lead_back = never_back

-- No step leads to a code outside the table, or from one.
pub steps_stay_in_the_table : (version old new : ℕ) → allowed version old new ≡ true
    → (known_code old ≡ true) × (known_code new ≡ true)
steps_stay_in_the_table = in_table

-- ---- demand 3

-- Over forests: from a schema that is accepted with its identifiers, and whose ids are at most its last id, every run
-- of updates lasts.
pub runs_last : (schema : Schema) (identifiers : List ℕ) → Begins schema identifiers → (requests : ℕ → Request)
    → LastingRun schema identifiers requests
runs_last = lasting

-- Over bytes: the same, where each update is given what the last accepted one answered.
pub runs_last_stored : (stored : Stored) (identifiers : List ℕ) → BeginsStored stored identifiers
    → (requests : ℕ → Lent) → LendsBytes requests → LastingStored identifiers (run_stored stored requests) requests
runs_last_stored = lasting_stored

-- What begins with identifiers begins without them.
pub runs_begin_without : (schema : Schema) (identifiers : List ℕ) → Begins schema identifiers → Begins schema []
runs_begin_without = begins_without

pub runs_begin_without_stored : (stored : Stored) (identifiers : List ℕ) → BeginsStored stored identifiers
    → BeginsStored stored []
runs_begin_without_stored = begins_stored_without

-- So an id found in two schemas of a run, whichever two, names one column: the same kind, default flag, attribute and
-- parent id. Its name, whether it is required and its type code are as last set (`later_column`).
pub ids_keep_columns : (schema : Schema) (identifiers : List ℕ) → Begins schema identifiers → (requests : ℕ → Request)
    → (i j : ℕ) (column other : Column) → Has (run schema requests i) column
    → Has (run schema requests j) other → column.field.id ≡ other.field.id → SameColumn column other
ids_keep_columns schema identifiers begins requests =
    one_column _ _ (runs_last schema identifiers begins requests).lasts

-- The same over bytes.
pub ids_keep_columns_stored : (stored : Stored) (identifiers : List ℕ) → BeginsStored stored identifiers
    → (requests : ℕ → Lent) → LendsBytes requests
    → (i j : ℕ) (column other : Column) → Has (schema_of (run_stored stored requests i)) column
    → Has (schema_of (run_stored stored requests j)) other → column.field.id ≡ other.field.id
    → SameColumn column other
ids_keep_columns_stored stored identifiers begins requests bytes =
    one_column (λ i. schema_of (run_stored stored requests i)) _
    (runs_last_stored stored identifiers begins requests bytes).lasts

-- And its type code only rises, whatever versions the requests named: it is the same, or reached by steps.
pub types_only_rise : (schema : Schema) (identifiers : List ℕ) → Begins schema identifiers → (requests : ℕ → Request)
    → (i j : ℕ) → i ≤ j → (column later : Column) → Has (run schema requests i) column
    → Has (run schema requests j) later → column.field.id ≡ later.field.id
    → OnlyRises column.field.code later.field.code
types_only_rise schema identifiers begins requests =
    types_rise _ _ (runs_last schema identifiers begins requests).lasts

pub types_only_rise_stored : (stored : Stored) (identifiers : List ℕ) → BeginsStored stored identifiers
    → (requests : ℕ → Lent) → LendsBytes requests
    → (i j : ℕ) → i ≤ j → (column later : Column) → Has (schema_of (run_stored stored requests i)) column
    → Has (schema_of (run_stored stored requests j)) later → column.field.id ≡ later.field.id
    → OnlyRises column.field.code later.field.code
types_only_rise_stored stored identifiers begins requests bytes =
    types_rise (λ i. schema_of (run_stored stored requests i)) _
    (runs_last_stored stored identifiers begins requests bytes).lasts

-- None of this is empty: T begins a run, and these requests lend bytes,
pub runs_begin : Begins T_schema [] × BeginsStored T_stored [] × LendsBytes T_requests
runs_begin = (T_begins, T_begins_stored, T_lends_bytes)

-- and three of them in a row are accepted. The first adds 11 and 12;
-- the second drops 12, `floor`, and adds 13; `floor`, added again, is 14.
pub runs_go_on : (update_reply (update_entry T_stored (T_requests 0))
    ≡ (1 ∷ 4 ∷ 5 ∷ 11 ∷ 3 ∷ 8 ∷ 9 ∷ 10 ∷ 12 ∷ []) with_last 12)
    × (update_reply (update_entry (run_stored T_stored T_requests 1) (T_requests 1))
    ≡ (1 ∷ 4 ∷ 5 ∷ 11 ∷ 3 ∷ 8 ∷ 9 ∷ 10 ∷ 13 ∷ []) with_last 13)
    × (update_reply (update_entry (run_stored T_stored T_requests 2) (T_requests 2))
    ≡ (1 ∷ 4 ∷ 5 ∷ 11 ∷ 3 ∷ 8 ∷ 9 ∷ 10 ∷ 13 ∷ 14 ∷ []) with_last 14)
runs_go_on = accepted_in_a_row

-- With identifiers, 5 and 2: these requests lend them, then 2 alone, so that 5 can be dropped;
pub runs_begin_identified : Begins keyed_schema (id_list keyed_by) × BeginsStored keyed_stored keyed_by
    × LendsBytes keyed_requests
runs_begin_identified = (keyed_begins, keyed_begins_stored, keyed_lends_bytes)

-- then both again, which is refused, and changes nothing; then 2, and the name of 5 is added again, as 14. The
-- identifiers before each, and after the last, are those of the last accepted one.
pub runs_go_on_identified : (update_reply (keyed_answers 0) ≡ (1 ∷ 5 ∷ 11 ∷ 2 ∷ 12 ∷ []) with_last 12)
    × (update_reply (keyed_answers 1) ≡ (1 ∷ 11 ∷ 2 ∷ 12 ∷ 13 ∷ []) with_last 13)
    × (keyed_answers 2 ≡ refused 9 5 0)
    × (update_reply (keyed_answers 3) ≡ (1 ∷ 11 ∷ 14 ∷ 2 ∷ 12 ∷ 13 ∷ []) with_last 14)
    × (map (identifiers_at keyed_by keyed_answers (λ i. (keyed_requests i).identifiers)) (0 ∷ 1 ∷ 2 ∷ 3 ∷ 4 ∷ [])
    ≡ keyed_by ∷ keyed_by ∷ id_bytes (2 ∷ []) ∷ id_bytes (2 ∷ []) ∷ id_bytes (2 ∷ []) ∷ [])
runs_go_on_identified = keyed_in_a_row

-- With edits, over forests and over bytes: one column is renamed, relaxed and renamed again, and is each time as last
-- set. Between them a request is refused, and sets nothing.
pub runs_edit : Begins keyed_schema [] × EditedInARow (run keyed_schema edits_asked) (run_sets keyed_schema edits_asked)
runs_edit = (begins_without keyed_schema (id_list keyed_by) keyed_begins, edited_in_a_row)

pub runs_edit_stored : BeginsStored keyed_stored [] × LendsBytes edits_requests
    × EditedInARow (λ i. schema_of (run_stored keyed_stored edits_requests i))
    (stored_sets (run_stored keyed_stored edits_requests) edits_requests)
runs_edit_stored =
    (begins_stored_without keyed_stored keyed_by keyed_begins_stored, edits_lend_bytes, edited_in_a_row_stored)

-- With widenings too: an int becomes a long, a decimal gets a higher precision twice, and a date becomes a timestamp in
-- version 3, after a request in version 2 that is refused for it, and sets nothing.
pub runs_widen : Begins sales_schema []
    × WidenedInARow sales_answers (run sales_schema sales_asked) (run_sets sales_schema sales_asked)
runs_widen = (sales_begins, widened_in_a_row)

pub runs_widen_stored : BeginsStored sales_stored [] × LendsBytes sales_requests
    × WidenedInARow sales_answers_stored (λ i. schema_of (run_stored sales_stored sales_requests i))
    (stored_sets (run_stored sales_stored sales_requests) sales_requests)
runs_widen_stored = (sales_begins_stored, sales_lend_bytes, widened_in_a_row_stored)

-- ---- one update

-- Every addition stands: each record that an accepted update adds is in the answer, under the parent that it was
-- added to;
pub every_addition_stands : (schema : Schema) (request : Request) (plan : Plan) (updated : Schema)
    → planned schema request ≡ ok plan → update schema request ≡ ok updated
    → AdditionsStand schema request plan updated
every_addition_stands = additions_stand

-- and so over bytes.
pub every_addition_stands_stored : (stored : Stored) (lent : Lent) (result : Result) → Bytes stored.records
    → BytesLent lent → update_entry stored lent ≡ ok result → OfStored AdditionsStand stored lent result
every_addition_stands_stored stored lent result bytes added accepted =
    of_stored stored lent result bytes added accepted _ every_addition_stands

-- So the ids that it consumes are exactly those that it adds.
pub consumed_are_added : (schema : Schema) (request : Request) (plan : Plan) (updated : Schema)
    → planned schema request ≡ ok plan → update schema request ≡ ok updated
    → ConsumedAreAdded schema request plan updated
consumed_are_added = consumed_added

pub consumed_are_added_stored : (stored : Stored) (lent : Lent) (result : Result) → Bytes stored.records
    → BytesLent lent → update_entry stored lent ≡ ok result → OfStored ConsumedAreAdded stored lent result
consumed_are_added_stored stored lent result bytes added accepted =
    of_stored stored lent result bytes added accepted _ consumed_are_added

-- Nothing vanishes: the records of the answer and those that go are those of the base and those added.
pub nothing_vanishes : (schema : Schema) (request : Request) (plan : Plan) (updated : Schema)
    → planned schema request ≡ ok plan → update schema request ≡ ok updated
    → NothingVanishes schema request plan updated
nothing_vanishes = Standing.nothing_vanishes

pub nothing_vanishes_stored : (stored : Stored) (lent : Lent) (result : Result) → Bytes stored.records
    → BytesLent lent → update_entry stored lent ≡ ok result → OfStored NothingVanishes stored lent result
nothing_vanishes_stored stored lent result bytes added accepted =
    of_stored stored lent result bytes added accepted _ nothing_vanishes

-- What goes, and so refuses additions (22), is what the rebuild leaves out: a column of the base goes exactly where
-- its id is missing in the answer.
pub gone_is_left_out : (schema : Schema) (request : Request) (plan : Plan) (updated : Schema)
    → planned schema request ≡ ok plan → update schema request ≡ ok updated
    → GoneIsLeftOut schema request plan updated
gone_is_left_out = gone_left_out

pub gone_is_left_out_stored : (stored : Stored) (lent : Lent) (result : Result) → Bytes stored.records
    → BytesLent lent → update_entry stored lent ≡ ok result → OfStored GoneIsLeftOut stored lent result
gone_is_left_out_stored stored lent result bytes added accepted =
    of_stored stored lent result bytes added accepted _ gone_is_left_out

-- An accepted update visits the records of its answer, and the dropped members that stand beneath no other dropped one
-- (02, 7/13);
pub visits_answer_and_dropped : (schema : Schema) (request : Request) (plan : Plan) (updated : Schema)
    → planned schema request ≡ ok plan → update schema request ≡ ok updated
    → AnswerAndDropped (visited schema request) schema request plan updated
visits_answer_and_dropped = visits_answer

pub visits_answer_and_dropped_stored : (stored : Stored) (lent : Lent) (result : Result) → Bytes stored.records
    → BytesLent lent → update_entry stored lent ≡ ok result
    → OfStored (AnswerAndDropped result.visited) stored lent result
visits_answer_and_dropped_stored stored lent result bytes added accepted =
    of_visited stored lent result bytes added accepted AnswerAndDropped visits_answer_and_dropped

-- or, the same number, the base records with no dropped member above them, and every added record.
pub visits_all_added : (schema : Schema) (request : Request) (plan : Plan) (updated : Schema)
    → planned schema request ≡ ok plan → update schema request ≡ ok updated
    → ReachedAndAdded (visited schema request) schema request plan updated
visits_all_added = visits_added

pub visits_all_added_stored : (stored : Stored) (lent : Lent) (result : Result) → Bytes stored.records
    → BytesLent lent → update_entry stored lent ≡ ok result
    → OfStored (ReachedAndAdded result.visited) stored lent result
visits_all_added_stored stored lent result bytes added accepted =
    of_visited stored lent result bytes added accepted ReachedAndAdded visits_all_added

-- They are at most the records of the answer, and one for each deletion;
pub visits_answer_and_deletions : (schema : Schema) (request : Request) (updated : Schema)
    → update schema request ≡ ok updated
    → visited schema request ≤ size updated.tree + length request.deletions
visits_answer_and_deletions = visits_deletions

-- and at most as many as the base has and the request adds. Over bytes both, so at most 2,048, and at most 1,088.
pub visits_few : (schema : Schema) (request : Request)
    → visited schema request ≤ size schema.tree + size request.added
visits_few = Visits.visits_few

pub visits_few_stored : (stored : Stored) (lent : Lent) (result : Result) → update_entry stored lent ≡ ok result
    → FewVisited stored lent result
visits_few_stored = few_stored

-- What neither deletes nor adds visits every base record once, whatever it edits.
pub nothing_asked_visits_all : (schema : Schema) (request : Request) (updated : Schema)
    → update schema request ≡ ok updated → request.deletions ≡ [] → request.additions ≡ []
    → visited schema request ≡ size schema.tree
nothing_asked_visits_all = visits_all

pub nothing_asked_visits_all_stored : (stored : Stored) (lent : Lent) (result : Result)
    → update_entry stored lent ≡ ok result → lent.deletions ≡ [] → lent.additions ≡ []
    → result.visited ≡ slots stored.records
nothing_asked_visits_all_stored = all_stored

-- A refusal tells that none was visited; so does a pruning or a renumbering.
pub refusals_visit_nothing : NoneVisited
refusals_visit_nothing = none_visited

-- What stays is as it was last set: each column of the base that does not go stands in the answer, and but for its name,
-- whether it is required and its type code, which are as the request sets them, it is as it was.
pub what_stays_is_as_set : (schema : Schema) (request : Request) (plan : Plan) (updated : Schema)
    → planned schema request ≡ ok plan → update schema request ≡ ok updated
    → StaysAsSet schema request plan updated
what_stays_is_as_set = stays_as_set

pub what_stays_is_as_set_stored : (stored : Stored) (lent : Lent) (result : Result) → Bytes stored.records
    → BytesLent lent → update_entry stored lent ≡ ok result → OfStored StaysAsSet stored lent result
what_stays_is_as_set_stored stored lent result bytes added accepted =
    of_stored stored lent result bytes added accepted _ what_stays_is_as_set

-- A renamed column is found by its full name with the new name in it. If that is another name, the old full name finds
-- another column or none.
pub renamed_columns_are_found : (schema : Schema) (request : Request) (plan : Plan) (updated : Schema)
    → planned schema request ≡ ok plan → update schema request ≡ ok updated
    → RenamesFound schema request plan updated
renamed_columns_are_found = renames_found

pub renamed_columns_are_found_stored : (stored : Stored) (lent : Lent) (result : Result) → Bytes stored.records
    → BytesLent lent → update_entry stored lent ≡ ok result → OfStored RenamesFound stored lent result
renamed_columns_are_found_stored stored lent result bytes added accepted =
    of_stored stored lent result bytes added accepted _ renamed_columns_are_found

-- Without edits an update answers what it answered before 02, 5/13;
pub no_edits_as_before : (schema : Schema) (request : Request) → request.edits ≡ []
    → update schema request ≡ Before.update schema (request_before request)
no_edits_as_before = as_before

-- over bytes one that names a known version (25), but for how many records it visits (02, 7/13).
pub no_edits_as_before_stored : (stored : Stored) (lent : Lent) → known_version lent.version ≡ true → lent.edits ≡ []
    → result_before (update_entry stored lent) ≡ Before.update_entry stored (lent_before lent)
no_edits_as_before_stored = as_before_stored

-- ---- runs end

-- A renumbering ends a run: no run lasts in which T is followed by T renumbered from 4, whatever was set.
pub renumbering_ends : (at : ℕ → Schema) (sets : ℕ → List Edited) (result : Result)
    → renumber_entry T_records T_pool [] 4 24576 32768 0 ≡ ok result
    → (at 0).tree ≡ T → (at 1).tree ≡ result.tree → Lasting at sets → ⊥
renumbering_ends = Ends.renumbering_ends

-- Another may begin, from what it answered, the identifiers too, with a last id that is at least the highest that it
-- gave.
pub renumbering_begins : (records pool identifiers : List ℕ) (start room_records room_names room_ids : ℕ)
    → (result : Result) → Bytes records
    → renumber_entry records pool identifiers start room_records room_names room_ids ≡ ok result
    → (last : ℕ) → turned start + size result.tree ≤ suc (turned last)
    → BeginsStored (bytes_of result.tree last) (out_identifiers result)
renumbering_begins = Ends.renumbering_begins

-- ---- the round trip. `Bytes` says that what is lent are bytes, numbers below 256.

-- What `decode` gives of a list that passed 2, encoded, decodes to the same forest.
pub decode_round_trip : (list list' : ℕ) (records pool : List ℕ) (tree : Forest Field)
    → Bytes records → sized records pool ≡ true → decode list records pool ≡ ok tree
    → decode list' (record_bytes tree) (pool_bytes tree) ≡ ok tree
decode_round_trip = decoded_again

-- What an accepted update answers is accepted again by 2 to 8, and is read as its tree.
pub update_round_trip : (stored : Stored) (lent : Lent) (result : Result)
    → Bytes stored.records → BytesLent lent → update_entry stored lent ≡ ok result → ReadsAgain result
update_round_trip = update_again

-- So is what an accepted pruning answers,
pub prune_round_trip : (records pool selected : List ℕ) (full : Bool) (room_records room_names : ℕ) (result : Result)
    → Bytes records → prune_entry records pool selected full room_records room_names ≡ ok result → ReadsAgain result
prune_round_trip = prune_again

-- and what an accepted renumbering answers.
pub renumber_round_trip : (records pool identifiers : List ℕ) (start room_records room_names room_ids : ℕ)
    → (result : Result) → Bytes records
    → renumber_entry records pool identifiers start room_records room_names room_ids ≡ ok result → ReadsAgain result
renumber_round_trip = renumber_again

-- ---- identifiers

-- What an accepted update answers is accepted again with the identifiers of its request,
pub updates_pass_again : (schema : Schema) (request : Request) (updated : Schema) → update schema request ≡ ok updated
    → sound 0 updated.tree request.identifiers ≡ ok tt
updates_pass_again = update_identified

-- and what an accepted renumbering answers with the identifiers that it answers.
pub renumberings_pass_again : (tree : Forest Field) (identifiers : List ℕ) (start : ℕ) (renumbered : Renumber.Renumbered)
    → renumber tree identifiers start ≡ ok renumbered
    → sound 0 renumbered.tree renumbered.identifiers ≡ ok tt
renumberings_pass_again = renumber_identified

-- So over bytes: what was answered can be lent again, with the identifiers that were lent,
pub updates_pass_again_stored : (stored : Stored) (lent : Lent) (result : Result) → Bytes stored.records
    → BytesLent lent → update_entry stored lent ≡ ok result → PassesAgain result.tree lent.identifiers
updates_pass_again_stored = update_passes

-- or with the very bytes of those that were answered.
pub renumberings_pass_again_stored : (records pool identifiers : List ℕ)
    → (start room_records room_names room_ids : ℕ) (result : Result) → Bytes records
    → renumber_entry records pool identifiers start room_records room_names room_ids ≡ ok result
    → IdentifiersAgain identifiers result
renumberings_pass_again_stored = renumber_passes

-- ---- pruning and renumbering

-- An accepted pruning gives a part of the tree: each column was
-- there, under the same parent, and the order is kept.
pub pruning_gives_a_part : (records pool selected : List ℕ) (full : Bool) (room_records room_names : ℕ)
    → (result : Result) → prune_entry records pool selected full room_records room_names ≡ ok result
    → Pruned records pool result
pruning_gives_a_part = prune_parts

-- An accepted renumbering gives start .. start + n - 1, each once, and keeps all but the ids.
pub renumbering_gives_each_once : (records pool identifiers : List ℕ)
    → (start room_records room_names room_ids : ℕ) (result : Result)
    → renumber_entry records pool identifiers start room_records room_names room_ids ≡ ok result
    → Renumbered records pool start result
renumbering_gives_each_once = renumber_numbers

-- ---- one answer

-- No second answer fits: two outcomes that keep the promise of an entry that writes (`Answers`) are one.
-- `answer` is the definition's, `said` is what is told, `news` what the buffers hold afterwards;
pub one_answer : {R A : Type 0} (says : Answer R → A) (answer : Answer R) (buffers : List (Buffer R))
    → (said said' : A) (news news' : List (List ℕ)) → Answers says answer buffers said news
    → Answers says answer buffers said' news' → (said ≡ said') × (news ≡ news')
one_answer = One.one_answer

-- and so are two of a look-up, of any of the four: by name, by id, by parent, and by a name whose case is forgotten.
pub one_found : (answer : Answer (Option Row)) (said said' : Found) → PromisedFound answer said
    → PromisedFound answer said' → said ≡ said'
one_found = One.one_found

-- A refusal changes no byte. Of an outcome that keeps an entry's promise: where the definition refuses, and so
-- where the number that is told is not 0, each output buffer is as it was. An entry is lent nothing else that it
-- could write.
pub refusals_change_no_byte : NoByteChanges
refusals_change_no_byte = One.no_byte_changes

-- Each refusal has one number: the definitions give 1 to the last, each once, and none gives another's.
pub each_refusal_has_one_number : OneNumberEach
each_refusal_has_one_number = one_number_each

-- An id is no slot: a look-up answers the id of the record that stands at the slot that it answers.
pub an_id_is_no_slot : IdsAreNoSlots
an_id_is_no_slot = ids_are_no_slots

-- A refusal of any entry has a number from 1 to the last and a list from 0 to the last.
pub refusals_are_told : RefusalsTold
refusals_are_told = refusals_told

-- So it is not taken for an acceptance, which says 0;
pub zero_is_accepted : (answer : Answer Result) (n l p : ℕ) → Told answer → (changed answer).refusal ≡ 0
    → answer ≡ refused n l p → ⊥
zero_is_accepted = none_accepted

-- nor is that of a search for many ids.
pub zero_is_searched : (answer : Answer (List (Option Row))) (n l p : ℕ) → Told answer → (searched answer).refusal ≡ 0
    → answer ≡ refused n l p → ⊥
zero_is_searched = none_searched

-- No second tree fits the bytes of an answer.
pub one_tree : (result result' : Result) → ReadsAgain result → ReadsAgain result'
    → record_bytes result.tree ≡ record_bytes result'.tree
    → pool_bytes result.tree ≡ pool_bytes result'.tree → result.tree ≡ result'.tree
one_tree = One.one_tree

-- ---- names whose case is forgotten

-- Where folding changes nothing and at most one column has the asked short name, the answer is the exact look-up's;
pub folding_is_exact : (tree : Forest Field) (name : List ℕ) → sound 0 tree [] ≡ ok tt → Plain tree name
    → look_folded tree name ≡ ok (look_name tree name)
folding_is_exact = plain_exact

-- and so from bytes, where that holds of the tree that is read.
pub folding_is_exact_read : (records pool name : List ℕ)
    → ((tree : Forest Field) → read records pool ≡ ok tree → Plain tree name)
    → find_folded records pool name ≡ find_name records pool name
folding_is_exact_read = plain_exact_read

-- What the exact look-up finds is found where it is the only one that matches.
pub found_alone_is_found : (tree : Forest Field) (name : List ℕ) (row : Row) → look_name tree name ≡ some row
    → Alone tree name row → look_folded tree name ≡ ok (some row)
found_alone_is_found = exact_alone

-- The asked name's case is forgotten: names that fold to one are answered alike.
pub folding_folds_once : CaseForgotten
folding_folds_once = case_forgotten

-- What is refused is refused as 21 of the base, at the second of two columns that match at one level.
pub ambiguous_means_two : (tree : Forest Field) (name : List ℕ) (number list place : ℕ)
    → look_folded tree name ≡ refused number list place → (number ≡ 21) × (list ≡ 0) × Second tree name place
ambiguous_means_two = ambiguous_two

-- Nothing, one, or a second: each is answered where the rows are so, and nowhere else.
pub folding_goes_by_rows : (tree : Forest Field) (name : List ℕ) → ByRows tree name
folding_goes_by_rows = by_rows

-- None of these is empty: T is plain, and in a tree with capital letters one matches alone and two do not.
pub folding_is_met : FoldingMet
folding_is_met = folding_met

-- ---- many ids at once

-- A search for many ids answers what as many searches for one answer: the i-th row is what the i-th of them finds, it is
-- refused as each of them is, and it counts what they find.
pub many_are_one_by_one : (records pool ids : List ℕ) (room_slots : ℕ) → Lendable ids room_slots
    → OneByOne records pool ids room_slots
many_are_one_by_one = one_by_one

-- Four bytes for each id: its slot, or 4,294,967,295, which is no slot.
pub slots_are_in_order : (records pool ids : List ℕ) (room_slots : ℕ) (rows : List (Option Row))
    → find_ids records pool ids room_slots ≡ ok rows → InSlots ids rows
slots_are_in_order = in_slots

-- ---- wrong programs

-- An update that answers P4 and two additions as the definition does is not one that turns all down, no no-op, not
-- one that applies the first entry alone, and makes up no record count, name bytes or last id.
pub no_wrong_update : (update : AnUpdate) → P4 update ≡ P4 update_entry
    → two_added update ≡ two_added update_entry → RightUpdate update
no_wrong_update = right_update

-- A pruner that answers P8 and P9 as the definition does hands back no constant tree.
pub no_wrong_pruner : (pruner : APruner) → P8 pruner ≡ P8 prune_entry → P9 pruner ≡ P9 prune_entry
    → RightPruner pruner
no_wrong_pruner = right_pruner
