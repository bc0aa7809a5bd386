-- Demand 3 of the functions, one statement each. What a statement says is defined in specs/Calls.antt.
use Prim.Native.Nat.{ℕ, ◌≤◌}
use mathlib.Core.Path.{◌≡◌}
use mathlib.Core.List.{List, []}
use mathlib.Core.Option.{none, some}
use Rattle.paper.specs.Lent.{Stored, Lent}
use Rattle.theorems.specs.Stored.{LendsBytes, schema_of, run_stored, stored_sets, BeginsStored}
use Rattle.theorems.specs.Columns.{Column, Has}
use Rattle.theorems.specs.Promoted.{OnlyRises}
use Rattle.theorems.specs.Edited.{EditedInARow, WidenedInARow}
use Rattle.theorems.proofs.Beginning.{T_stored, T_requests, keyed_stored, keyed_by, keyed_requests, edits_requests}
use Rattle.theorems.proofs.Beginning.{sales_stored, sales_requests, sales_answers_stored}
use Rattle.theorems.proofs.Evolution.{types_rise}
use Rattle.theorems.proofs.Promises.{runs_begin, runs_go_on, runs_begin_identified, runs_go_on_identified}
use Rattle.theorems.proofs.Promises.{runs_edit_stored, runs_widen_stored}
use Rattle.record.specs.declared.Sizes.{Sizes}
use Rattle.record.specs.Answers.{Changed}
use Rattle.braidhurdle.specs.declared.ChangedNumbers.{ChangedNumbers}
use Rattle.update_lasts.specs.Calls.{Call, Contract, Ensures, of_update, of_c_update, Calls, LastingCalls, VisitsFew}
use Rattle.update_lasts.proofs.Kept.{update_reads, c_update_reads, calls_last, calls_visit}
use Rattle.update_lasts.proofs.Going.{calls_of, calls_run, shown_accepted, refused_shown}

-- Whoever calls `update` again and again and stores what it answers has demand 3 of all that was stored.
-- That `of_update` is the function's own `ensures` is `update_says` (Tied.antt).
pub update_lasts : (identifiers : List ℕ) (at : ℕ → Stored) (calls : ℕ → Call Changed) → BeginsStored (at 0) identifiers
    → Calls of_update at calls → LastingCalls of_update identifiers at calls
update_lasts = calls_last of_update update_reads

-- So has whoever calls the C function: `c_update_says` is the tie to the library's function of its name, `update_is_one`
-- (crates/braidhurdle_c/proofs/Tied.antt) that of the library's function to the exported one.
pub c_update_lasts : (identifiers : List ℕ) (at : ℕ → Stored) (calls : ℕ → Call ChangedNumbers)
    → BeginsStored (at 0) identifiers → Calls of_c_update at calls → LastingCalls of_c_update identifiers at calls
c_update_lasts = calls_last of_c_update c_update_reads

-- What a call says that it visited, of either function.
pub updates_visit_few : ((s : Stored) (c : Call Changed) → Ensures of_update s c → VisitsFew of_update s c)
    × ((s : Stored) (c : Call ChangedNumbers) → Ensures of_c_update s c → VisitsFew of_c_update s c)
updates_visit_few = (calls_visit of_update update_reads, calls_visit of_c_update c_update_reads)

-- So the type code of a column that was stored twice only rises, whatever versions the calls between named.
pub types_stored_rise : {A : Type 0} (f : Contract A) (identifiers : List ℕ) (at : ℕ → Stored) (calls : ℕ → Call A)
    → LastingCalls f identifiers at calls → (i j : ℕ) → i ≤ j → (column later : Column) → Has (schema_of (at i)) column
    → Has (schema_of (at j)) later → column.field.id ≡ later.field.id
    → OnlyRises column.field.code later.field.code
types_stored_rise f identifiers at calls l =
    types_rise (λ i. schema_of (at i)) (stored_sets at (λ i. (calls i).lent)) l.lasts.lasts

-- Neither is empty: whatever is stored and lent, there are such calls;
pub updates_run : (s : Stored) (requests : ℕ → Lent) → LendsBytes requests
    → Calls of_update (run_stored s requests) (calls_of of_update s requests)
    × Calls of_c_update (run_stored s requests) (calls_of of_c_update s requests)
updates_run s requests b =
    (calls_run of_update update_reads s requests b, calls_run of_c_update c_update_reads s requests b)

-- and T begins a run whose first two calls are accepted.
pub updates_go_on : BeginsStored T_stored [] × LendsBytes T_requests
    × ((z : Sizes) × (of_update.sizes (calls_of of_update T_stored T_requests 0).answer ≡ some z))
    × ((z : Sizes) × (of_update.sizes (calls_of of_update T_stored T_requests 1).answer ≡ some z))
updates_go_on =
    (runs_begin.1, runs_begin.2, shown_accepted _ _ _ runs_go_on.0, shown_accepted _ _ _ runs_go_on.1)

-- So does a tree with identifiers: the first two calls are accepted, with other identifiers each, and the third is not.
pub updates_go_on_identified : BeginsStored keyed_stored keyed_by × LendsBytes keyed_requests
    × ((z : Sizes) × (of_update.sizes (calls_of of_update keyed_stored keyed_requests 0).answer ≡ some z))
    × ((z : Sizes) × (of_update.sizes (calls_of of_update keyed_stored keyed_requests 1).answer ≡ some z))
    × (of_update.sizes (calls_of of_update keyed_stored keyed_requests 2).answer ≡ none)
updates_go_on_identified = (
  runs_begin_identified.1,
  runs_begin_identified.2,
  shown_accepted _ _ _ runs_go_on_identified.0,
  shown_accepted _ _ _ runs_go_on_identified.1,
  refused_shown _ runs_go_on_identified.2,
)

-- And there are calls that rename, relax and rename one column, which is each time as last set.
pub updates_edit : BeginsStored keyed_stored []
    × Calls of_update (run_stored keyed_stored edits_requests) (calls_of of_update keyed_stored edits_requests)
    × Calls of_c_update (run_stored keyed_stored edits_requests) (calls_of of_c_update keyed_stored edits_requests)
    × EditedInARow (λ i. schema_of (run_stored keyed_stored edits_requests i))
    (stored_sets (run_stored keyed_stored edits_requests) edits_requests)
updates_edit =
    let calls = updates_run keyed_stored edits_requests runs_edit_stored.1 in
    (runs_edit_stored.0, calls.0, calls.1, runs_edit_stored.2)

-- And calls that widen three columns, by the steps of both versions.
pub updates_widen : BeginsStored sales_stored []
    × Calls of_update (run_stored sales_stored sales_requests) (calls_of of_update sales_stored sales_requests)
    × Calls of_c_update (run_stored sales_stored sales_requests) (calls_of of_c_update sales_stored sales_requests)
    × WidenedInARow sales_answers_stored (λ i. schema_of (run_stored sales_stored sales_requests i))
    (stored_sets (run_stored sales_stored sales_requests) sales_requests)
updates_widen =
    let calls = updates_run sales_stored sales_requests runs_widen_stored.1 in
    (runs_widen_stored.0, calls.0, calls.1, runs_widen_stored.2)
