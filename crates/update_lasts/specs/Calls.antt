-- Demand 3 of the functions themselves: what a caller of `update` does, call after call, and what then holds of
-- all that it stored; and how much a call visits. Nothing is known of a call but what the function's `ensures` says.
use Rattle.std.specs.Prelude.{ℕ, suc, ◌+◌, ◌*◌, ◌≤◌, ◌≡◌, cond, List, [], ◌∷◌, eqb, take}
use Rattle.std.proofs.Math.Option.{Option, none, some}
use Rattle.paper.specs.Answer.{Answer}
use Rattle.paper.specs.Bytes.{turned, slots}
use Rattle.paper.specs.Lent.{Stored, Lent}
use Rattle.paper.specs.Entries.{Result, update_entry}
use Rattle.paper.specs.Outcome.{for_records, for_names, Answers}
use Rattle.theorems.specs.Stored.{LendsBytes, LastingStored}
use Rattle.record.specs.declared.Sizes.{Sizes}
use Rattle.record.specs.Answers.{Changed}
use Rattle.std.specs.Prelude.{Ok, Err}
use Rattle.record.specs.Says.{changes}
use Rattle.braidhurdle.specs.declared.ChangedNumbers.{ChangedNumbers}
use Rattle.braidhurdle.specs.Numbers.{laid}

-- ---- one call

-- What a call lends beside what is stored, both output buffers before and after it, and the answer. The rooms that
-- are lent are the lengths of the buffers before, in the ties to the functions (proofs/Tied.antt).
pub record Call (A : Type 0) : Type 0 where
  pub lent : Lent
  pub records_before : List ℕ
  pub names_before : List ℕ
  pub records_after : List ℕ
  pub names_after : List ℕ
  pub answer : A

-- ---- the two contracts

-- How a function tells the paper's answer, and what a caller reads in it: of an acceptance how many records and
-- name bytes it left, the last id and the records visited, of a refusal nothing.
pub record Contract (A : Type 0) : Type 0 where
  pub says : Answer Result → A
  pub sizes : A → Option Sizes

-- What it ensures of a call where s is stored.
abbrev pub Ensures : {A : Type 0} → Contract A → Stored → Call A → Type 0
Ensures f s c =
    Answers f.says (update_entry s c.lent) (for_records c.records_before ∷ for_names c.names_before ∷ [])
    c.answer (c.records_after ∷ c.names_after ∷ [])

abbrev pub sizes_of : Changed → Option Sizes
sizes_of (Ok z) = some z
sizes_of (Err x) = none

-- In seven numbers a refusal is not 0.
abbrev pub sizes_in : ChangedNumbers → Option Sizes
sizes_in c =
    cond (eqb c.refusal 0)
    (some (record { records = c.records; names = c.names; last_id = c.last_id; visited = c.visited })) none

-- `update::update`,
abbrev pub of_update : Contract Changed
of_update = record { says = changes; sizes = sizes_of }

-- and `braidhurdle_update`, the library's function and, with the same promise, the exported one.
abbrev pub of_c_update : Contract ChangedNumbers
of_c_update = record { says = laid; sizes = sizes_in }

-- ---- a caller

-- After an acceptance: as many records and name bytes from the front of the buffers as the answer says, and its
-- last id. After a refusal: what was stored.
abbrev pub keeps : Stored → Option Sizes → (records names : List ℕ) → Stored
keeps s none records names = s
keeps s (some z) records names =
    record { records = take (z.records * 24) records; pool = take z.names names; last = z.last_id }

-- A caller of a function f, that has `at i` stored before call i.
pub record Calls {A : Type 0} (f : Contract A) (at : ℕ → Stored) (calls : ℕ → Call A) : Type 0 where
  -- The added records and the edits are bytes, below 256, as a slice of u8 always is (`lent_bytes`).
  pub bytes : LendsBytes (λ i. (calls i).lent)
  -- Each call is given what is stored, and does what f ensures;
  pub ensures : (i : ℕ) → Ensures f (at i) (calls i)
  -- the caller stores what it answers.
  pub stores : (i : ℕ)
      → at (suc i) ≡ keeps (at i) (f.sizes (calls i).answer) (calls i).records_after (calls i).names_after

-- ---- demand 3

-- Of calls that begin with bytes of identifiers.
pub record LastingCalls {A : Type 0} (f : Contract A) (identifiers : List ℕ) (at : ℕ → Stored) (calls : ℕ → Call A)
    : Type 0 where
  -- All clauses of demand 3 over bytes hold of what is stored.
  pub lasts : LastingStored identifiers at (λ i. (calls i).lent)
  -- The last id of an accepted answer is the given one plus the number of records that were added.
  pub last_id : (i : ℕ) (z : Sizes) → f.sizes (calls i).answer ≡ some z
      → turned z.last_id ≡ turned (at i).last + slots (calls i).lent.added_records

-- ---- 02, 7/13

-- What an accepted call says that it visited: at most the records that are stored and those that are added; and, as an
-- answer has at most 1,024 and a request at most 64 deletions, at most 1,088.
pub record VisitsFew {A : Type 0} (f : Contract A) (s : Stored) (c : Call A) : Type 0 where
  pub few : (z : Sizes) → f.sizes c.answer ≡ some z
      → (z.visited ≤ slots s.records + slots c.lent.added_records) × (z.visited ≤ 1088)
