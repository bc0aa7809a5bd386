-- The promise speaks of something: whatever is stored and lent there are calls that do what the functions ensure,
-- and of the calls that begin with T, or with a tree that has identifiers, the first two are accepted.
use Prim.Native.Nat.{ℕ}
use mathlib.Core.Path.{◌≡◌, refl, sym}
use mathlib.Core.List.{List}
use mathlib.Core.Option.{none, some}
use native.Mathlib.Omega.{arith}
use lib.IntN.{ℤ}
use lib.ListN.{replicate}
use Rattle.paper.specs.Answer.{Answer, ok, refused}
use Rattle.paper.specs.Lent.{Stored, Lent}
use Rattle.paper.specs.Entries.{Result, update_entry}
use Rattle.paper.specs.Outcome.{leaves, out_records, out_names}
use Rattle.paper.specs.Asked.{update_reply, updated}
use Rattle.theorems.specs.Stored.{LendsBytes, run_stored}
use Rattle.theorems.proofs.Promises.{refusals_are_told}
use Rattle.record.specs.declared.Sizes.{Sizes}
use Rattle.record.specs.Says.{changes}
use Rattle.update_lasts.specs.Calls.{Call, Contract, of_update, Calls}
use Rattle.update_lasts.proofs.Kept.{Reads, keeps_next}

-- ---- calls

-- A call over buffers of zeros that leaves what the paper says.
abbrev right_call : {A : Type 0} → Contract A → Stored → Lent → Call A
right_call f s q =
    let a = update_entry s q in
    let zeros : ℕ → List ℕ = λ n. replicate n 0 in
    record {
      lent = q;
      records_before = zeros q.room_records;
      names_before = zeros q.room_names;
      records_after = leaves out_records a (zeros q.room_records);
      names_after = leaves out_names a (zeros q.room_names);
      answer = f.says a;
    }

abbrev pub calls_of : {A : Type 0} → Contract A → Stored → (ℕ → Lent) → ℕ → Call A
calls_of f s requests i = right_call f (run_stored s requests i) (requests i)

pub calls_run : {A : Type 0} (f : Contract A) → Reads f → (s : Stored) (requests : ℕ → Lent) → LendsBytes requests
    → Calls f (run_stored s requests) (calls_of f s requests)
calls_run f reads s requests b =
    record {
      bytes = b;
      ensures = λ i. record { told = refl; left = refl };
      stores = λ i.
          sym (keeps_next f reads _ _ (calls_of f s requests i) (refusals_are_told.update _ _)
          (record { told = refl; left = refl }));
    }

-- ---- what is shown

-- A reply that shows a tree is of an acceptance.
pub shown_accepted : (a : Answer Result) (ids : List ℤ) (last : ℤ) → update_reply a ≡ updated ids last
    → (z : Sizes) × (of_update.sizes (of_update.says a) ≡ some z)
unfolding changes
shown_accepted (ok r) ids last e = (_, refl)
shown_accepted (refused n l p) ids last e = absurd (let z : ◌≡◌ {A = ℕ} 0 1 = cc in omega arith)

pub refused_shown : (a : Answer Result) {n l p : ℕ} → a ≡ refused n l p → of_update.sizes (of_update.says a) ≡ none
unfolding changes
refused_shown a e = rw e
