-- What a caller stores is the paper's run: after an acceptance the front of the buffers, as long as the answer
-- says, is the answer's bytes; after a refusal nothing changes. So demand 3 over bytes speaks of what it stores.
use Prim.Native.Nat.{ℕ, zero, suc, ◌*◌}
use mathlib.Core.Path.{◌≡◌, refl, sym, ap, subst, fun_ext, ◌∙◌}
use mathlib.Core.List.{List, [], ◌∷◌}
use mathlib.Core.Option.{Option, none, some}
use native.Mathlib.Omega.{arith}
use borrow.Author.Tests.{ne_eqb}
use lib.ListN.{length, drop, get_or}
use lib.Seq.{take_at}
use Rattle.paper.specs.Answer.{Answer, ok, refused}
use Rattle.paper.specs.Forest.{size}
use Rattle.paper.specs.Encode.{record_bytes, pool_bytes}
use Rattle.paper.specs.Lent.{Stored, Lent}
use Rattle.paper.specs.Entries.{Result, update_entry}
use Rattle.paper.specs.Outcome.{changed, leaves, for_records, for_names, Answers}
use Rattle.laws.proofs.Basics.{none≢some, some_is}
use Rattle.laws.proofs.RoundTrip.{length_written}
use Rattle.theorems.specs.One.{Told, turned_down}
use Rattle.theorems.specs.Stored.{next_stored, run_stored, BeginsStored, LastingStored}
use Rattle.theorems.proofs.Promises.{runs_last_stored, refusals_are_told, visits_few_stored}
use Rattle.record.specs.declared.Sizes.{Sizes}
use Rattle.record.specs.Says.{changes}
use Rattle.update_lasts.specs.Calls.{Call, Contract, Ensures, of_update, of_c_update, keeps, Calls, LastingCalls, VisitsFew}

-- ---- what the paper's answer says

abbrev said : Answer Result → Option Sizes
said (ok r) = some (record { records = size r.tree; names = length (pool_bytes r.tree); last_id = r.last; visited = r.visited })
said (refused n l p) = none

-- A caller of f reads it: a refusal's number is not 0.
abbrev pub Reads : {A : Type 0} → Contract A → Type 0
Reads f = (a : Answer Result) → Told a → f.sizes (f.says a) ≡ said a

pub update_reads : Reads of_update
unfolding changes
update_reads (ok r) t = refl
update_reads (refused n l p) t = refl

pub c_update_reads : Reads of_c_update
unfolding changed
c_update_reads (ok r) t = refl
c_update_reads (refused n l p) (turned_down low high list) = rw (ne_eqb n 0 (λ e. omega arith))

-- ---- a run

is_run : (at : ℕ → Stored) (requests : ℕ → Lent)
    → ((i : ℕ) → at (suc i) ≡ next_stored (at i) (update_entry (at i) (requests i)))
    → (i : ℕ) → at i ≡ run_stored (at 0) requests i
is_run at requests f zero = refl
is_run at requests f (suc i) =
    f i ∙ ap (λ (s : Stored). next_stored s (update_entry s (requests i))) (is_run at requests f i)

-- What is said of an acceptance is the last id and the number of records visited of the paper's result.
said_ok : (a : Answer Result) (z : Sizes) → said a ≡ some z
    → (r : Result) × (a ≡ ok r) × (z.last_id ≡ r.last) × (z.visited ≡ r.visited)
said_ok (ok r) z h =
    let e : _ ≡ z = some_is h in
    (r, refl, sym (ap (λ (x : Sizes). x.last_id) e), sym (ap (λ (x : Sizes). x.visited) e))
said_ok (refused n l p) z h = absurd (none≢some h)

module _ {A : Type 0} (f : Contract A) (reads : Reads f) where
  pub keeps_next : (s : Stored) (a : Answer Result) (c : Call A) → Told a
      → Answers f.says a (for_records c.records_before ∷ for_names c.names_before ∷ [])
      c.answer (c.records_after ∷ c.names_after ∷ [])
      → keeps s (f.sizes c.answer) c.records_after c.names_after ≡ next_stored s a
  unfolding leaves
  keeps_next s (ok r) c t h =
      let tree = r.tree in
      let after : (i : ℕ) → _ = λ i. ap (λ (l : List (List ℕ)). get_or l i []) h.left in
      rw (h.told, reads (ok r) t, after 0, after 1)
      (rw (
        take_at (record_bytes tree) (drop (length (record_bytes tree)) c.records_before) (size tree * 24)
            (length_written tree),
        take_at (pool_bytes tree) (drop (length (pool_bytes tree)) c.names_before) (length (pool_bytes tree)) refl,
      ))
  keeps_next s (refused n l p) c t h = rw (h.told, reads (refused n l p) t)

  -- A caller who reads an acceptance has the paper's result.
  accepted_as : (s : Stored) (c : Call A) → Ensures f s c → (z : Sizes) → f.sizes c.answer ≡ some z
      → (r : Result) × (update_entry s c.lent ≡ ok r) × (z.last_id ≡ r.last) × (z.visited ≡ r.visited)
  accepted_as s c h z e =
      said_ok (update_entry s c.lent) z
      (sym (ap f.sizes h.told ∙ reads _ (refusals_are_told.update _ _)) ∙ e)

  pub calls_last : (identifiers : List ℕ) (at : ℕ → Stored) (calls : ℕ → Call A) → BeginsStored (at 0) identifiers
      → Calls f at calls → LastingCalls f identifiers at calls
  calls_last identifiers at calls b c =
      let requests : ℕ → Lent = λ i. (calls i).lent in
      let told : (i : ℕ) → Told (update_entry (at i) (requests i)) = λ i. refusals_are_told.update _ _ in
      let follows : (i : ℕ) → at (suc i) ≡ next_stored (at i) (update_entry (at i) (requests i)) =
      λ i. c.stores i ∙ keeps_next (at i) _ (calls i) (told i) (c.ensures i) in
      let l = subst (λ (g : ℕ → Stored). LastingStored identifiers g requests) (sym (fun_ext (is_run at requests follows)))
      (runs_last_stored (at 0) identifiers b requests c.bytes) in
      record {
        lasts = l;
        last_id = λ i z e.
            let o = accepted_as (at i) (calls i) (c.ensures i) z e in
            rw o.2 (l.consumes i o.0 o.1).last_id;
      }

  pub calls_visit : (s : Stored) (c : Call A) → Ensures f s c → VisitsFew f s c
  calls_visit s c h =
      record {
        few = λ z e.
            let o = accepted_as s c h z e in
            let b = visits_few_stored s c.lent o.0 o.1 in
            rw o.3 (b.stored_and_added, b.within_limits);
      }
