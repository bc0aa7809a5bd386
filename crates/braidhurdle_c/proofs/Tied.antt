-- The C boundary by place. Contracts and code follow names: two parameters of one type could change places, and all would
-- still be proved. Here each exported function is held to the order of include/braidhurdle.h. The fields of the results are
-- held to it where the structs stand (crates/braidhurdle/proofs/Tied.antt).
use mathlib.Core.Path.{◌≡◌, refl}
use mathlib.Core.List.{[], ◌∷◌}
use lib.ListN.{length}
use borrow.Fn.World.{ArgsD, ResD}
use contract.Lifetimes.{Lfts}
use denote.Triple.Clauses.{AtExit}
use Rattle.paper.specs.Entries.{update_entry, prune_entry, renumber_entry, find_name, find_folded, find_id, find_parent, find_ids}
use Rattle.paper.specs.Outcome.{found, for_records, for_names, for_identifiers, for_slots, Answers}
use Rattle.braidhurdle.specs.Numbers.{found_in, laid, laid_search, full_mode}
use Rattle.braidhurdle.specs.Lent.{stored, lent}
use Rattle.braidhurdle.specs.Name.{found_name, name_numbers}
use Rattle.braidhurdle_c.specs.contracts.braidhurdle_update as update
use Rattle.braidhurdle_c.proofs.braidhurdle_update.Reads as update_reads
use Rattle.braidhurdle.proofs.braidhurdle_update.Reads as library_update_reads
use Rattle.braidhurdle_c.specs.contracts.braidhurdle_prune as prune
use Rattle.braidhurdle_c.proofs.braidhurdle_prune.Reads as prune_reads
use Rattle.braidhurdle_c.specs.contracts.braidhurdle_renumber as renumber
use Rattle.braidhurdle_c.proofs.braidhurdle_renumber.Reads as renumber_reads
use Rattle.braidhurdle_c.specs.contracts.braidhurdle_find_name as by_name
use Rattle.braidhurdle_c.proofs.braidhurdle_find_name.Reads as by_name_reads
use Rattle.braidhurdle_c.specs.contracts.braidhurdle_find_folded as by_folded
use Rattle.braidhurdle_c.proofs.braidhurdle_find_folded.Reads as by_folded_reads
use Rattle.braidhurdle_c.specs.contracts.braidhurdle_find_id as by_id
use Rattle.braidhurdle_c.proofs.braidhurdle_find_id.Reads as by_id_reads
use Rattle.braidhurdle_c.specs.contracts.braidhurdle_find_parent as by_parent
use Rattle.braidhurdle_c.proofs.braidhurdle_find_parent.Reads as by_parent_reads
use Rattle.braidhurdle_c.specs.contracts.braidhurdle_find_ids as by_ids
use Rattle.braidhurdle_c.proofs.braidhurdle_find_ids.Reads as by_ids_reads
use Rattle.braidhurdle_c.specs.contracts.braidhurdle_found_name as of_slot
use Rattle.braidhurdle_c.proofs.braidhurdle_found_name.Reads as of_slot_reads

-- What a caller learns of the arguments `a`, the result r and the same arguments after the call, `s`, is
-- what the paper says of the first, the second, and so on

module _ (κs : Lfts 3) (a : ArgsD update.signature κs) (r : ResD update.signature κs) (s : AtExit update.ended κs) where
  pub update_says : update_reads.Learnt κs a r s
      ≡ Answers laid
      (update_entry (stored a.0.now a.1.0.now a.1.1.1.0)
      (lent a.1.1.0.now a.1.1.1.1.0 a.1.1.1.1.1.0.now a.1.1.1.1.1.1.0.now
      a.1.1.1.1.1.1.1.0.now a.1.1.1.1.1.1.1.1.0.now a.1.1.1.1.1.1.1.1.1.0.now
      (length a.1.1.1.1.1.1.1.1.1.1.0.now) (length a.1.1.1.1.1.1.1.1.1.1.1.0.now)))
      (for_records a.1.1.1.1.1.1.1.1.1.1.0.now ∷ for_names a.1.1.1.1.1.1.1.1.1.1.1.0.now ∷ []) r
      (s.1.1.1.1.1.1.1.1.1.1.0.now ∷ s.1.1.1.1.1.1.1.1.1.1.1.0.now ∷ [])
  update_says = refl

  -- it is what a caller of the library's function learns, of which demand 3 is a theorem (crate update_lasts)
  pub update_is_one : update_reads.Learnt κs a r s ≡ library_update_reads.Learnt κs a r s
  update_is_one = refl

module _ (κs : Lfts 4) (a : ArgsD prune.signature κs) (r : ResD prune.signature κs) (s : AtExit prune.ended κs) where
  pub prune_says : prune_reads.Learnt κs a r s
      ≡ Answers laid
      (prune_entry a.0.now a.1.0.now a.1.1.0.now (full_mode a.1.1.1.0)
      (length a.1.1.1.1.0.now) (length a.1.1.1.1.1.0.now))
      (for_records a.1.1.1.1.0.now ∷ for_names a.1.1.1.1.1.0.now ∷ []) r
      (s.1.1.1.1.0.now ∷ s.1.1.1.1.1.0.now ∷ [])
  prune_says = refl

module _ (κs : Lfts 5) (a : ArgsD renumber.signature κs) (r : ResD renumber.signature κs)
    (s : AtExit renumber.ended κs) where
  pub renumber_says : renumber_reads.Learnt κs a r s
      ≡ Answers laid
      (renumber_entry a.0.now a.1.0.now a.1.1.0.now a.1.1.1.0
      (length a.1.1.1.1.0.now) (length a.1.1.1.1.1.0.now) (length a.1.1.1.1.1.1.0.now))
      (for_records a.1.1.1.1.0.now ∷ for_names a.1.1.1.1.1.0.now ∷ for_identifiers a.1.1.1.1.1.1.0.now ∷ []) r
      (s.1.1.1.1.0.now ∷ s.1.1.1.1.1.0.now ∷ s.1.1.1.1.1.1.0.now ∷ [])
  renumber_says = refl

module _ (κs : Lfts 2) (a : ArgsD by_name.signature κs) (r : ResD by_name.signature κs) (s : AtExit by_name.ended κs) where
  pub find_name_says : by_name_reads.Learnt κs a r s
      ≡ (r ≡ found_in (found (find_name a.0.now a.1.0.now a.1.1.0.now)))
  find_name_says = refl

module _ (κs : Lfts 2) (a : ArgsD by_folded.signature κs) (r : ResD by_folded.signature κs)
    (s : AtExit by_folded.ended κs) where
  pub find_folded_says : by_folded_reads.Learnt κs a r s
      ≡ (r ≡ found_in (found (find_folded a.0.now a.1.0.now a.1.1.0.now)))
  find_folded_says = refl

module _ (κs : Lfts 1) (a : ArgsD by_id.signature κs) (r : ResD by_id.signature κs) (s : AtExit by_id.ended κs) where
  pub find_id_says : by_id_reads.Learnt κs a r s
      ≡ (r ≡ found_in (found (find_id a.0.now a.1.0.now a.1.1.0)))
  find_id_says = refl

module _ (κs : Lfts 1) (a : ArgsD by_parent.signature κs) (r : ResD by_parent.signature κs)
    (s : AtExit by_parent.ended κs) where
  pub find_parent_says : by_parent_reads.Learnt κs a r s
      ≡ (r ≡ found_in (found (find_parent a.0.now a.1.0.now a.1.1.0)))
  find_parent_says = refl

module _ (κs : Lfts 3) (a : ArgsD by_ids.signature κs) (r : ResD by_ids.signature κs) (s : AtExit by_ids.ended κs) where
  pub find_ids_says : by_ids_reads.Learnt κs a r s
      ≡ Answers laid_search
      (find_ids a.0.now a.1.0.now a.1.1.0.now (length a.1.1.1.0.now))
      (for_slots a.1.1.1.0.now ∷ []) r
      (s.1.1.1.0.now ∷ [])
  find_ids_says = refl

module _ (κs : Lfts 2) (a : ArgsD of_slot.signature κs) (r : ResD of_slot.signature κs)
    (s : AtExit of_slot.ended κs) where
  pub found_name_says : of_slot_reads.Learnt κs a r s
      ≡ (r ≡ name_numbers (found_name a.0.now a.1.0.now a.1.1.0))
  found_name_says = refl
