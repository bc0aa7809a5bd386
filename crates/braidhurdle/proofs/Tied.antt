-- The C boundary by place. Contracts and code follow names: two parameters of one type, or two fields of a result, could
-- change places and all would still be proved. Here each C function is held to the order of include/braidhurdle.h. What is
-- exported is held to it in crates/braidhurdle_c/proofs/Tied.antt.
use mathlib.Core.Path.{◌≡◌, refl}
use mathlib.Core.List.{List, [], ◌∷◌, ◌++◌}
use Prim.Native.Nat.{ℕ}
use lib.ListN.{length}
use mir.Syntax.{w32, ty_int}
use mir.Mem.{Cell}
use mir.Val.{vint}
use prog.Memory.{enc}
use borrow.Fn.World.{ArgsD, ResD}
use contract.Lifetimes.{Lfts}
use denote.Triple.Clauses.{AtExit}
use Rattle.paper.specs.Entries.{update_entry, prune_entry, renumber_entry, find_name, find_folded, find_id, find_parent, find_ids}
use Rattle.paper.specs.Outcome as outcome
use Rattle.paper.specs.Outcome.{found, for_records, for_names, for_identifiers, for_slots, Answers}
use Rattle.braidhurdle.specs.declared.NameNumbers.{NameNumbers}
use Rattle.braidhurdle.specs.Numbers.{found_in, changed_in, laid, searched_in, laid_search, full_mode}
use Rattle.braidhurdle.specs.Lent.{stored, lent}
use Rattle.braidhurdle.specs.Name.{found_name, name_numbers}
use Rattle.braidhurdle.proofs.ChangedNumbers.TheLaws as changed_laws
use Rattle.braidhurdle.proofs.FoundNumbers.TheLaws as found_laws
use Rattle.braidhurdle.proofs.SearchedNumbers.TheLaws as searched_laws
use Rattle.braidhurdle.proofs.NameNumbers.TheLaws as name_laws
use Rattle.braidhurdle.specs.contracts.braidhurdle_update as update
use Rattle.braidhurdle.proofs.braidhurdle_update.Reads as update_reads
use Rattle.braidhurdle.specs.contracts.braidhurdle_prune as prune
use Rattle.braidhurdle.proofs.braidhurdle_prune.Reads as prune_reads
use Rattle.braidhurdle.specs.contracts.braidhurdle_renumber as renumber
use Rattle.braidhurdle.proofs.braidhurdle_renumber.Reads as renumber_reads
use Rattle.braidhurdle.specs.contracts.braidhurdle_find_name as by_name
use Rattle.braidhurdle.proofs.braidhurdle_find_name.Reads as by_name_reads
use Rattle.braidhurdle.specs.contracts.braidhurdle_find_folded as by_folded
use Rattle.braidhurdle.proofs.braidhurdle_find_folded.Reads as by_folded_reads
use Rattle.braidhurdle.specs.contracts.braidhurdle_find_id as by_id
use Rattle.braidhurdle.proofs.braidhurdle_find_id.Reads as by_id_reads
use Rattle.braidhurdle.specs.contracts.braidhurdle_find_parent as by_parent
use Rattle.braidhurdle.proofs.braidhurdle_find_parent.Reads as by_parent_reads
use Rattle.braidhurdle.specs.contracts.braidhurdle_find_ids as by_ids
use Rattle.braidhurdle.proofs.braidhurdle_find_ids.Reads as by_ids_reads
use Rattle.braidhurdle.specs.contracts.braidhurdle_found_name as of_slot
use Rattle.braidhurdle.proofs.braidhurdle_found_name.Reads as of_slot_reads

-- ---- results: the bytes of each struct in memory are its words in the header's order

-- A number of 32 bits in memory.
abbrev word : ℕ → List Cell
word n = enc (ty_int w32) (vint w32 n)

pub changed_laid : (c : outcome.Changed)
    → enc changed_laws.mir (changed_laws.lowered (changed_in c))
    ≡ word c.refusal ++ word c.list ++ word c.place ++ word c.records ++ word c.names ++ word c.last_id ++ word c.visited
changed_laid c = refl

pub found_laid : (f : outcome.Found)
    → enc found_laws.mir (found_laws.lowered (found_in f))
    ≡ word f.refusal ++ word f.list ++ word f.place ++ word f.found ++ word f.id ++ word f.slot
found_laid f = refl

pub searched_laid : (s : outcome.Searched)
    → enc searched_laws.mir (searched_laws.lowered (searched_in s))
    ≡ word s.refusal ++ word s.list ++ word s.place ++ word s.found
searched_laid s = refl

pub name_laid : (n : NameNumbers)
    → enc name_laws.mir (name_laws.lowered n)
    ≡ word n.refusal ++ word n.list ++ word n.place ++ word n.found ++ word n.offset ++ word n.length
name_laid n = refl

-- ---- arguments: what a caller learns of the arguments `a`, the result r and the same arguments after the call, `s`, is
-- what the paper says of the first, the second, and so on

module _ (κs : Lfts 3) (a : ArgsD update.signature κs) (r : ResD update.signature κs) (s : AtExit update.ended κs) where
  pub update_says : update_reads.Learnt κs a r s
      ≡ Answers laid
      (update_entry (stored a.0.now a.1.0.now a.1.1.1.0)
      (lent a.1.1.0.now a.1.1.1.1.0 a.1.1.1.1.1.0.now a.1.1.1.1.1.1.0.now
      a.1.1.1.1.1.1.1.0.now a.1.1.1.1.1.1.1.1.0.now a.1.1.1.1.1.1.1.1.1.0.now
      (length a.1.1.1.1.1.1.1.1.1.1.0.now) (length a.1.1.1.1.1.1.1.1.1.1.1.0.now)))
      (for_records a.1.1.1.1.1.1.1.1.1.1.0.now ∷ for_names a.1.1.1.1.1.1.1.1.1.1.1.0.now ∷ []) r
      (s.1.1.1.1.1.1.1.1.1.1.0.now ∷ s.1.1.1.1.1.1.1.1.1.1.1.0.now ∷ [])
  update_says = refl

module _ (κs : Lfts 4) (a : ArgsD prune.signature κs) (r : ResD prune.signature κs) (s : AtExit prune.ended κs) where
  pub prune_says : prune_reads.Learnt κs a r s
      ≡ Answers laid
      (prune_entry a.0.now a.1.0.now a.1.1.0.now (full_mode a.1.1.1.0)
      (length a.1.1.1.1.0.now) (length a.1.1.1.1.1.0.now))
      (for_records a.1.1.1.1.0.now ∷ for_names a.1.1.1.1.1.0.now ∷ []) r
      (s.1.1.1.1.0.now ∷ s.1.1.1.1.1.0.now ∷ [])
  prune_says = refl

module _ (κs : Lfts 5) (a : ArgsD renumber.signature κs) (r : ResD renumber.signature κs)
    (s : AtExit renumber.ended κs) where
  pub renumber_says : renumber_reads.Learnt κs a r s
      ≡ Answers laid
      (renumber_entry a.0.now a.1.0.now a.1.1.0.now a.1.1.1.0
      (length a.1.1.1.1.0.now) (length a.1.1.1.1.1.0.now) (length a.1.1.1.1.1.1.0.now))
      (for_records a.1.1.1.1.0.now ∷ for_names a.1.1.1.1.1.0.now ∷ for_identifiers a.1.1.1.1.1.1.0.now ∷ []) r
      (s.1.1.1.1.0.now ∷ s.1.1.1.1.1.0.now ∷ s.1.1.1.1.1.1.0.now ∷ [])
  renumber_says = refl

module _ (κs : Lfts 2) (a : ArgsD by_name.signature κs) (r : ResD by_name.signature κs) (s : AtExit by_name.ended κs) where
  pub find_name_says : by_name_reads.Learnt κs a r s
      ≡ (r ≡ found_in (found (find_name a.0.now a.1.0.now a.1.1.0.now)))
  find_name_says = refl

module _ (κs : Lfts 2) (a : ArgsD by_folded.signature κs) (r : ResD by_folded.signature κs)
    (s : AtExit by_folded.ended κs) where
  pub find_folded_says : by_folded_reads.Learnt κs a r s
      ≡ (r ≡ found_in (found (find_folded a.0.now a.1.0.now a.1.1.0.now)))
  find_folded_says = refl

module _ (κs : Lfts 1) (a : ArgsD by_id.signature κs) (r : ResD by_id.signature κs) (s : AtExit by_id.ended κs) where
  pub find_id_says : by_id_reads.Learnt κs a r s
      ≡ (r ≡ found_in (found (find_id a.0.now a.1.0.now a.1.1.0)))
  find_id_says = refl

module _ (κs : Lfts 1) (a : ArgsD by_parent.signature κs) (r : ResD by_parent.signature κs)
    (s : AtExit by_parent.ended κs) where
  pub find_parent_says : by_parent_reads.Learnt κs a r s
      ≡ (r ≡ found_in (found (find_parent a.0.now a.1.0.now a.1.1.0)))
  find_parent_says = refl

module _ (κs : Lfts 3) (a : ArgsD by_ids.signature κs) (r : ResD by_ids.signature κs) (s : AtExit by_ids.ended κs) where
  pub find_ids_says : by_ids_reads.Learnt κs a r s
      ≡ Answers laid_search
      (find_ids a.0.now a.1.0.now a.1.1.0.now (length a.1.1.1.0.now))
      (for_slots a.1.1.1.0.now ∷ []) r
      (s.1.1.1.0.now ∷ [])
  find_ids_says = refl

module _ (κs : Lfts 2) (a : ArgsD of_slot.signature κs) (r : ResD of_slot.signature κs)
    (s : AtExit of_slot.ended κs) where
  pub found_name_says : of_slot_reads.Learnt κs a r s
      ≡ (r ≡ name_numbers (found_name a.0.now a.1.0.now a.1.1.0))
  found_name_says = refl
