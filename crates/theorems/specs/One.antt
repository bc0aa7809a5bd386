-- What follows of the promise of an entry (paper's `Answers`), and which refusals are told.
use Rattle.std.specs.Prelude.{ℕ, ◌≤◌, ◌≡◌, Bool, List, map}
use Rattle.std.proofs.Math.Option.{Option}
use Rattle.paper.specs.Answer.{Answer, ok, refused}
use Rattle.paper.specs.Refusals.{last_refusal, last_list}
use Rattle.paper.specs.Rows.{Row}
use Rattle.paper.specs.Lent.{Stored, Lent}
use Rattle.paper.specs.Entries.{Result, update_entry, prune_entry, renumber_entry}
use Rattle.paper.specs.Entries.{find_name, find_id, find_parent, find_folded, find_ids}
use Rattle.paper.specs.Outcome.{Changed, changed, Found, found, Searched, searched, Buffer, Answers}

-- ---- answers

-- Each buffer is as it was.
abbrev pub Untouched : {R : Type 0} (buffers : List (Buffer R)) (news : List (List ℕ)) → Type 0
Untouched buffers news = news ≡ map (λ buffer. buffer.old) buffers

-- Of an outcome that keeps an entry's promise:
pub record NoByteChanges : Type 1 where
  -- Where the definition refuses, in whatever words it is told, no buffer changes;
  pub refused_by : {R A : Type 0} (says : Answer R → A) (number list place : ℕ) (buffers : List (Buffer R))
      → (said : A) (news : List (List ℕ)) → Answers says (refused number list place) buffers said news
      → Untouched buffers news
  -- and so where the number that is told is not 0.
  pub told : (answer : Answer Result) (buffers : List (Buffer Result)) (said : Changed) (news : List (List ℕ))
      → Answers changed answer buffers said news → (said.refusal ≡ 0 → ⊥) → Untouched buffers news
  -- The same of a search for many ids.
  pub told_searched : (answer : Answer (List (Option Row))) (buffers : List (Buffer (List (Option Row))))
      → (said : Searched) (news : List (List ℕ)) → Answers searched answer buffers said news
      → (said.refusal ≡ 0 → ⊥) → Untouched buffers news

-- A look-up hands back its numbers alone, whichever of the four it is: the answer is any of theirs.
abbrev pub PromisedFound : Answer (Option Row) → Found → Type 0
PromisedFound answer said = said ≡ found answer

-- ---- refusals

-- A refusal has a number from 1 to the last and a list from 0 to the last.
pub data Told {A : Type 0} : Answer A → Type 0 where
  accepted : {a : A} → Told (ok a)
  turned_down : {number list place : ℕ} → 1 ≤ number → number ≤ last_refusal → list ≤ last_list
      → Told (refused number list place)

pub record RefusalsTold : Type 0 where
  pub update : (stored : Stored) (lent : Lent) → Told (update_entry stored lent)
  pub prune : (records pool selected : List ℕ) (full : Bool) (room_records room_names : ℕ)
      → Told (prune_entry records pool selected full room_records room_names)
  pub renumber : (records pool identifiers : List ℕ) (start room_records room_names room_ids : ℕ)
      → Told (renumber_entry records pool identifiers start room_records room_names room_ids)
  pub name_look_up : (records pool name : List ℕ) → Told (find_name records pool name)
  pub id_look_up : (records pool : List ℕ) (id : ℕ) → Told (find_id records pool id)
  pub parent_look_up : (records pool : List ℕ) (id : ℕ) → Told (find_parent records pool id)
  pub folded_look_up : (records pool name : List ℕ) → Told (find_folded records pool name)
  pub ids_look_up : (records pool ids : List ℕ) (room_slots : ℕ) → Told (find_ids records pool ids room_slots)
