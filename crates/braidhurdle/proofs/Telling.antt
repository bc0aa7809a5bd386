-- The numbers that the code lays out are the paper's: a found slot is below 1,024, so its 32 bits are the slot.
use Prim.Native.Nat.{ℕ, ◌%◌, ◌<◌}
use mathlib.Core.Path.{◌≡◌, refl, ap, ◌∙◌}
use mathlib.Core.List.{List}
use mathlib.Core.Option.{Option, none, some}
use native.Mathlib.Omega.{arith}
use Rattle.paper.specs.Answer.{Answer, ok, refused}
use Rattle.paper.specs.Rows.{Row}
use Rattle.paper.specs.Entries.{Result, find_name, find_folded, find_id, find_parent}
use Rattle.paper.specs.Outcome.{found, changed, searched, Buffer, Answers}
use Rattle.laws.proofs.Fitting.{sized_slots}
use Rattle.record.specs.Answers.{Sought, Changed}
use Rattle.record.specs.Says.{found_row, looked, changes}
use Rattle.index.specs.Finds.{FoundIn, by_name, by_folded, by_id, by_parent}
use Rattle.index.proofs.Standing.{row_here}
use Rattle.index_many.specs.Answers.{Searched}
use Rattle.index_many.specs.Many.{searches}
use Rattle.braidhurdle.specs.declared.ChangedNumbers.{ChangedNumbers}
use Rattle.braidhurdle.specs.declared.FoundNumbers.{FoundNumbers}
use Rattle.braidhurdle.specs.declared.SearchedNumbers.{SearchedNumbers}
use Rattle.braidhurdle.specs.Numbers.{found_in, sought_numbers, changed_in, laid, changed_numbers, searched_numbers, laid_search}

-- A row that a look-up finds stands in the first 1,024 slots.
found_small : (s pool : List ℕ) (r : Row) → FoundIn s pool r → r.slot < 1024
found_small s pool r f = let h = row_here s pool r f in let a = h.there in let b = (sized_slots s pool h.limits).0 in omega arith

-- Numbers of a look-up whose row, if there is one, stands in the first 1,024 slots.
told : (a : Answer (Option Row)) → ((r : Row) → a ≡ ok (some r) → r.slot < 1024) → sought_numbers (looked a) ≡ found_in (found a)
unfolding looked found_row found
told (ok none) f = refl
told (ok (some r)) f = let l = f r refl in let e : r.slot % 4294967296 ≡ r.slot = omega arith in rw e
told (refused n l p) f = refl

module _ (s pool : List ℕ) where
  name_told : (x : List ℕ) → sought_numbers (looked (find_name s pool x)) ≡ found_in (found (find_name s pool x))
  name_told x = told (find_name s pool x) (λ r e. found_small s pool r (by_name x e))

  folded_told : (x : List ℕ) → sought_numbers (looked (find_folded s pool x)) ≡ found_in (found (find_folded s pool x))
  folded_told x = told (find_folded s pool x) (λ r e. found_small s pool r (by_folded x e))

  id_told : (i : ℕ) → sought_numbers (looked (find_id s pool i)) ≡ found_in (found (find_id s pool i))
  id_told i = told (find_id s pool i) (λ r e. found_small s pool r (by_id i e))

  parent_told : (i : ℕ) → sought_numbers (looked (find_parent s pool i)) ≡ found_in (found (find_parent s pool i))
  parent_told i = told (find_parent s pool i) (λ r e. found_small s pool r (by_parent i e))

  module _ (w : Sought) (r : FoundNumbers) (e : r ≡ sought_numbers w) where
    pub tells_name : (x : List ℕ) → w ≡ looked (find_name s pool x) → r ≡ found_in (found (find_name s pool x))
    tells_name x h = e ∙ ap sought_numbers h ∙ name_told x

    pub tells_folded : (x : List ℕ) → w ≡ looked (find_folded s pool x) → r ≡ found_in (found (find_folded s pool x))
    tells_folded x h = e ∙ ap sought_numbers h ∙ folded_told x

    pub tells_id : (i : ℕ) → w ≡ looked (find_id s pool i) → r ≡ found_in (found (find_id s pool i))
    tells_id i h = e ∙ ap sought_numbers h ∙ id_told i

    pub tells_parent : (i : ℕ) → w ≡ looked (find_parent s pool i) → r ≡ found_in (found (find_parent s pool i))
    tells_parent i h = e ∙ ap sought_numbers h ∙ parent_told i

-- ---- update, pruning, renumbering

changed_told : (a : Answer Result) → changed_numbers (changes a) ≡ changed_in (changed a)
unfolding changes changed
changed_told (ok r) = refl
changed_told (refused n l p) = refl

-- ---- a search for many ids

searched_told : (a : Answer (List (Option Row))) → searched_numbers (searches a) ≡ laid_search a
unfolding searches searched
searched_told (ok rows) = refl
searched_told (refused n l p) = refl

-- ---- the numbers are laid out, and the buffers are the entry's

module _ {R S N : Type 0} (says : Answer R → S) (lay : S → N) (lays : Answer R → N) (same : (a : Answer R) → lay (says a) ≡ lays a) where
  laid_out : (a : Answer R) (buffers : List (Buffer R)) (c : S) (r : N) (news : List (List ℕ))
      → Answers says a buffers c news → r ≡ lay c → Answers lays a buffers r news
  laid_out a buffers c r news h e = record { told = e ∙ ap lay h.told ∙ same a; left = h.left }

pub left_told : (a : Answer Result) (buffers : List (Buffer Result)) (c : Changed) (r : ChangedNumbers) (news : List (List ℕ))
    → Answers changes a buffers c news → r ≡ changed_numbers c → Answers laid a buffers r news
left_told = laid_out changes changed_numbers laid changed_told

pub search_told : (a : Answer (List (Option Row))) (buffers : List (Buffer (List (Option Row)))) (c : Searched) (r : SearchedNumbers) (news : List (List ℕ))
    → Answers searches a buffers c news → r ≡ searched_numbers c → Answers laid_search a buffers r news
search_told = laid_out searches searched_numbers laid_search searched_told

pub ruleset telling = (tells_name, tells_folded, tells_id, tells_parent)
