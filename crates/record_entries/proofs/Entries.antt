-- Refusals 3 and 4 over a list of entries, once for all lists: whatever their width and their rules are. `search listing`.
use mathlib.Core.Path.{◌≡◌, sym, ap, ◌∙◌}
use mathlib.Core.List.{List}
use mathlib.Core.Bool.{Bool, true, not, ◌||◌}
use Prim.Native.Nat.{ℕ, ◌+◌, ◌-◌, ◌*◌, ◌/◌, ◌<◌, ◌≤◌}
use native.Mathlib.Nat.{add-sub_cancel_left}
use native.Mathlib.Omega.{arith}
use borrow.Author.Tests.{leb-true, eq-eqb, ne_eqb}
use lib.Dec.{eqb, leb}
use lib.ListN.{length, take, drop}
use Rattle.paper.specs.Answer.{lowest}
use Rattle.paper.specs.Lists.{entry_at, path_in, path_of, edit_at, edit_in, edit_path, new_name, entries_ok}
use Rattle.laws.proofs.RoundTrip.{both}
use Rattle.record.specs.declared.Refusal.{Refusal}
use Rattle.record.specs.Answers.{Check}
use Rattle.std.specs.Prelude.{Ok, Err}
use Rattle.record.specs.Says.{tested, checked}
use Rattle.record.proofs.Testing.{tested_fault, chain_goes, chain_stops}
use Rattle.record_entries.specs.declared.What.TheVariants.{Rename, Relax, Widen}
use Rattle.record_entries.specs.declared.PathList.{PathList}
use Rattle.record_entries.specs.declared.PathList.TheVariants.{Deletions, Additions, Edits}
use Rattle.record_entries.specs.Rule.{width_of, what_of}

module _ (list width : ℕ) (rule : List ℕ → ℕ → Bool) (inside : ℕ → List ℕ → ℕ → Bool) (s pool : List ℕ) (number w n : ℕ) (en : number ≡ list) (ew : w ≡ width) (e : n ≡ length s / w) where
  -- 3, then 4
  module _ (a : Check) (ea : a ≡ tested 3 number (lowest (rule s) 0 n)) where
    pub rule_stops : (x : Refusal) → a ≡ Err x → Err x ≡ checked (entries_ok list width rule inside s pool)
    unfolding checked entries_ok
    rule_stops x d = rw (← en, ← ew, ← e) (sym (ap checked (chain_stops 3 number (lowest (rule s) 0 n) a _ x ea d)))

    pub rule_goes : (b : Check) → a ≡ (Ok tt) → b ≡ tested 4 number (lowest (inside (length pool) s) 0 n) → b ≡ checked (entries_ok list width rule inside s pool)
    unfolding entries_ok
    rule_goes b d eb =
        rw (← en, ← ew, ← e) (eb ∙ tested_fault 4 number (lowest (inside (length pool) s) 0 n) ∙ sym (ap checked (chain_goes 3 number (lowest (rule s) 0 n) a _ ea d)))

-- Each of the n entries of a list is whole, and a list within its limit has at most 64.
pub entry_whole : (list : PathList) (n k length : ℕ) → n * width_of list ≤ length → k < n → k * width_of list + width_of list ≤ length
entry_whole Deletions n k length h l = omega arith
entry_whole Additions n k length h l = omega arith
entry_whole Edits n k length h l = omega arith

-- The width of an entry, by its list.
module _ (list : PathList) (k n : ℕ) (h : k * width_of list + width_of list ≤ n) where
  pub deletion_whole : list ≡ Deletions → k * 8 + 8 ≤ n
  deletion_whole e = rw e at h

  pub addition_whole : list ≡ Additions → k * 8 + 8 ≤ n
  addition_whole e = rw e at h

  pub edit_whole : list ≡ Edits → k * 16 + 16 ≤ n
  edit_whole e = rw e at h

pub ruleset width_told = (deletion_whole, addition_whole, edit_whole)

module _ (n width length : ℕ) where
  pub entries_whole : (list : PathList) → width ≡ width_of list → n ≡ length / width → n * width_of list ≤ length
  entries_whole Deletions ew e = let d : n ≡ length / 8 = rw ew at e in omega arith
  entries_whole Additions ew e = let d : n ≡ length / 8 = rw ew at e in omega arith
  entries_whole Edits ew e = let d : n ≡ length / 16 = rw ew at e in omega arith

  pub entries_few : (list : PathList) → width ≡ width_of list → n ≡ length / width → length ≤ 64 * width_of list → n ≤ 64
  entries_few Deletions ew e h = let d : n ≡ length / 8 = rw ew at e in omega arith
  entries_few Additions ew e h = let d : n ≡ length / 8 = rw ew at e in omega arith
  entries_few Edits ew e h = let d : n ≡ length / 16 = rw ew at e in omega arith

pub ruleset listing = (rule_stops, rule_goes, entry_whole, entries_whole, entries_few)

-- ---- a path is a part of the request pool

module _ (s : List ℕ) (k from len : ℕ) (ef : from ≡ (entry_at s k).path_at) (el : len ≡ (entry_at s k).path_len) where
  pub path_within : (n : ℕ) → path_in n s k ≡ true → from + len ≤ n
  unfolding path_in
  path_within n h = omega (arith, leb-true)

  pub path_is : (pool : List ℕ) → take (from + len - from) (drop from pool) ≡ path_of pool s k
  unfolding path_of
  path_is pool = rw (add-sub_cancel_left from len, ef, el)

pub ruleset pathing = (path_within, path_is)

-- ---- so are the path of an edit, and the new name of one that renames

pub edit_ends : (n : ℕ) (s : List ℕ) (k : ℕ) → edit_in n s k ≡ true → ((edit_at s k).path_at + (edit_at s k).path_len ≤ n) × ((edit_at s k).what ≡ 1 → (edit_at s k).name_at + (edit_at s k).name_len ≤ n)
unfolding edit_in
edit_ends n s k h =
    let path = (edit_at s k).path_at + (edit_at s k).path_len in
    let name = (edit_at s k).name_at + (edit_at s k).name_len in
    let b = both (leb path n) (not (eqb (edit_at s k).what 1) || leb name n) h in
    (leb-true path n b.0, λ w. leb-true name n (rw (eq-eqb (edit_at s k).what 1 w) at b.1))

module _ (s : List ℕ) (k from len : ℕ) where
  module _ (ef : from ≡ (edit_at s k).path_at) (el : len ≡ (edit_at s k).path_len) where
    pub edit_path_within : (n : ℕ) → edit_in n s k ≡ true → from + len ≤ n
    edit_path_within n h = let b = (edit_ends n s k h).0 in omega arith

    pub edit_path_is : (pool : List ℕ) → take (from + len - from) (drop from pool) ≡ edit_path pool s k
    unfolding edit_path
    edit_path_is pool = rw (add-sub_cancel_left from len, ef, el)

  module _ (ef : from ≡ (edit_at s k).name_at) (el : len ≡ (edit_at s k).name_len) where
    pub new_name_within : (n : ℕ) → (edit_at s k).what ≡ 1 → edit_in n s k ≡ true → from + len ≤ n
    new_name_within n w h = let b = (edit_ends n s k h).1 w in omega arith

    pub new_name_is : (pool : List ℕ) → take (from + len - from) (drop from pool) ≡ new_name pool s k
    unfolding new_name
    new_name_is pool = rw (add-sub_cancel_left from len, ef, el)

pub ruleset editing = (edit_path_within, edit_path_is, new_name_within, new_name_is)

-- ---- what an edit does, by its byte

module _ (byte : ℕ) where
  pub what_renames : byte ≡ 1 → Rename ≡ what_of byte
  unfolding what_of
  what_renames e = rw e

  pub what_relaxes : byte ≡ 2 → Relax ≡ what_of byte
  unfolding what_of
  what_relaxes e = rw e

  pub what_widens : (byte ≡ 1 → ⊥) → (byte ≡ 2 → ⊥) → Widen ≡ what_of byte
  unfolding what_of
  what_widens a b = rw (ne_eqb byte 1 a, ne_eqb byte 2 b)

pub ruleset telling = (what_renames, what_relaxes, what_widens)
