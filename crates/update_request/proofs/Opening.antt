-- Each test in turn: one that refuses is the whole answer, one that passes leaves the rest.
use Prim.Native.Nat.{ℕ, ◌≤◌}
use mathlib.Core.Path.{◌≡◌, refl, sym, ap, ◌∙◌}
use mathlib.Core.Bool.{Bool, true, false, not}
use native.Mathlib.Omega.{arith}
use lib.ListN.{length}
use Rattle.paper.specs.Answer.{Answer, ok, refused, ◌>>=◌}
use Rattle.paper.specs.Forest.{Forest}
use Rattle.paper.specs.Field.{Field}
use Rattle.paper.specs.Lists.{ok_deletion, ok_addition, path_in, ok_edit, edit_in, entries_ok}
use Rattle.paper.specs.Decode.{decode}
use Rattle.paper.specs.Limits.{room}
use Rattle.paper.specs.Promotions.{known_version}
use Rattle.laws.proofs.Basics.{bind_is, bind_not}
use Rattle.record.specs.Answers.{Check}
use Rattle.std.specs.Prelude.{Ok, Err}
use Rattle.record.specs.declared.Refusal.{Refusal}
use Rattle.record.specs.Says.{refusal_of, checked}
use Rattle.record.specs.Trees.{Trees, Lists}
use Rattle.record.proofs.Testing.{checked_refused, checked_ok}
use Rattle.record_limits.specs.Update.{SizedUpdate}
use Rattle.record_limits.proofs.Within.{base_most, added_most, deletions_most, additions_most, edits_most}
use Rattle.tree.specs.Says.{decoded}
use Rattle.tree.specs.Answers.{Shaped}
use Rattle.tree.proofs.Deciding.{decode_refused, decode_ok}
use Rattle.update_request.specs.Answers.{Opened}
use Rattle.update_request.specs.Opened.{Forests, both_trees, trees_read, all_lists, listed, readable, opening, opened, Opens}

-- ---- what an answer of the code says of the paper's

pub open_refused : (x : Answer Forests) (w : Opened) (f : Refusal) → w ≡ opened x → w ≡ Err f → x ≡ refused f.number f.list f.place
unfolding opened
open_refused (ok t) w f e q = cc
open_refused (refused n l p) w f e q = let z : f ≡ refusal_of n l p = cc in rw z

-- ---- the lists

module _ (l : Trees) (lists : Lists) where
  abbrev deletions_ok : Answer (Unit {0})
  deletions_ok = entries_ok 2 8 ok_deletion path_in lists.deletions l.request_pool

  abbrev additions_ok : Answer (Unit {0})
  additions_ok = entries_ok 3 8 ok_addition path_in lists.additions l.request_pool

  abbrev edits_ok : Answer (Unit {0})
  edits_ok = entries_ok 6 16 ok_edit edit_in l.edits l.request_pool

  module _ (u : Check) (eu : u ≡ checked deletions_ok) where
    pub list_stops : (f : Refusal) → u ≡ Err f → Err f ≡ listed l lists
    unfolding listed ◌>>=◌ checked
    list_stops f q = rw (checked_refused deletions_ok u f eu q)

    module _ (q : u ≡ (Ok tt)) (v : Check) (ev : v ≡ checked additions_ok) where
      pub next_stops : (f : Refusal) → v ≡ Err f → Err f ≡ listed l lists
      unfolding listed ◌>>=◌ checked
      next_stops f h = rw (checked_ok deletions_ok u eu q, checked_refused additions_ok v f ev h)

      pub list_goes : (w : Check) → v ≡ (Ok tt) → w ≡ checked edits_ok → w ≡ listed l lists
      unfolding listed ◌>>=◌
      list_goes w h e = rw (checked_ok deletions_ok u eu q, checked_ok additions_ok v ev h) e

-- ---- the trees

module _ (l : Trees) (w : Shaped) (ew : w ≡ decoded (decode 0 l.records l.pool)) where
  pub base_stops : (f : Refusal) → w ≡ Err f → Err f ≡ opened (trees_read l)
  unfolding trees_read ◌>>=◌ opened
  base_stops f q = rw (decode_refused (decode 0 l.records l.pool) w f ew q)

  module _ (c : ℕ) (q : w ≡ Ok c) (v : Shaped) (ev : v ≡ decoded (decode 1 l.added_records l.request_pool)) where
    pub added_stops : (f : Refusal) → v ≡ Err f → Err f ≡ opened (trees_read l)
    unfolding trees_read ◌>>=◌ opened
    added_stops f h =
        decode_ok _ (decode 0 l.records l.pool) w c ew q λ t et ec. rw (et, decode_refused (decode 1 l.added_records l.request_pool) v f ev h)

    pub both_read : (c' : ℕ) → v ≡ Ok c' → Ok (c, c') ≡ opened (trees_read l)
    unfolding trees_read ◌>>=◌ opened
    both_read c' h =
        decode_ok _ (decode 0 l.records l.pool) w c ew q λ t et ec.
        decode_ok _ (decode 1 l.added_records l.request_pool) v c' ev h λ n en ec'. rw (et, en, ec, ec')

-- ---- the contents

trees_first : (l : Trees) (lists : Lists) → readable l lists ≡ (trees_read l >>= λ t. all_lists l lists >>= λ _. ok t)
unfolding readable trees_read ◌>>=◌
trees_first l lists =
    go (decode 0 l.records l.pool) (decode 1 l.added_records l.request_pool) (deletions_ok l lists) (additions_ok l lists) (edits_ok l lists)
  where
    go : (x y : Answer (Forest Field)) (u v w : Answer (Unit {0})) → (x >>= λ t. y >>= λ n. u >>= λ _. v >>= λ _. w >>= λ _. ok (both_trees t n)) ≡ ((x >>= λ t. y >>= λ n. ok (both_trees t n)) >>= λ t. (u >>= λ _. v >>= λ _. w) >>= λ _. ok t)
    go (ok t) (ok n) (ok a) (ok b) w = refl
    go (ok t) (ok n) (ok a) (refused i l k) w = refl
    go (ok t) (ok n) (refused i l k) v w = refl
    go (ok t) (refused i l k) u v w = refl
    go (refused i l k) y u v w = refl

open_ok : (P : Type 0) (x : Answer Forests) (w : Opened) (cs : ℕ × ℕ) → w ≡ opened x → w ≡ Ok cs → ((t : Forests) → x ≡ ok t → Ok cs ≡ opened (ok t) → P) → P
unfolding opened
open_ok P (ok t) w cs e q f = f t refl (sym q ∙ e)
open_ok P (refused n l p) w cs e q f = absurd (differ (sym e ∙ q))
  where
    differ : Err (refusal_of n l p) ≡ Ok cs → ⊥
    differ z = let y : ◌≡◌ {A = ℕ} 0 1 = cc in omega arith

module _ (l : Trees) (lists : Lists) (w : Opened) (ew : w ≡ opened (trees_read l)) where
  pub contents_stop : (f : Refusal) → w ≡ Err f → Err f ≡ opened (readable l lists)
  unfolding ◌>>=◌ opened
  contents_stop f q = rw (trees_first l lists, open_refused (trees_read l) w f ew q)

  module _ (cs : ℕ × ℕ) (q : w ≡ Ok cs) (v : Check) (ev : v ≡ listed l lists) where
    pub lists_stop : (f : Refusal) → v ≡ Err f → Err f ≡ opened (readable l lists)
    unfolding listed opened
    lists_stop f h =
        open_ok _ (trees_read l) w cs ew q λ t et eo.
        let z = checked_refused (all_lists l lists) v f ev h in
        sym (ap opened (trees_first l lists ∙ bind_is (trees_read l) _ t et ∙ bind_not (all_lists l lists) _ _ _ _ z))

    pub contents_fine : v ≡ (Ok tt) → Ok cs ≡ opened (readable l lists)
    unfolding listed
    contents_fine h =
        open_ok _ (trees_read l) w cs ew q λ t et eo.
        let z = checked_ok (all_lists l lists) v ev h in
        eo ∙ sym (ap opened (trees_first l lists ∙ bind_is (trees_read l) _ t et ∙ bind_is (all_lists l lists) _ tt z))

-- ---- 1, 2 and 25

module _ (l : Trees) (lists : Lists) (v rr rn : ℕ) (g : Bool) (eg : g ≡ room rr rn) where
  pub no_room : not g ≡ true → Opens l lists v rr rn (Err (refusal_of 1 0 0))
  unfolding opening ◌>>=◌ opened
  no_room q = record { says = λ last. rw (← eg, q) }

  module _ (q : not g ≡ false) (h : Bool) (sized : SizedUpdate l lists h) where
    pub no_limits : not h ≡ true → Opens l lists v rr rn (Err (refusal_of 2 0 0))
    unfolding opening ◌>>=◌ opened
    no_limits f = record { says = λ last. rw (← eg, q, ← (sized.says last v rr rn), f) }

    module _ (f : not h ≡ false) (k : Bool) (ek : k ≡ known_version v) where
      pub no_version : not k ≡ true → Opens l lists v rr rn (Err (refusal_of 25 0 0))
      unfolding opening ◌>>=◌ opened
      no_version u = record { says = λ last. rw (← eg, q, ← (sized.says last v rr rn), f, ← ek, u) }

      pub opens_on : (w : Opened) → not k ≡ false → w ≡ opened (readable l lists) → Opens l lists v rr rn w
      unfolding opening ◌>>=◌
      opens_on w u e = record { says = λ last. rw (← eg, q, ← (sized.says last v rr rn), f, ← ek, u) e }

-- what passed 2 is short enough for what follows
pub most : (l : Trees) (lists : Lists) (h : Bool) → SizedUpdate l lists h → not h ≡ false
    → (length l.records ≤ 24576) × (length l.added_records ≤ 24576) × (length lists.deletions ≤ 512) × (length lists.additions ≤ 512) × (length l.edits ≤ 1024)
most l lists h sized f =
    let e = sized.says 0 0 0 0 in
    (base_most _ _ h e f, added_most _ _ h e f, deletions_most _ _ h e f, additions_most _ _ h e f, edits_most _ _ h e f)

pub ruleset openings = (list_stops, next_stops, list_goes, base_stops, added_stops, both_read, contents_stop, lists_stop, contents_fine, no_room, no_limits, no_version, opens_on, most)
