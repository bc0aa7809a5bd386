-- A chosen id marks the one slot that has it, and an unknown one none. `search marking`.
use Prim.Native.Nat.{ℕ, zero, suc, ◌+◌, ◌/◌, ◌≤◌, ◌<◌}
use mathlib.Core.Path.{◌≡◌, refl, sym, ap, ◌∙◌}
use mathlib.Core.Bool.{Bool, true, false, ◌||◌, or-true, or-false}
use mathlib.Core.List.{List}
use native.Mathlib.Nat.{zero-add}
use native.Mathlib.Omega.{arith}
use lib.Dec.{eqb}
use lib.ListN.{length, get_or, set, length-set}
use lib.Seq.{get_or-set_same, get_or-set_other}
use borrow.Author.Tests.{eqb-true, eqb-false, eq-eqb, ne_eqb}
use Rattle.paper.specs.Answer.{any, place_of}
use Rattle.paper.specs.Bytes.{turned, from}
use Rattle.paper.specs.Lists.{id_at, id_list}
use Rattle.laws.proofs.Finding.{place_none, place_some, any_more, one_place, eqb_flip}
use Rattle.record.specs.Answers.{FoundSlot}
use Rattle.std.specs.Prelude.{Some, None}
use Rattle.record.specs.Says.{slot_before}
use Rattle.index_ids.specs.Chain.{Below, lowest_below}
use Rattle.index_ids.proofs.Chains.{found_below_room}
use Rattle.index_ids.specs.Ids.{id_in, is_id}
use Rattle.index_ids.proofs.Repeats.{slot_at, found_below}
use Rattle.prune_columns.specs.Projected.{marked}
use Rattle.prune_marks.specs.Marks.{mark_at, Unmarked, DistinctIds, Marks}

-- The first i chosen ids are marked.
pub record Marking (sel is : List ℕ) (m : ℕ) (marks : List ℕ) (i : ℕ) : Type 0 where
  pub room : length marks ≡ 1024
  pub so_far : (k : ℕ) → k < m → marked marks k ≡ any (eqb (id_in is k)) (from (id_at sel) 0 i)

pub marking_starts : (sel is : List ℕ) (m : ℕ) (marks : List ℕ) → m ≤ 1024 → Unmarked marks → Marking sel is m marks 0
unfolding from marked
marking_starts sel is m marks few h = record { room = h.room; so_far = λ k l. rw (h.none_marked k (omega arith)) }

pub marking_done : (sel is : List ℕ) (m : ℕ) (marks : List ℕ) (n i : ℕ) → Marking sel is m marks i → n ≡ length sel / 4 → n ≤ i → i ≤ n → Marks sel is m marks
unfolding id_list
marking_done sel is m marks n i h e l g = let q : i ≡ length sel / 4 = omega arith in record { exactly = λ k b. h.so_far k b ∙ ap (λ (z : ℕ). any (eqb (id_in is k)) (from (id_at sel) 0 z)) q }

module _ (sel is : List ℕ) (m : ℕ) (marks : List ℕ) (i : ℕ) (h : Marking sel is m marks i) (few : m ≤ 1024) (d : DistinctIds is m) (v : ℕ) (ev : id_at sel i ≡ turned v) (w : FoundSlot) (ew : w ≡ slot_before (lowest_below (is_id is (turned v)) 0 m)) where
  found : slot_at (lowest_below (is_id is (turned v)) 0 m) ≡ place_of (eqb (turned v)) 0 (from (id_in is) 0 m)
  found = found_below (eqb (turned v)) (id_in is) m

  -- one mark more
  by_place : (r : ℕ) → slot_at r ≡ place_of (eqb (turned v)) 0 (from (id_in is) 0 m) → (k : ℕ) → k < m → marked (mark_at (slot_before r) marks) k ≡ (marked marks k || eqb (id_in is k) (turned v))
  unfolding marked slot_before
  by_place zero q k l = rw (eqb_flip (id_in is k) (turned v), place_none (eqb (turned v)) (id_in is) 0 m (sym q) k (omega arith) (omega arith)) (sym (or-false (eqb (get_or marks k 0) 1)))
  by_place (suc j) q k l =
      let p = place_some (eqb (turned v)) (id_in is) 0 m j (sym q) in
      let w = h.room in
      let b = p.2 in
      let e : turned v ≡ id_in is j = eqb-true (turned v) (id_in is j) p.0 in
      go (eqb k j) refl e b
    where
      go : (b : Bool) → eqb k j ≡ b → turned v ≡ id_in is j → j < 0 + m → eqb (get_or (set marks j 1) k 0) 1 ≡ (eqb (get_or marks k 0) 1 || eqb (id_in is k) (turned v))
      go true z e b =
          let y : k ≡ j = eqb-true k j z in
          let w = h.room in
          rw (y, get_or-set_same marks j 1 0 (omega arith), eq-eqb (id_in is j) (turned v) (sym e)) (sym (or-true (eqb (get_or marks j 0) 1)))
      go false z e b =
          let y = eqb-false k j z in
          rw (get_or-set_other marks j k 1 0 y, ne_eqb (id_in is k) (turned v) (λ t. y (one_place (id_in is) m d.tested k j l (omega arith) (t ∙ e)))) (sym (or-false (eqb (get_or marks k 0) 1)))

  pub marking_goes : (marks' : List ℕ) → marks' ≡ mark_at w marks → Marking sel is m marks' (i + 1)
  marking_goes marks' e =
      record {
        room = ap length e ∙ kept w ∙ h.room;
        so_far = λ k l. ap (λ (z : List ℕ). marked z k) (e ∙ ap (λ (z : FoundSlot). mark_at z marks) ew) ∙ by_place (lowest_below (is_id is (turned v)) 0 m) found k l ∙ rw (any_more (eqb (id_in is k)) (id_at sel) 0 i, zero-add i, ev, h.so_far k l);
      }
    where
      kept : (w : FoundSlot) → length (mark_at w marks) ≡ length marks
      kept None = refl
      kept (Some s) = length-set marks s.0 1

  pub marking_fits : Below w
  marking_fits = found_below_room (is_id is (turned v)) m w ew few

pub ruleset marking = (marking_starts, marking_done, marking_goes, marking_fits)
