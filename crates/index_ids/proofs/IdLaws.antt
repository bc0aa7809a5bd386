-- Ids on their paths: equal bits are equal ids, so a path by the bits finds what the paper's ids ask for. `search ids`.
use mathlib.Core.Path.{◌≡◌, refl, sym, ap, ◌∙◌}
use mathlib.Core.Logic.{◌⊎◌, inl, inr}
use mathlib.Core.Bool.{Bool, true, false}
use mathlib.Core.List.{List}
use Prim.Native.Nat.{ℕ, zero, suc, ◌+◌, ◌-◌, ◌/◌, ◌%◌, ◌<◌, ◌≤◌}
use native.Mathlib.Omega.{arith}
use borrow.Author.Tests.{eqb-false, eq-eqb, ne_eqb}
use lib.Dec.{eqb}
use lib.ListN.{get_or}
use Rattle.paper.specs.Answer.{lowest}
use Rattle.paper.specs.Bytes.{turned}
use Rattle.laws.proofs.Words.{turned_twice}
use Rattle.record.specs.declared.Slot.{Slot}
use Rattle.std.specs.Prelude.{Ok, Err, Some, None}
use Rattle.record.specs.Says.{tested, refusal_of, slot_before}
use Rattle.record.proofs.Slots.{no_slot, the_slot}
use Rattle.record.proofs.Lowest.{look_starts, look_goes, look_stops, look_ends}
use Rattle.index_ids.specs.declared.Way.{Way}
use Rattle.index_ids.specs.declared.Way.TheVariants.{Met, Ended}
use Rattle.index_ids.specs.Chain.{lowest_below, Cleared}
use Rattle.index_ids.specs.Ids.{bucket_of, id_in, is_id, new_id, rule_7}
use Rattle.index_ids.specs.Table.{row, id_heads, Rooms, Within}
use Rattle.index_ids.specs.Path.{unasked, bit, Together, met, First, IdsChained, AtCell, EndsAt, slot_met, Followed, entered_at, IndexedIn}
use Rattle.index_ids.proofs.Chains.{eqb_cases, none_below, one_below}
use Rattle.index_ids.proofs.Repeats.{repeats}
use Rattle.index_ids.proofs.Tables.{within_same, within_both}
use Rattle.index_ids.proofs.Paths.{together_same, together_less, all_asked, met_head, met_linked, met_cell, begun, path_fresh}
use Rattle.index_ids.proofs.Entering.{entered_within, path_enters}

-- ---- one id

pub turned_same : (a b : ℕ) → a < 4294967296 → b < 4294967296 → turned a ≡ turned b → a ≡ b
turned_same a b la lb e = sym (turned_twice a la) ∙ ap turned e ∙ turned_twice b lb

pub same_is : (a b : ℕ) → a < 4294967296 → b < 4294967296 → eqb a b ≡ eqb (turned a) (turned b)
same_is a b la lb = go (eqb_cases a b)
  where
    go : (a ≡ b) ⊎ (a ≡ b → ⊥) → eqb a b ≡ eqb (turned a) (turned b)
    go (inl e) = eq-eqb a b e ∙ sym (eq-eqb (turned a) (turned b) (ap turned e))
    go (inr e) = ne_eqb a b e ∙ sym (ne_eqb (turned a) (turned b) (λ z. e (turned_same a b la lb z)))

pub bucket_is : (x : ℕ) → x < 4294967296 → x % 1024 ≡ bucket_of (turned x)
unfolding bucket_of
bucket_is x l = rw (turned_twice x l)

id_few : (is : List ℕ) (j : ℕ) → id_in is j < 4294967296
unfolding turned
id_few is j = omega arith

-- What holds on the way: which bits are asked, the cell that is read, and that no slot behind it has the id.
pub record Following (is : List ℕ) (t : List (List ℕ)) (k x line c bits left at : ℕ) : Type 0 where
  pub steps : ℕ
  pub counted : steps + left ≡ 22
  pub asked : bits ≡ unasked steps x
  pub place : at ≡ met t x steps
  pub fits : at ≤ k
  pub cell : AtCell t x steps line c
  pub low : line < 3
  pub small : c < 1024
  pub first : First is x steps (begun t x steps) k (met t x steps)
  pub behind : (i : ℕ) → i < begun t x steps → id_in is i ≡ x → ⊥

first_fits : (is : List ℕ) (x d from k w at : ℕ) → First is x d from k w → at ≡ w → at ≤ k
first_fits is x d from k zero at h e = omega arith
first_fits is x d from k (suc j) at h e = let z = h.below j refl in omega arith

module _ (is : List ℕ) (t : List (List ℕ)) (k id : ℕ) (h : IdsChained is t k) where
  pub way_starts : (line c bits left at : ℕ) → id < 4294967296 → line ≡ 0 → c ≡ bucket_of (turned id) → c < 1024 → bits ≡ id / 1024 → left ≡ 22 → at ≡ get_or (row t line) c 0
      → Following is t k (turned id) line c bits left at
  unfolding unasked begun
  way_starts line c bits left at l el ec lc eb en ea =
      let p : at ≡ met t (turned id) 0 = ea ∙ rw (el, ec) (sym (met_head t (turned id))) in
      record {
        steps = 0;
        counted = omega arith;
        asked = eb ∙ rw (turned_twice id l);
        place = p;
        fits = first_fits is (turned id) 0 0 k (met t (turned id) 0) at (h.head (turned id)) p;
        cell = record { head = λ z. (el, ec); link = λ e z. absurd (omega arith) };
        low = omega arith;
        small = lc;
        first = h.head (turned id);
        behind = λ i q. absurd (omega arith);
      }

module _ (is : List ℕ) (t : List (List ℕ)) (k id line c bits left at : ℕ) (w : Following is t k (turned id) line c bits left at) where
  -- a slot that has the id goes with it, so it is not behind
  ahead : (i : ℕ) → id_in is i ≡ turned id → (begun t (turned id) w.steps ≤ i → Together w.steps (turned id) (id_in is i) → ⊥) → ⊥
  ahead i e f =
      let a : i < begun t (turned id) w.steps → ⊥ = λ q. w.behind i q e in
      let b : begun t (turned id) w.steps ≤ i → ⊥ = λ q. f q (rw e (together_same w.steps (turned id))) in
      omega arith

  -- no slot below the one that is met has the id, and none has it where the path has ended
  none_here : (i : ℕ) → suc i < at → id_in is i ≡ turned id → ⊥
  none_here i l e = ahead i e (λ q. w.first.first i q (let z = w.place in omega arith))

  none_at_all : at ≡ 0 → (i : ℕ) → i < k → id_in is i ≡ turned id → ⊥
  none_at_all q i l e = ahead i e (λ p. w.first.none (sym w.place ∙ q) i p l)

  -- the slot that is met has not the id, so not all bits are asked
  module _ (j : ℕ) (ej : at ≡ suc j) (ne : turned id ≡ id_in is j → ⊥) where
    other : Together 22 (turned id) (id_in is j) → ⊥
    unfolding turned
    other q = ne (turned_same (turned id) (id_in is j) (omega arith) (id_few is j) (all_asked (turned id) (id_in is j) q))

    here : met t (turned id) w.steps ≡ suc j
    here = sym w.place ∙ ej

    bits_left : 0 < left
    bits_left = go left refl
      where
        go : (n : ℕ) → left ≡ n → 0 < left
        go (suc n) e = omega arith
        go zero e = absurd (let s = w.counted in other (together_less w.steps (turned id) (id_in is j) (w.first.goes j here) 22 (omega arith)))

    goes_on : (line' bits' left' at' : ℕ) → k ≤ 1024 → IdsChained is t k → line' ≡ 1 + bits % 2 → bits' ≡ bits / 2 → left' ≡ left - 1 → at' ≡ get_or (row t line') j 0
        → Following is t k (turned id) line' j bits' left' at'
    unfolding unasked begun
    goes_on line' bits' left' at' lk h el eb en ea =
        let b = bits_left in
        let s = w.counted in
        let g = w.first.below j here in
        let u : bits ≡ unasked w.steps (turned id) = w.asked in
        let a : line' ≡ suc (bit w.steps (turned id)) = omega arith in
        let p : at' ≡ met t (turned id) (suc w.steps) = ea ∙ rw a (sym (met_linked t (turned id) w.steps j here)) in
        let q = h.link (turned id) w.steps (let z = here in omega arith) in
        record {
          steps = suc w.steps;
          counted = omega arith;
          asked = eb ∙ rw u;
          place = p;
          fits = first_fits is (turned id) (suc w.steps) _ k _ at' q p;
          cell = record { head = λ z. absurd (omega arith); link = λ e z. let i : w.steps ≡ e = omega arith in rw (← i) (a, here) };
          low = omega arith;
          small = omega arith;
          first = q;
          behind = λ i q e. not_here i (let z = here in omega arith) e;
        }
      where
        not_here : (i : ℕ) → i < suc j → id_in is i ≡ turned id → ⊥
        not_here i l e =
            let n : i ≡ j → ⊥ = λ q. ne (sym e ∙ ap (id_in is) q) in
            none_here i (omega arith) e

  pub way_left : left ≤ 22
  way_left = let z = w.counted in omega arith

  abbrev Ends : Way → Type 0
  Ends r = Followed is t k (turned id) r

  pub way_falls : (b : Bool) (j : ℕ) → 0 < at → j ≡ at - 1 → b ≡ eqb (turned id) (id_in is j) → b ≡ false → 1 ≤ left
  way_falls b j l ej eb q = bits_left j (omega arith) (eqb-false (turned id) (id_in is j) (sym eb ∙ q))

  pub way_less : (b : Bool) (j : ℕ) → 0 < at → j ≡ at - 1 → b ≡ eqb (turned id) (id_in is j) → b ≡ false → left - 1 < left
  way_less b j l ej eb q = let z = way_falls b j l ej eb q in omega arith

  pub way_goes : (b : Bool) (j line' bits' left' at' : ℕ) → k ≤ 1024 → IdsChained is t k → 0 < at → j ≡ at - 1 → b ≡ eqb (turned id) (id_in is j) → b ≡ false
      → line' ≡ 1 + bits % 2 → bits' ≡ bits / 2 → left' ≡ left - 1 → at' ≡ get_or (row t line') j 0 → Following is t k (turned id) line' j bits' left' at'
  way_goes b j line' bits' left' at' lk h l ej eb q = goes_on j (omega arith) (eqb-false (turned id) (id_in is j) (sym eb ∙ q)) line' bits' left' at' lk h

  pub way_meets : (b : Bool) (j : ℕ) → 0 < at → j ≡ at - 1 → b ≡ eqb (turned id) (id_in is j) → b ≡ true → Ends (Met (record { 0 = j }))
  unfolding slot_before
  way_meets b j l ej eb q =
      let e : at ≡ suc j = omega arith in
      let g = one_below (is_id is (turned id)) 0 k j (w.first.below j (sym w.place ∙ e)) (sym eb ∙ q)
      (λ i p. ne_eqb (turned id) (id_in is i) (λ z. none_here i (omega arith) (sym z))) in
      record { found = rw g; ended = λ l c z. absurd (let y : ◌≡◌ {A = ℕ} 0 1 = cc in omega arith) }

  pub way_ends : at ≤ 0 → Ends (Ended line c)
  unfolding slot_before
  way_ends l =
      let e : at ≡ 0 = omega arith in
      let g = none_below (is_id is (turned id)) 0 k (λ i p. ne_eqb (turned id) (id_in is i) (λ z. none_at_all e i p (sym z))) in
      record {
        found = rw g;
        ended = λ r b z. same r b z (record { steps = w.steps; cell = w.cell; free = sym (met_cell t (turned id) w.steps line c w.cell) ∙ sym w.place ∙ e; low = w.low; small = w.small });
      }
    where
      same : (l' c' : ℕ) → Ended line c ≡ Ended l' c' → EndsAt t (turned id) line c → EndsAt t (turned id) l' c'
      same l' c' z h = let a : line ≡ l' = cc in let b : c ≡ c' = cc in rw (← a, ← b) h

-- Where a way leads.
module _ (is : List ℕ) (t : List (List ℕ)) (k x : ℕ) (w : Way) (h : Followed is t k x w) where
  pub way_found : (s : Slot) → w ≡ Met s → Some s ≡ slot_before (lowest_below (is_id is x) 0 k)
  way_found s q = sym (ap slot_met q) ∙ h.found

  module _ (l c : ℕ) (q : w ≡ Ended l c) where
    pub way_nothing : None ≡ slot_before (lowest_below (is_id is x) 0 k)
    way_nothing = sym (ap slot_met q) ∙ h.found

    pub free_low : l < 3
    free_low = (h.ended l c q).low

    pub free_small : c < 1024
    free_small = (h.ended l c q).small

pub ruleset ids = (same_is, bucket_is, way_found, way_nothing, free_low, free_small, way_starts, way_left, way_falls, way_less, way_goes, way_meets, way_ends)

-- ---- 7

-- What holds at the loop's head.
pub record Checking (is : List ℕ) (m : ℕ) (old t : List (List ℕ)) (k : ℕ) : Type 0 where
  pub small : k ≤ m
  pub whole : lowest (new_id is) 0 m ≡ lowest (new_id is) k (m - k)
  pub index : IdsChained is t k
  pub within : Within 0 3 old t

-- No slot below k has the id of k where its path ends, and one has it where a slot is met.
module _ (is : List ℕ) (k : ℕ) {t : List (List ℕ)} (w : Way) (h : Followed is t k (id_in is k) w) where
  id_new : (r c : ℕ) → w ≡ Ended r c → true ≡ new_id is k
  id_new r c q = let z = no_slot (lowest_below (is_id is (id_in is k)) 0 k) (slot_met w) h.found (ap slot_met q) in rw z

  id_old : (s : Slot) → w ≡ Met s → false ≡ new_id is k
  id_old s q = let z = the_slot (lowest_below (is_id is (id_in is k)) 0 k) (slot_met w) s h.found (ap slot_met q) in rw (z, ne_eqb (suc s.0) 0 (λ y. omega arith))

all_new : (list : ℕ) (is : List ℕ) (m : ℕ) → rule_7 list is m ≡ tested 7 list (lowest (new_id is) 0 m)
unfolding rule_7
all_new list is m = ap (tested 7 list) (repeats eqb (id_in is) 0 m)

-- The loop begins where the heads are cleared.
module _ (is : List ℕ) (m list : ℕ) (old : List (List ℕ)) (n : Rooms old) where
  pub checking_starts : Cleared (id_heads old) → Checking is m old old 0
  checking_starts z = record { small = omega arith; whole = look_starts (new_id is) m; index = path_fresh is old z.none; within = within_same 0 3 old }

  module _ (t : List (List ℕ)) (k : ℕ) (h : Checking is m old t k) where
    pub checking_rooms : Rooms t
    checking_rooms = h.within.rooms n

    module _ (w : Way) (g : Followed is t k (id_in is k) w) (l : k < m) where
      pub checking_stops : (s : Slot) → w ≡ Met s → IndexedIn is m list (Err (refusal_of 7 list k)) old t
      checking_stops s q =
          record {
            answer = look_stops (new_id is) 7 list (lowest (new_id is) 0 m) k m false h.whole l (id_old is k w g s q) refl ∙ sym (all_new list is m);
            index = λ e. absurd (let y : ◌≡◌ {A = ℕ} 0 1 = cc in omega arith);
            within = h.within;
          }

      pub checking_goes : (r c : ℕ) (t' : List (List ℕ)) → w ≡ Ended r c → m ≤ 1024 → t' ≡ entered_at t r c k → Checking is m old t' (k + 1)
      checking_goes r c t' q few e =
          let f = g.ended r c q in
          rw e
          record {
            small = omega arith;
            whole = look_goes (new_id is) (lowest (new_id is) 0 m) k m true h.whole l (id_new is k w g r c q) refl;
            index = path_enters is t k h.index checking_rooms (omega arith) r c f;
            within = within_both 0 3 old t (entered_at t r c k) h.within (entered_within t k checking_rooms r c f.low f.small (omega arith));
          }

    pub checking_ends : m ≤ k → IndexedIn is m list (Ok tt) old t
    checking_ends l =
        let e : k ≡ m = let y = h.small in omega arith in
        record {
          answer = look_ends (new_id is) 7 list (lowest (new_id is) 0 m) k m h.whole l ∙ sym (all_new list is m);
          index = λ y. rw e at h.index;
          within = h.within;
        }

pub ruleset checking = (checking_starts, checking_rooms, checking_stops, checking_goes, checking_ends)
