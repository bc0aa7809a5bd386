-- The loop that goes up: the answer for the slot is that for the place at which it stands. `search leaving`.
use Prim.Native.Nat.{ℕ, zero, suc, ◌+◌, ◌-◌, ◌*◌, ◌<◌, ◌≤◌}
use mathlib.Core.Path.{◌≡◌, refl, sym, ap, ◌∙◌}
use mathlib.Core.Bool.{Bool, true, false, ◌||◌}
use mathlib.Core.List.{List, []}
use native.Mathlib.Numerals.{add-one}
use native.Mathlib.Omega.{arith}
use lib.ListN.{length, get_or}
use Rattle.paper.specs.Answer.{among}
use Rattle.paper.specs.Bytes.{kids_at, kind_at}
use Rattle.paper.specs.Forest.{Forest, preorder}
use Rattle.paper.specs.Gone.{dropped_member, gone}
use Rattle.std.specs.Prelude.{Some, None}
use Rattle.record.specs.declared.Slot.{Slot}
use Rattle.record.specs.Answers.{FoundSlot}
use Rattle.record.specs.Says.{slot_before}
use Rattle.paper.specs.declared.Kind.{Kind}
use Rattle.paper.specs.Field.{is_struct}
use Rattle.laws.specs.Members.{◌∈◌}
use Rattle.laws.proofs.Among.{among_values, distinct_values}
use Rattle.laws.proofs.Going.{gone_there}
use Rattle.plan.specs.Walk.{trees_of}
use Rattle.plan.proofs.Walks.{roots_are}
use Rattle.index_names.specs.Full.{ups}
use Rattle.index_names.proofs.Rising.{Climbs, climbs, risen, rising_on, slot_there, up_ends}
use Rattle.index_names.proofs.Telling.{ups_fall}
use Rattle.update_gone.specs.Gone.{base_slots, slot_id, ids_gone, open_under, Rises}
use Rattle.update_gone.proofs.Climbing.{goes_at, steps}

-- ---- the slot before a place

none_before : (p : ℕ) → slot_before p ≡ None → p ≡ 0
unfolding slot_before
none_before zero e = refl
none_before (suc k) e = cc

some_before : (p : ℕ) (j : Slot) → slot_before p ≡ Some j → p ≡ suc j.0
unfolding slot_before
some_before zero j e = cc
some_before (suc k) j e = let z : record { 0 = k } ≡ j = cc in ap (λ (q : Slot). suc q.0) z

-- who stands under a place
pub opens_room : (records : List ℕ) (above : ℕ) (w : FoundSlot) (j : Slot) → w ≡ slot_before above → w ≡ Some j → above * 24 ≤ length records → j.0 * 24 + 24 ≤ length records
opens_room records above w j e q l = let z = some_before above j (sym e ∙ q) in omega arith

pub opens_in : (records : List ℕ) (above : ℕ) (w : FoundSlot) (j : Slot) (b : Bool) (k : Kind) → w ≡ slot_before above → w ≡ Some j → k ≡ kind_at records j.0 → b ≡ is_struct k → b ≡ open_under records above
opens_in records above w j b k e q ek eb = rw (some_before above j (sym e ∙ q), eb, ek)

pub opens_root : (records : List ℕ) (above : ℕ) (w : FoundSlot) → w ≡ slot_before above → w ≡ None → true ≡ open_under records above
opens_root records above w e q = rw (none_before above (sym e ∙ q))

pub ruleset opening = (opens_room, opens_in, opens_root)

-- ---- the base

module _ {records : List ℕ} {n : ℕ} {us : List ℕ} (R : Rises records n us) where
  walked : base_slots records n ≡ trees_of (kids_at records) n
  walked = roots_are 0 (kids_at records) n R.read

  raised : (k : ℕ) → k < n → get_or us k 0 ≡ get_or (ups 0 (trees_of (kids_at records) n)) k 0
  raised k l = R.above k l ∙ ap (λ (f : Forest ℕ). get_or (ups 0 f) k 0) walked

  climbing : Climbs us 0 (trees_of (kids_at records) n)
  climbing = climbs (kids_at records) n us raised

  pub base_climbs : Climbs us 0 (base_slots records n)
  base_climbs = rw walked climbing

  pub there : (k : ℕ) → k < n → k ∈ preorder (base_slots records n)
  there k l = rw walked (slot_there 0 (kids_at records) n R.read k l)

  pub up_falls : (k : ℕ) → k < n → get_or us k 0 ≤ k
  up_falls = ups_fall (λ _. []) (kids_at records) n us raised

  base_ends : (k : ℕ) → k < n → risen us 16 (suc k) ≡ 0
  base_ends = up_ends 0 (kids_at records) n R.read us climbing

-- Whether what stands at a place goes.
abbrev pub gone_at : (records : List ℕ) (n : ℕ) (ds : List ℕ) (place : ℕ) → Bool
gone_at records n ds zero = false
gone_at records n ds (suc k) = among (slot_id records k) (ids_gone records n ds)

module _ {records : List ℕ} {n : ℕ} {us : List ℕ} (R : Rises records n us) (ds : List ℕ) where
  -- the slots that go
  abbrev going : List ℕ
  going = gone (slot_id records) (kind_at records) ds true (base_slots records n)

  by_slot : (k : ℕ) → k < n → among (slot_id records k) (ids_gone records n ds) ≡ among k going
  unfolding ids_gone
  by_slot k l = among_values (slot_id records) (preorder (base_slots records n)) R.own k going (there R k l) (gone_there (slot_id records) (kind_at records) ds true (base_slots records n))

  by_place : (u : ℕ) → u ≤ n → gone_at records n ds u ≡ goes_at going u
  by_place zero l = refl
  by_place (suc k) l = by_slot k l

  a_level : (k : ℕ) → k < n → among (slot_id records k) (ids_gone records n ds) ≡ (dropped_member (open_under records (get_or us k 0)) ds (slot_id records k) || gone_at records n ds (get_or us k 0))
  a_level k l =
      by_slot k l
      ∙ steps us going records ds (base_slots records n) 0 true (base_climbs R) (distinct_values (slot_id records) (preorder (base_slots records n)) R.own) refl refl (λ i _. refl) k (there R k l)
      ∙ sym (ap (λ (b : Bool). dropped_member (open_under records (get_or us k 0)) ds (slot_id records k) || b) (by_place (get_or us k 0) (let q = up_falls R k l in omega arith)))

-- ---- the loop

pub record Leaving (records : List ℕ) (n : ℕ) (us ds : List ℕ) (slot place turns : ℕ) : Type 0 where
  pub within : place ≤ n
  pub same : among (slot_id records slot) (ids_gone records n ds) ≡ gone_at records n ds place
  pub low : risen us (16 - turns) place ≡ 0

module _ {records : List ℕ} {n : ℕ} {us : List ℕ} (R : Rises records n us) where
  pub leave_starts : (ds : List ℕ) (slot : ℕ) → slot < n → Leaving records n us ds slot (slot + 1) 0
  leave_starts ds slot l = rw (add-one slot) record { within = l; same = refl; low = base_ends R slot l }

  module _ {ds : List ℕ} {slot place i : ℕ} (H : Leaving records n us ds slot place i) where
    over : place ≡ 0 → false ≡ among (slot_id records slot) (ids_gone records n ds)
    over e = sym (H.same ∙ rw e)

    pub leave_ends : (w : FoundSlot) → w ≡ slot_before place → w ≡ None → false ≡ among (slot_id records slot) (ids_gone records n ds)
    leave_ends w e q = over (none_before place (sym e ∙ q))

    -- no level is left
    pub leave_last : 16 ≤ i → false ≡ among (slot_id records slot) (ids_gone records n ds)
    unfolding risen
    leave_last l = let z : 16 - i ≡ 0 = omega arith in over (rw z at H.low)

    module _ (w : FoundSlot) (ew : w ≡ slot_before place) (j : Slot) (ek : w ≡ Some j) where
      abbrev k : ℕ
      k = j.0

      is_next : place ≡ suc k
      is_next = some_before place j (sym ew ∙ ek)

      there_still : k < n
      there_still = let w = H.within in let e = is_next in omega arith

      pub leave_small : k < 1024
      leave_small = let w = there_still in let s = R.small in omega arith

      pub leave_room : k * 24 + 24 ≤ length records
      leave_room = let w = there_still in let s = R.whole in omega arith

      module _ (above : ℕ) (ea : above ≡ get_or us k 0) where
        pub above_room : above * 24 ≤ length records
        above_room = let w = there_still in let s = R.whole in let f = up_falls R k w in omega arith

        module _ (o b : Bool) (eo : o ≡ open_under records above) (eb : b ≡ dropped_member o ds (slot_id records k)) where
          level : among (slot_id records slot) (ids_gone records n ds) ≡ (b || gone_at records n ds above)
          level = H.same ∙ ap (gone_at records n ds) is_next ∙ rw (eb, eo, ea) (a_level R ds k there_still)

          pub leave_taken : b ≡ true → true ≡ among (slot_id records slot) (ids_gone records n ds)
          leave_taken e = sym (level ∙ rw e)

          pub leave_goes : b ≡ false → Leaving records n us ds slot above (i + 1)
          leave_goes e =
              let el : 16 - (i + 1) ≡ 16 - i - 1 = omega arith in
              record {
                within = let w = there_still in let f = up_falls R k w in omega arith;
                same = level ∙ rw e;
                low = rw (ea, el) (rising_on us (16 - i) k (rw is_next at H.low));
              }

pub ruleset leaving = (leave_starts, leave_small, leave_room, above_room, leave_taken, leave_goes, leave_ends, leave_last)
