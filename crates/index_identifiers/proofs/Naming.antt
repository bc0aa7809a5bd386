-- The lowest identifier that finds no column that may identify, by a loop over the identifiers: `search finding`, `search nine`.
use mathlib.Core.Path.{◌≡◌, refl, sym, ap, subst, ◌∙◌}
use mathlib.Core.Bool.{Bool, true, false, not, ◌&&◌}
use mathlib.Core.List.{List}
use mathlib.Core.Option.{Option, none, some}
use Prim.Native.Nat.{ℕ, ◌+◌, ◌-◌, ◌*◌, ◌/◌, ◌<◌, ◌≤◌}
use native.Mathlib.Omega.{arith}
use borrow.Author.Tests.{not-true, not-false}
use lib.ListN.{length, get_or}
use Rattle.paper.specs.Answer.{lowest}
use Rattle.paper.specs.Bytes.{turned}
use Rattle.paper.specs.Field.{Field}
use Rattle.paper.specs.Forest.{Forest}
use Rattle.paper.specs.Lists.{id_at, id_list}
use Rattle.paper.specs.Rows.{Row, look_id}
use Rattle.paper.specs.Sound.{identifying, identifies}
use Rattle.record.specs.declared.Slot.{Slot}
use Rattle.record.specs.Answers.{FoundSlot}
use Rattle.std.specs.Prelude.{Ok, Err, Some, None}
use Rattle.record.specs.Says.{tested, refusal_of, slot_before}
use Rattle.record.specs.Trees.{Trees}
use Rattle.record.proofs.Lowest.{look_starts, look_goes, look_stops, look_ends}
use Rattle.record.proofs.Slots.{no_slot, the_slot}
use Rattle.plan.specs.Plan.{planned_field, source_field, plan_fields, Plan}
use Rattle.plan.proofs.Standing.{field_in}
use Rattle.index_ids.specs.Chain.{lowest_below}
use Rattle.index_ids.specs.Ids.{is_id}
use Rattle.index_ids.proofs.Chains.{found_within}
use Rattle.index_ids.proofs.Repeats.{slot_at, place_lowest}
use Rattle.index_names.specs.Told.{Raised}
use Rattle.index_names.proofs.Rising.{risen}
use Rattle.index_names.proofs.Rows.{Rel, none_found, found_at, id_row}
use Rattle.index_identifiers.specs.Nine.{held_up, rule_9}
use Rattle.index_identifiers.proofs.Above.{line_held, plan_climbs, few_up}

-- ---- one identifier

module _ (l : Trees) (xs is us : List ℕ) where
  none_identifies : {O : Option Row} → Rel (field_in l xs is) us O none → identifies O ≡ false
  none_identifies none_found = refl

  slot_identifies : {O : Option Row} {k : ℕ} → risen us 15 (get_or us k 0) ≡ 0 → Rel (field_in l xs is) us O (some k) → identifies O ≡ (identifying (source_field l (get_or xs k 0)) && held_up l xs us 15 (get_or us k 0))
  unfolding planned_field
  slot_identifies {k = k} e (found_at h) = rw (h.field, line_held l xs us is h.above 15 e)

module _ {l : Trees} {xs is ks us : List ℕ} {m : ℕ} (P : Plan l xs is ks m) (R : Raised ks m us) (i : ℕ) (w : FoundSlot) (ew : w ≡ slot_before (lowest_below (is_id is i) 0 m)) where
  row_at : Rel (field_in l xs is) us (look_id (plan_fields l xs is ks m) i) (slot_at (lowest_below (is_id is i) 0 m))
  row_at = id_row l xs is ks m P us (plan_climbs P R) i

  pub finds_none : w ≡ None → false ≡ identifies (look_id (plan_fields l xs is ks m) i)
  finds_none q =
      sym (none_identifies l xs is us (subst (λ (at : ℕ). Rel (field_in l xs is) us (look_id (plan_fields l xs is ks m) i) (slot_at at)) (no_slot _ w ew q) row_at))

  module _ (s : Slot) (q : w ≡ Some s) where
    pub finds_slot : s.0 < m
    finds_slot = found_within (is_id is i) m w ew s q

    pub finds_small : s.0 < 1024
    finds_small = let z = finds_slot in let f = P.few in omega arith

    module _ (b : Bool) (eb : b ≡ identifying (source_field l (get_or xs s.0 0))) where
      decided : identifies (look_id (plan_fields l xs is ks m) i) ≡ (b && held_up l xs us 15 (get_or us s.0 0))
      decided =
          slot_identifies l xs is us (few_up P R s.0 finds_slot)
          (subst (λ (at : ℕ). Rel (field_in l xs is) us (look_id (plan_fields l xs is ks m) i) (slot_at at)) (the_slot _ w s ew q) row_at)
          ∙ rw (← eb)

      pub finds_other : not b ≡ true → false ≡ identifies (look_id (plan_fields l xs is ks m) i)
      finds_other n = sym (decided ∙ rw (not-true b n))

      pub finds_held : (r : Bool) → not b ≡ false → r ≡ held_up l xs us 15 (get_or us s.0 0) → r ≡ identifies (look_id (plan_fields l xs is ks m) i)
      finds_held r n e = e ∙ sym (decided ∙ rw (not-false b n))

pub ruleset finding = (finds_none, finds_slot, finds_small, finds_other, finds_held)

-- ---- all of them

unfoldable pub fits : (s : List ℕ) (tree : Forest Field) → ℕ → Bool
fits s tree i = identifies (look_id tree (id_at s i))

nine_is : (s : List ℕ) (tree : Forest Field) → rule_9 s tree ≡ tested 9 5 (lowest (fits s tree) 0 (length s / 4))
unfolding rule_9 id_list fits
nine_is s tree = ap (tested 9 5) (place_lowest (λ i. identifies (look_id tree i)) (id_at s) 0 (length s / 4))

-- What holds at the loop's head: n identifiers, of which i may identify.
pub record Naming (s : List ℕ) (tree : Forest Field) (n i : ℕ) : Type 0 where
  pub count : n ≡ length s / 4
  pub small : i ≤ n
  pub whole : lowest (fits s tree) 0 n ≡ lowest (fits s tree) i (n - i)

pub nine_starts : (s : List ℕ) (tree : Forest Field) → Naming s tree (length s / 4) 0
nine_starts s tree = record { count = refl; small = omega arith; whole = look_starts (fits s tree) (length s / 4) }

module _ (s : List ℕ) (tree : Forest Field) (n i : ℕ) (h : Naming s tree n i) where
  pub nine_room : length s ≤ 256 → i < n → i * 4 + 4 ≤ length s
  nine_room l q = let z = h.count in omega arith

  module _ (id : ℕ) (r : Bool) (l : i < n) (ei : id_at s i ≡ turned id) (er : r ≡ identifies (look_id tree (turned id))) where
    fits_is : r ≡ fits s tree i
    unfolding fits
    fits_is = rw ei er

    pub nine_goes : not r ≡ false → Naming s tree n (i + 1)
    nine_goes q = record { count = h.count; small = omega arith; whole = look_goes (fits s tree) (lowest (fits s tree) 0 n) i n r h.whole l fits_is q }

    pub nine_stops : not r ≡ true → Err (refusal_of 9 5 i) ≡ rule_9 s tree
    nine_stops q = look_stops (fits s tree) 9 5 (lowest (fits s tree) 0 n) i n r h.whole l fits_is q ∙ sym (nine_is s tree ∙ rw (← h.count))

  pub nine_ends : n ≤ i → (Ok tt) ≡ rule_9 s tree
  nine_ends l = look_ends (fits s tree) 9 5 (lowest (fits s tree) 0 n) i n h.whole l ∙ sym (nine_is s tree ∙ rw (← h.count))

pub ruleset nine = (nine_starts, nine_room, nine_goes, nine_stops, nine_ends)
