-- What a look-up finds is the record at its slot (laws' `Sited`), so its id is that record's.
use Prim.Native.Nat.{ℕ, ◌*◌}
use mathlib.Core.Path.{◌≡◌, refl, sym, ap, ◌∙◌}
use mathlib.Core.List.{List}
use mathlib.Core.Option.{Option, none, some}
use native.Mathlib.Omega.{arith}
use lib.ListN.{get_or}
use Rattle.paper.specs.Answer.{Answer, ok, refused, ◌>>=◌, lowest}
use Rattle.paper.specs.Forest.{size, siblings, mapped, ◌then◌}
use Rattle.paper.specs.Field.{Field}
use Rattle.paper.specs.Rows.{Row, rows, look_id}
use Rattle.paper.specs.Sound.{fitting, misnamed, names, ids, sound}
use Rattle.paper.specs.Bytes.{word16, word32, turned, ok_bytes, in_pool, kind_from, name_of, field_at}
use Rattle.paper.specs.Layout.{deep, row_with, row, roots}
use Rattle.paper.specs.Decode.{fields, decode}
use Rattle.paper.specs.Limits.{whole, sum_from, name_sum, tree_sized, pool_sized, sized}
use Rattle.paper.specs.Entries.{read, find_name, find_id, find_parent, find_folded, find_ids}
use Rattle.paper.specs.Outcome.{found}
use Rattle.laws.proofs.Basics.{unbind, ok_is}
use Rattle.laws.proofs.Words.{turned_twice, turned_below}
use Rattle.laws.proofs.Rows.{id_found}
use Rattle.laws.proofs.Sited.{Sited, name_sited, id_sited, parent_sited, folded_sited}
use Rattle.theorems.specs.Many.{asked_at}
use Rattle.theorems.specs.Sites.{AtItsSlot, found_at, IdsAreNoSlots}
use Rattle.theorems.proofs.Many.{row_found}

-- The numbers of a look-up whose row, if it finds one, is the record at its slot.
at_its_slot : (s p : List ℕ) (a : Answer (Option Row)) → ((r : Row) → a ≡ ok (some r) → Sited s p r)
    → (found a).found ≡ 1
    → AtItsSlot s (found a)
unfolding found field_at
at_its_slot s p (ok (some r)) h e =
    let w = h r refl in
    let i : r.field.id ≡ turned (word32 s (r.slot * 24)) = ap (λ (f : Field). f.id) w.field in
    record {
      there = w.there;
      same_id = ap (λ (x : ℕ). turned (turned x)) i ∙ turned_twice _ (turned_below _);
    }
at_its_slot s p (ok none) h e = absurd (omega arith)
at_its_slot s p (refused n l k) h e = absurd (omega arith)

-- The id that was asked.
asked_id : (s p : List ℕ) (i : ℕ) (a : Answer (Option Row)) → find_id s p i ≡ a → (found a).found ≡ 1
    → turned (found a).id ≡ turned i
unfolding found find_id
asked_id s p i (ok (some r)) e q =
    unbind _ _ e λ t _ h.
    let w : r.field.id ≡ turned i = (id_found t (turned i) r (ok_is h)).1 in
    ap (λ (x : ℕ). turned (turned x)) w ∙ turned_twice _ (turned_below _)
asked_id s p i (ok none) e q = absurd (omega arith)
asked_id s p i (refused n l k) e q = absurd (omega arith)

module _ (s p : List ℕ) where
  one_sited : (i : ℕ) → (found (find_id s p i)).found ≡ 1
      → AtItsSlot s (found (find_id s p i)) × (turned (found (find_id s p i)).id ≡ turned i)
  one_sited i e = (at_its_slot s p (find_id s p i) (λ r. id_sited s p r i) e, asked_id s p i (find_id s p i) refl e)

  -- Of many ids it is what a search for one tells.
  each_sited : (ids : List ℕ) (room : ℕ) (rows : List (Option Row)) → find_ids s p ids room ≡ ok rows
      → (i : ℕ) (r : Row) → get_or rows i none ≡ some r → AtItsSlot s (found_at (asked_at ids i) r.slot)
  unfolding found
  each_sited ids room rows e i r q =
      let f = row_found s p ids room rows e i r q in
      let w = one_sited (asked_at ids i) (rw f refl) in
      record { there = rw f at w.0.there; same_id = sym (rw f at w.1) ∙ rw f at w.0.same_id }

pub ids_are_no_slots : IdsAreNoSlots
unfolding find_id read found look_id ◌>>=◌ lowest size siblings mapped ◌then◌ rows fitting misnamed names ids sound
    word16 word32 turned ok_bytes in_pool kind_from name_of field_at deep row_with row roots fields decode
    whole sum_from name_sum tree_sized pool_sized sized
ids_are_no_slots =
    record {
      by_name = λ s p x. at_its_slot s p (find_name s p x) (λ r. name_sited s p r x);
      by_id = one_sited;
      by_parent = λ s p i. at_its_slot s p (find_parent s p i) (λ r. parent_sited s p r i);
      by_folded_name = λ s p x. at_its_slot s p (find_folded s p x) (λ r. folded_sited s p r x);
      by_ids = each_sited;
      id_3 = refl;
      id_6 = refl;
      slot_3 = refl;
      id_0 = refl;
      id_10 = refl;
    }
