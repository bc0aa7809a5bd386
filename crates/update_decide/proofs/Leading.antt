-- Under a parent: the row that the path finds is the record at its slot, so its receiver is the struct that the step leads to.
use Prim.Native.Nat.{ℕ, ◌+◌}
use mathlib.Core.Path.{◌≡◌, refl, sym, ap, ◌∙◌}
use mathlib.Core.Bool.{true}
use mathlib.Core.List.{List}
use mathlib.Core.Option.{Option, none, some}
use Rattle.paper.specs.Answer.{◌>>=◌}
use Rattle.paper.specs.Rows.{Row}
use Rattle.paper.specs.Bytes.{turned, kids_at, field_at, ok_bytes}
use Rattle.paper.specs.Decode.{fields}
use Rattle.paper.specs.Update.{receiver}
use Rattle.tree.specs.Read.{part}
use Rattle.record.specs.declared.FieldId.{FieldId}
use Rattle.record.specs.declared.Slot.{Slot}
use Rattle.record.specs.Answers.{Found}
use Rattle.std.specs.Prelude.{Err, Some, None}
use Rattle.record.specs.Says.{found_row, refusal_of}
use Rattle.update_gone.specs.Gone.{base_slots}
use Rattle.update_gone.proofs.Fields.{gone_fields}
use Rattle.update_parents.specs.Answers.{Target}
use Rattle.tree.specs.Read.{Standing}
use Rattle.update_parents.specs.Target.{receiving, targeted, receiver_at, Stands}
use Rattle.update_parents.proofs.Receiving.{receiver_is, receiving_stands}
use Rattle.update_decide.specs.Answers.{Going}
use Rattle.update_decide.specs.Entry.{goes, taken_at, under_place, parent_place, Sited, FoundSited, UnderParent}
use Rattle.update_decide.proofs.Deleting.{at_none, nothing_some}

pub parent_nothing : (f : Found) (pool s : List ℕ) (n : ℕ) (ds : List ℕ) (k : ℕ) (x : List ℕ) → f ≡ None → UnderParent f pool s n ds k x (Err (refusal_of 15 3 k))
unfolding parent_place ◌>>=◌ goes
parent_nothing f pool s n ds k x e = record { says = λ o. go o }
  where
    go : (o : Option Row) → ((row : Row) → o ≡ some row → Stands pool s n row) → f ≡ found_row o → Err (refusal_of 15 3 k) ≡ goes (parent_place (fields pool s (base_slots s n)) o ds k x)
    go none h q = refl
    go (some r) h q = absurd (nothing_some r (sym e ∙ q))

pub slot_is : (x : FieldId) (p : Slot) (r : Row) → Some (x, p) ≡ found_row (some r) → r.slot ≡ p.0
unfolding found_row
slot_is x p r e =
    let z : (x, p) ≡ (record { 0 = turned r.field.id }, record { 0 = r.slot }) = cc in
    ap (λ (q : FieldId × Slot). q.1.0) (sym z)

-- the targets tell
to_none : (o : Option ℕ) (t : Target) → t ≡ targeted o → t ≡ None → o ≡ none
unfolding targeted
to_none none t e f = refl
to_none (some j) t e f = cc

to_some : (o : Option ℕ) (t : Target) (j : Slot) → t ≡ targeted o → t ≡ Some j → o ≡ some j.0
unfolding targeted
to_some none t j e f = cc
to_some (some i) t j e f = let z : j ≡ record { 0 = i } = cc in rw z

pub parent_stands : (f : Found) (pool s : List ℕ) (n : ℕ) (i : FieldId) (p : Slot) → f ≡ Some (i, p) → FoundSited pool s n f → Standing 0 s n 15 p.0 × (ok_bytes s p.0 ≡ true)
parent_stands f pool s n i p e h = let z = h.at i p e in (z.0.stands, z.1)

pub target_sited : (f : Found) (pool s : List ℕ) (n : ℕ) (i : FieldId) (p : Slot) (t : Target) (j : Slot) → f ≡ Some (i, p) → FoundSited pool s n f → t ≡ targeted (receiving s n p.0) → t ≡ Some j → Sited pool s n j.0
target_sited f pool s n i p t j e h et q =
    let z = h.at i p e in
    record { stands = receiving_stands s n p.0 z.0.stands j.0 z.1 (to_some (receiving s n p.0) t j et q); named = z.0.named }

module _ (f : Found) (pool s : List ℕ) (n : ℕ) (ds : List ℕ) (k : ℕ) (x : List ℕ) (i : FieldId) (p : Slot) (e : f ≡ Some (i, p)) (h : FoundSited pool s n f) where
  module _ (t : Target) (et : t ≡ targeted (receiving s n p.0)) where
    -- the row's receiver
    received : (r : Row) → Stands pool s n r → f ≡ found_row (some r) → receiver r.field r.inside r.field.kind ≡ receiver_at pool s n (receiving s n p.0)
    unfolding field_at
    received r st q =
        let z = h.at i p e in
        let ek : r.slot ≡ p.0 = slot_is i p r (sym e ∙ q) in
        let ef : r.field ≡ field_at pool s p.0 = rw ek at st.field in
        let en : r.inside ≡ fields pool s (part 0 (kids_at s) n 15 (kids_at s p.0) (p.0 + 1)).trees = rw ek at st.inside in
        rw (ef, en) (receiver_is pool s n p.0 z.0.stands z.1)

    pub parent_shut : t ≡ None → UnderParent f pool s n ds k x (Err (refusal_of 16 3 k))
    unfolding parent_place ◌>>=◌ goes
    parent_shut q = record { says = λ o. go o }
      where
        go : (o : Option Row) → ((row : Row) → o ≡ some row → Stands pool s n row) → f ≡ found_row o → Err (refusal_of 16 3 k) ≡ goes (parent_place (fields pool s (base_slots s n)) o ds k x)
        go none st a = absurd (at_none i p (sym e ∙ a))
        go (some r) st a = rw (received r (st r refl) a, to_none (receiving s n p.0) t et q)

    pub parent_joins : (j : Slot) (g : Going) → t ≡ Some j → g ≡ goes (under_place pool s n j.0 ds k x) → UnderParent f pool s n ds k x g
    unfolding parent_place under_place taken_at ◌>>=◌ goes
    parent_joins j g q eg = record { says = λ o. go o }
      where
        go : (o : Option Row) → ((row : Row) → o ≡ some row → Stands pool s n row) → f ≡ found_row o → g ≡ goes (parent_place (fields pool s (base_slots s n)) o ds k x)
        go none st a = absurd (at_none i p (sym e ∙ a))
        go (some r) st a = rw (received r (st r refl) a, to_some (receiving s n p.0) t j et q, gone_fields pool s n ds) eg
