-- What a look-up in the base finds: a record of the base, at its slot.
use Prim.Native.Nat.{ℕ, ◌<◌}
use mathlib.Core.Path.{◌≡◌, refl, sym, ◌∙◌}
use mathlib.Core.List.{List}
use mathlib.Core.Option.{Option, none, some}
use native.Mathlib.Omega.{arith}
use mathlib.Core.Bool.{Bool, true, false}
use lib.Dec.{eqb}
use Rattle.paper.specs.Rows.{Row, look_name}
use Rattle.paper.specs.Bytes.{rec_at, field_at, ok_bytes}
use Rattle.paper.specs.Lists.{entry_at, path_of, parent_path}
use Rattle.paper.specs.Update.{receiver, placed}
use Rattle.laws.proofs.Words.{turned_below}
use Rattle.laws.proofs.Fitting.{lowest_none}
use Rattle.record.specs.Trees.{Trees}
use Rattle.plan.specs.Plan.{plan_fields}
use Rattle.update_parents.specs.Target.{receiving, receiver_at, Stands}
use Rattle.update_parents.proofs.Receiving.{receiver_is}
use Rattle.update_parents.proofs.Rows.{found_stands}
use Rattle.record.specs.declared.FieldId.{FieldId}
use Rattle.record.specs.declared.Slot.{Slot}
use Rattle.record.specs.Answers.{Found}
use Rattle.std.specs.Prelude.{Some}
use Rattle.record.specs.Says.{found_row}
use Rattle.update_decide.specs.Answers.{Going}
use Rattle.update_decide.specs.Entry.{Known, goes, root_place, AtRoot, parent_place, Sited, FoundSited, UnderParent}
use Rattle.update_decide.proofs.Deleting.{at_none}
use Rattle.update_decide.proofs.Leading.{slot_is}
use Rattle.update_schema.specs.Base.{Based}
use Rattle.update_schema.proofs.Rising.{base_tree}

module _ (l : Trees) (xs is ks : List ℕ) (n : ℕ) (b : Based l xs is ks n) where
  pub found_there : (x : List ℕ) (r : Row) → look_name (plan_fields l xs is ks n) x ≡ some r → Stands l.pool l.records n r
  found_there x r e = found_stands l.pool l.records n b.trees x r b.read (rw b.tree at e)

  field_known : (r : Row) → Stands l.pool l.records n r → r.field.id < 4294967296
  unfolding field_at
  field_known r h = rw h.field (turned_below (rec_at l.records r.slot).id)

  pub found_known : (x : List ℕ) → Known (look_name (plan_fields l xs is ks n) x)
  unfolding Known
  found_known x = go (look_name (plan_fields l xs is ks n) x) refl
    where
      go : (o : Option Row) → look_name (plan_fields l xs is ks n) x ≡ o → Known o
      go none e = tt
      go (some r) e = field_known r (found_there x r e)

  -- its receiver is the struct that the step from its slot leads to
  pub row_stands : (x : List ℕ) (r : Row) → look_name (plan_fields l xs is ks n) x ≡ some r → receiver r.field r.inside r.field.kind ≡ receiver_at l.pool l.records n (receiving l.records n r.slot)
  unfolding field_at
  row_stands x r e =
      let st = found_there x r e in
      let th = st.there in
      rw (st.field, st.inside) (receiver_is l.pool l.records n r.slot (record { whole = b.whole; small = b.plan.few; there = th; read = st.read }) (lowest_none (ok_bytes l.records) 0 n b.bytes r.slot (omega arith) (omega arith)))

  -- what is found may be read on
  pub found_sited : (x : List ℕ) (f : Found) → f ≡ found_row (look_name (plan_fields l xs is ks n) x) → FoundSited l.pool l.records n f
  found_sited x f e = record { at = λ i p q. go i p (look_name (plan_fields l xs is ks n) x) refl (sym q ∙ e) }
    where
      go : (i : FieldId) (p : Slot) (o : Option Row) → look_name (plan_fields l xs is ks n) x ≡ o → Some (i, p) ≡ found_row o → Sited l.pool l.records n p.0 × (ok_bytes l.records p.0 ≡ true)
      go i p none eo q = absurd (at_none i p q)
      go i p (some r) eo q =
          let st = found_there x r eo in
          let ek : r.slot ≡ p.0 = slot_is i p r q in
          let th : p.0 < n = rw ek at st.there in
          (record { stands = record { whole = b.whole; small = b.plan.few; there = th; read = rw ek at st.read }; named = b.named }, lowest_none (ok_bytes l.records) 0 n b.bytes p.0 (omega arith) (omega arith))

  -- ---- where an addition goes

  module _ (ds : List ℕ) (k : ℕ) (x y : List ℕ) (ey : y ≡ x) (request additions : List ℕ) (c : Bool) (ec : c ≡ eqb (entry_at additions k).has_path 1) where
    pub goes_under : (p : List ℕ) (f : Found) (r : Going) → c ≡ true → p ≡ path_of request additions k → f ≡ found_row (look_name (plan_fields l xs is ks n) p) → UnderParent f l.pool l.records n ds k y r
        → r ≡ goes (placed (plan_fields l xs is ks n) ds k x (parent_path request additions k))
    unfolding parent_path placed parent_place
    goes_under p f r q ep ef h =
        let z : eqb (entry_at additions k).has_path 1 ≡ true = sym ec ∙ q in
        rw (z, ← ep, ← ey) (rw (← (base_tree l xs is ks n b)) at (h.says (look_name (plan_fields l xs is ks n) p) (λ row e. found_there p row e) ef))

    pub goes_root : (f : Found) (r : Going) → c ≡ false → f ≡ found_row (look_name (plan_fields l xs is ks n) y) → AtRoot f ds k r
        → r ≡ goes (placed (plan_fields l xs is ks n) ds k x (parent_path request additions k))
    unfolding parent_path placed root_place
    goes_root f r q ef h =
        let z : eqb (entry_at additions k).has_path 1 ≡ false = sym ec ∙ q in
        rw (z, ← ey) (h.says (look_name (plan_fields l xs is ks n) y) (found_known y) ef)
