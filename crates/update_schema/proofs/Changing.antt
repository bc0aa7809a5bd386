-- Additions ask of the dropped ids only which are among them, so a set with the same members decides the same.
use Prim.Native.Nat.{ℕ, suc, ◌+◌}
use mathlib.Core.Path.{◌≡◌, refl, sym, ap, subst, ◌∙◌}
use mathlib.Core.Bool.{Bool, true, not, ◌&&◌, cond}
use mathlib.Core.List.{List, [], ◌∷◌}
use mathlib.Core.Option.{Option, none, some}
use native.Mathlib.Omega.{arith}
use Rattle.paper.specs.Answer.{Answer, ok, ◌>>=◌, among, same, fault_if, demand}
use Rattle.paper.specs.Forest.{Forest, empty, node, size}
use Rattle.paper.specs.Field.{Field, id_of, kind_of}
use Rattle.paper.specs.Gone.{gone_columns}
use Rattle.paper.specs.Rows.{Row, look_name}
use Rattle.paper.specs.Update.{Receiver, receiver, root_taken, member_taken, placed, Placed, placed_all}
use Rattle.laws.proofs.Basics.{bind_is, bind_not}
use Rattle.laws.proofs.Going.{gone_same}
use Rattle.record.specs.declared.Refusal.{Refusal}
use Rattle.record.specs.Answers.{Check}
use Rattle.std.specs.Prelude.{Ok, Err}
use Rattle.update_dropped.specs.declared.Dropped.{Dropped}
use Rattle.update_dropped.specs.Set.{dropped_ids}
use Rattle.update_decide.specs.Entry.{parent_place}
use Rattle.update_rebuild.specs.Answers.{Under}
use Rattle.update_schema.specs.Answers.{Decided}
use Rattle.update_dropped.specs.Gathered.{row_ids, Gathered}
use Rattle.update_schema.specs.Deletions.{DropsAll}
use Rattle.update_schema.specs.Additions.{one_placed, all_placed, PlacesBy, PlacesAll}
use Rattle.update_schema.specs.Changes.{changes, Decides}
use Rattle.update_schema.proofs.Columns.{placed_step, joined}

module _ (t : Forest Field) (ds ds' : List ℕ) (h : (x : ℕ) → among x ds ≡ among x ds') where
  member_same : (f : Forest Field) (x : List ℕ) → member_taken f x ds ≡ member_taken f x ds'
  unfolding member_taken
  member_same empty x = refl
  member_same (node f m n) x = ap (λ (b : Bool). cond (same f.name x && not b) true (member_taken n x ds)) (h f.id) ∙ ap (λ (b : Bool). cond (same f.name x && not (among f.id ds')) true b) (member_same n x)

  placed_same : (k : ℕ) (x : List ℕ) (p : Option (List ℕ)) → placed t ds k x p ≡ placed t ds' k x p
  unfolding placed parent_place ◌>>=◌
  placed_same k x none = go (look_name t x)
    where
      go : (o : Option Row) → ◌≡◌ {A = Answer (Option ℕ)} (fault_if 17 3 k (root_taken o ds) >>= λ _. ok none) (fault_if 17 3 k (root_taken o ds') >>= λ _. ok none)
      go none = refl
      go (some r) = ap (λ (b : Bool). fault_if 17 3 k (not b) >>= λ _. ok none) (h r.field.id)
  placed_same k x (some p) = go (look_name t p)
    where
      joins : List ℕ → Receiver → Answer (Option ℕ)
      joins e s = fault_if 22 3 k (among s.id (gone_columns e t)) >>= λ _. fault_if 17 3 k (not (among s.id e) && member_taken s.members x e) >>= λ _. ok (some s.id)

      met : (o : Option Receiver) → (demand 16 3 k o >>= joins ds) ≡ (demand 16 3 k o >>= joins ds')
      met none = refl
      met (some s) = rw (gone_same id_of kind_of ds ds' h true t, h s.id, member_same s.members x)

      go : (o : Option Row) → parent_place t o ds k x ≡ parent_place t o ds' k x
      go none = refl
      go (some r) = met (receiver r.field r.inside r.field.kind)

  one_same : (last k : ℕ) (p : Option (List ℕ)) (f : Field) (m : Forest Field) → one_placed t ds last k p f m ≡ one_placed t ds' last k p f m
  unfolding one_placed
  one_same last k p f m = rw (placed_same k f.name p)

  none_same : (last k : ℕ) (a : Forest Field) → placed_all t ds last k [] a ≡ placed_all t ds' last k [] a
  unfolding placed_all
  none_same last k a = refl

  empty_same : (last k : ℕ) (p : Option (List ℕ)) (ps : List (Option (List ℕ))) → placed_all t ds last k (p ∷ ps) empty ≡ placed_all t ds' last k (p ∷ ps) empty
  unfolding placed_all
  empty_same last k p ps = refl

  all_same : (last k : ℕ) (ps : List (Option (List ℕ))) (a : Forest Field) → placed_all t ds last k ps a ≡ placed_all t ds' last k ps a
  all_same last k [] a = none_same last k a
  all_same last k (p ∷ ps) empty = empty_same last k p ps
  all_same last k (p ∷ ps) (node f m n) =
      placed_step t ds last k p ps f m n
      ∙ ap (λ (z : Answer (Option ℕ)). z >>= λ q. placed_all t ds (suc (last + size m)) (suc k) ps n >>= λ r. ok (joined q r)) (one_same last k p f m)
      ∙ ap (λ (z : Answer Placed). one_placed t ds' last k p f m >>= λ q. z >>= λ r. ok (joined q r)) (all_same (suc (last + size m)) (suc k) ps n)
      ∙ sym (placed_step t ds' last k p ps f m n)

module _ (t : Forest Field) (ids request deletions : List ℕ) (d : ℕ) (added additions : List ℕ) (total m last : ℕ) (c : Check) (bits : List ℕ) (dc : DropsAll t ids request deletions d c bits) where
  pub changes_stop : (x : Refusal) (us : List Under) (fs st : List ℕ) → c ≡ Err x → Decides t ids request deletions d added additions total m last (Err x) bits us fs st
  unfolding changes
  changes_stop x us fs st q =
      let e = (rw q at dc).by in
      record { by = bind_not _ _ x.number x.list x.place e; dropped = λ i z. absurd (differ i z) }
    where
      differ : (i : ℕ) → Err x ≡ Ok i → ⊥
      differ i z = let y : ◌≡◌ {A = ℕ} 0 1 = cc in omega arith

  pub changes_go : (s : Dropped) (r : Decided) (kept : List ℕ) (us : List Under) (fs st : List ℕ) → c ≡ (Ok tt) → Gathered bits d s → PlacesAll t (dropped_ids s) request added additions total m last r us fs st → kept ≡ bits → Decides t ids request deletions d added additions total m last r kept us fs st
  unfolding changes all_placed
  changes_go s r kept us fs st q g p k =
      let e = (rw q at dc).by in
      record {
        by = subst (λ (z : Answer Placed). PlacesBy r z request added total m last us fs st) (all_same t (dropped_ids s) (row_ids bits d) g.holds last 0 _ _ ∙ sym (bind_is _ _ (row_ids bits d) e)) p.by;
        dropped = λ i z. rw k e;
      }
