-- One addition: its own rules, its place, its ids, in the paper's order.
use Prim.Native.Nat.{ℕ, suc, ◌+◌, ◌<◌}
use mathlib.Core.Path.{◌≡◌, refl, sym, ◌∙◌}
use mathlib.Core.Bool.{Bool, true, false, not, ◌&&◌, cond}
use mathlib.Core.List.{List}
use mathlib.Core.Option.{Option, none, some}
use native.Mathlib.Omega.{arith}
use lib.Dec.{eqb, ltb}
use borrow.Author.Tests.{ltb-false}
use Rattle.paper.specs.Answer.{Answer, ok, refused, ◌>>=◌, among, fault_if}
use Rattle.paper.specs.Forest.{Forest, size}
use Rattle.paper.specs.Field.{Field, highest}
use Rattle.paper.specs.Rows.{Row, look_name}
use Rattle.paper.specs.Bytes.{turned, rec_at, kids_at, field_at, name_of}
use Rattle.paper.specs.Decode.{fields}
use Rattle.paper.specs.Lists.{parent_path}
use Rattle.paper.specs.Gone.{gone_columns}
use Rattle.paper.specs.Update.{receiver, root_taken, member_taken, placed}
use Rattle.laws.proofs.Words.{turned_twice, turned_below}
use Rattle.laws.proofs.Fitting.{size_mapped}
use Rattle.tree.specs.Read.{part}
use Rattle.record.specs.declared.Refusal.{Refusal}
use Rattle.record.specs.Answers.{Check}
use Rattle.std.specs.Prelude.{Ok, Err, Some, None}
use Rattle.std.proofs.lemmas.Option.{none-some}
use Rattle.update_rebuild.specs.Answers.{Under}
use Rattle.update_rebuild.specs.Planned.{Word}
use Rattle.record.specs.Says.{refusal_of, checked}
use Rattle.record.proofs.Testing.{checked_refused, checked_ok}
use Rattle.record.specs.Trees.{Trees}
use Rattle.plan.specs.Plan.{plan_fields}
use Rattle.update_rebuild.specs.Sources.{parent}
use Rattle.update_parents.specs.Target.{receiving, receiver_at, members_at}
use Rattle.update_decide.specs.Answers.{Going}
use Rattle.update_decide.specs.Entry.{unbarred, goes, parent_place}
use Rattle.update_schema.specs.Answers.{Spotted}
use Rattle.update_schema.specs.Base.{Based}
use Rattle.update_schema.specs.Additions.{column_size, numbered, one_placed, OneSpotted}
use Rattle.update_schema.proofs.Found.{row_stands}

-- ---- the id of a place has 32 bits

unfoldable Small : Answer (Option ℕ) → Type 0
Small (ok none) = Unit {0}
Small (ok (some i)) = i < 4294967296
Small (refused n l p) = Unit {0}

word_some : (x y : ℕ) → y < 4294967296 → ◌≡◌ {A = Under} (Some y) (Some x) → x < 4294967296
word_some x y h e = let z : y ≡ x = cc in omega arith

under_is : (a : Answer (Option ℕ)) (u : Under) → Small a → Ok u ≡ goes a → (a ≡ ok (parent u)) × Word u
unfolding Small goes parent
under_is (ok none) u h e = let z : u ≡ None = cc in rw z (refl, λ x q. absurd (none-some x q))
under_is (ok (some i)) u h e = let z : u ≡ Some (turned i) = cc in rw z (rw (turned_twice i h) refl, λ x q. word_some x (turned i) (turned_below i) q)
under_is (refused n l p) u h e = let y : ◌≡◌ {A = ℕ} 0 1 = cc in absurd (omega arith)

under_not : (a : Answer (Option ℕ)) (f : Refusal) → Err f ≡ goes a → a ≡ refused f.number f.list f.place
unfolding goes
under_not (ok none) f e = cc
under_not (ok (some i)) f e = cc
under_not (refused n l p) f e = let z : f ≡ refusal_of n l p = cc in rw z

module _ (l : Trees) (xs is ks : List ℕ) (n : ℕ) (b : Based l xs is ks n) (ds : List ℕ) (k : ℕ) (x : List ℕ) where
  small_place : (p : Option (List ℕ)) → Small (placed (plan_fields l xs is ks n) ds k x p)
  unfolding placed parent_place ◌>>=◌ Small
  small_place none = go (root_taken (look_name (plan_fields l xs is ks n) x) ds)
    where
      go : (c : Bool) → Small (fault_if 17 3 k c >>= λ _. ok none)
      go true = tt
      go false = tt
  small_place (some p) = go (look_name (plan_fields l xs is ks n) p) refl
    where
      joined : (c d : Bool) (i : ℕ) → i < 4294967296 → Small (fault_if 22 3 k c >>= λ _. fault_if 17 3 k d >>= λ _. ok (some i))
      joined true d i h = tt
      joined false true i h = tt
      joined false false i h = h

      met : (o : Option ℕ) (r : Row) → receiver r.field r.inside r.field.kind ≡ receiver_at l.pool l.records n o
          → Small (parent_place (plan_fields l xs is ks n) (some r) ds k x)
      met none r e = rw e tt
      met (some j) r e = rw e (joined (among (turned (rec_at l.records j).id) (gone_columns ds (plan_fields l xs is ks n))) (not (among (turned (rec_at l.records j).id) ds) && member_taken (members_at l.pool l.records n j) x ds) (turned (rec_at l.records j).id) (turned_below (rec_at l.records j).id))

      go : (o : Option Row) → look_name (plan_fields l xs is ks n) p ≡ o → Small (parent_place (plan_fields l xs is ks n) o ds k x)
      go none e = tt
      go (some r) e = met (receiving l.records n r.slot) r (row_stands l xs is ks n b p r e)

-- ---- the steps

-- the paper's step, by 13 and 14 together
one_first : (t : Forest Field) (ds request added : List ℕ) (last k slot : ℕ) (p : Option (List ℕ)) (m : Forest Field) → one_placed t ds last k p (field_at request added slot) m
    ≡ (unbarred request added slot k >>= λ _. placed t ds k (name_of request added slot) p >>= λ q. fault_if 18 3 k (ltb highest (suc (last + size m))) >>= λ _. ok q)
unfolding one_placed unbarred field_at ◌>>=◌
one_first t ds request added last k slot p m = go (fault_if 13 3 k (among 46 (name_of request added slot)))
  where
    go : (x : Answer (Unit {0})) → (x >>= λ _. fault_if 14 3 k (eqb (rec_at added slot).flags 1) >>= λ _. placed t ds k (name_of request added slot) p >>= λ q. fault_if 18 3 k (ltb highest (suc (last + size m))) >>= λ _. ok q)
        ≡ ((x >>= λ _. fault_if 14 3 k (eqb (rec_at added slot).flags 1)) >>= λ _. placed t ds k (name_of request added slot) p >>= λ q. fault_if 18 3 k (ltb highest (suc (last + size m))) >>= λ _. ok q)
    go (ok tt) = refl
    go (refused i j s) = refl

module _ (l : Trees) (xs is ks : List ℕ) (n : ℕ) (b : Based l xs is ks n) (ds additions : List ℕ) (m last k slot : ℕ) (w : Check) (ew : w ≡ checked (unbarred l.request_pool l.added_records slot k)) where
  abbrev inner : Forest Field
  inner = fields l.request_pool l.added_records (part 1 (kids_at l.added_records) m 15 (kids_at l.added_records slot) (slot + 1)).trees

  pub spot_barred : (f : Refusal) → w ≡ Err f → OneSpotted (plan_fields l xs is ks n) ds l.request_pool l.added_records additions m last k slot (Err f)
  unfolding ◌>>=◌
  spot_barred f q = record { by = one_first (plan_fields l xs is ks n) ds l.request_pool l.added_records last k slot (parent_path l.request_pool additions k) inner ∙ rw (checked_refused (unbarred l.request_pool l.added_records slot k) w f ew q) }

  module _ (ef : w ≡ (Ok tt)) (g : Going) (eg : g ≡ goes (placed (plan_fields l xs is ks n) ds k (name_of l.request_pool l.added_records slot) (parent_path l.request_pool additions k))) where
    pub spot_nowhere : (f : Refusal) → g ≡ Err f → OneSpotted (plan_fields l xs is ks n) ds l.request_pool l.added_records additions m last k slot (Err f)
    unfolding ◌>>=◌
    spot_nowhere f q =
        record {
          by = one_first (plan_fields l xs is ks n) ds l.request_pool l.added_records last k slot (parent_path l.request_pool additions k) inner
              ∙ rw (checked_ok (unbarred l.request_pool l.added_records slot k) w ew ef, under_not (placed (plan_fields l xs is ks n) ds k (name_of l.request_pool l.added_records slot) (parent_path l.request_pool additions k)) f (sym q ∙ eg));
        }

    module _ (u : Under) (q : g ≡ Ok u) where
      where_to : (placed (plan_fields l xs is ks n) ds k (name_of l.request_pool l.added_records slot) (parent_path l.request_pool additions k) ≡ ok (parent u)) × Word u
      where_to = under_is _ u (small_place l xs is ks n b ds k (name_of l.request_pool l.added_records slot) (parent_path l.request_pool additions k)) (sym q ∙ eg)

      size_is : suc (last + size inner) ≡ last + column_size l.added_records m slot
      unfolding column_size fields
      size_is = let e = size_mapped (field_at l.request_pool l.added_records) (part 1 (kids_at l.added_records) m 15 (kids_at l.added_records slot) (slot + 1)).trees in omega arith

      pub spot_goes : (r : Spotted) → r ≡ numbered u last k slot (column_size l.added_records m slot) → OneSpotted (plan_fields l xs is ks n) ds l.request_pool l.added_records additions m last k slot r
      unfolding numbered ◌>>=◌
      spot_goes r er = rw er (go (ltb highest (last + column_size l.added_records m slot)) refl (one_first (plan_fields l xs is ks n) ds l.request_pool l.added_records last k slot (parent_path l.request_pool additions k) inner ∙ rw (checked_ok (unbarred l.request_pool l.added_records slot k) w ew ef, where_to.0, size_is)))
        where
          go : (c : Bool) → ltb highest (last + column_size l.added_records m slot) ≡ c
              → one_placed (plan_fields l xs is ks n) ds last k (parent_path l.request_pool additions k) (field_at l.request_pool l.added_records slot) inner ≡ (fault_if 18 3 k c >>= λ _. ok (parent u))
              → OneSpotted (plan_fields l xs is ks n) ds l.request_pool l.added_records additions m last k slot (cond c (Err (refusal_of 18 3 k)) (Ok (record { under = u; start = turned (suc last); last = last + column_size l.added_records m slot; next = slot + column_size l.added_records m slot })))
          go true ec e = record { by = e }
          go false ec e = record { by = record { goes = e; under = where_to.1; start = refl; end = refl; most = let z = ltb-false highest (last + column_size l.added_records m slot) ec in omega arith; next = refl } }
