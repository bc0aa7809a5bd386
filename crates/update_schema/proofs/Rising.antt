-- The base's slots are the plan's, so the index has the place above each.
use Prim.Native.Nat.{ℕ, suc, ◌+◌}
use mathlib.Core.Path.{◌≡◌, refl, sym, ap, subst, ◌∙◌}
use mathlib.Core.Bool.{true}
use mathlib.Core.List.{List, map, map-map}
use native.Mathlib.Omega.{arith}
use lib.ListN.{get_or}
use Rattle.paper.specs.Answer.{Answer}
use Rattle.paper.specs.Forest.{Forest, empty, node, size, preorder, mapped}
use Rattle.paper.specs.Field.{id_of}
use Rattle.paper.specs.Bytes.{kids_at, field_at}
use Rattle.paper.specs.Decode.{fields}
use Rattle.paper.specs.Layout.{Part, roots}
use Rattle.paper.specs.Sound.{ids}
use Rattle.laws.proofs.Basics.{Distinct}
use Rattle.laws.proofs.Own.{ids_preorder}
use Rattle.laws.proofs.Preorder.{preorder_mapped}
use Rattle.tree.specs.Read.{got, fine}
use Rattle.record.specs.Trees.{Trees}
use Rattle.plan.specs.Plan.{kids_in, plan_fields}
use Rattle.plan.specs.Walk.{trees_of}
use Rattle.plan.proofs.Standing.{field_in, plan_is}
use Rattle.plan.proofs.Walks.{Numbered, all_numbered, roots_are}
use Rattle.index_names.specs.Full.{ups}
use Rattle.index_names.specs.Told.{Raised}
use Rattle.update_gone.specs.Gone.{base_slots, slot_id, Rises}
use Rattle.update_schema.specs.Base.{Based}

-- Trees of slots that are numbered alike are the same where what stands at the slots has one shape.
same_slots : {A : Type 0} (f g : ℕ → A) (k : ℕ) (t u : Forest ℕ) → Numbered k t → Numbered k u → mapped f t ≡ mapped g u → t ≡ u
unfolding mapped
same_slots f g k empty empty nt nu e = refl
same_slots f g k empty (node j m u) nt nu e = absurd (let z : ◌≡◌ {A = ℕ} 0 1 = cc in omega arith)
same_slots f g k (node i m t) empty nt nu e = absurd (let z : ◌≡◌ {A = ℕ} 0 1 = cc in omega arith)
same_slots f g k (node i m t) (node j m' u) nt nu e =
    let em : mapped f m ≡ mapped g m' = cc in
    let et : mapped f t ≡ mapped g u = cc in
    let sm = same_slots f g (suc k) m m' nt.1.0 nu.1.0 em in
    let st = same_slots f g (suc k + size m) t u nt.1.1 (rw sm nu.1.1) et in
    rw (nt.0, nu.0, sm, st)

module _ (l : Trees) (xs is ks : List ℕ) (n : ℕ) (b : Based l xs is ks n) where
  is_read : fine (roots 0 (kids_at l.records) n n 0) ≡ true
  is_read = rw b.read

  -- the plan's tree is the records'
  pub base_tree : plan_fields l xs is ks n ≡ fields l.pool l.records (base_slots l.records n)
  base_tree = b.tree ∙ ap (λ (x : Answer Part). fields l.pool l.records (got x).trees) (sym b.read)

  slots_are : trees_of (kids_in ks) n ≡ base_slots l.records n
  unfolding fields
  slots_are =
      same_slots (field_in l xs is) (field_at l.pool l.records) 0 (trees_of (kids_in ks) n) (base_slots l.records n)
      (all_numbered (kids_in ks) n) (rw (roots_are 0 (kids_at l.records) n is_read) (all_numbered (kids_at l.records) n))
      (sym (plan_is l xs is ks n b.plan) ∙ base_tree)

  ids_are : ids (plan_fields l xs is ks n) ≡ map (slot_id l.records) (preorder (base_slots l.records n))
  unfolding fields field_at
  ids_are =
      let field = field_at l.pool l.records in
      let t = base_slots l.records n in
      ap ids base_tree ∙ ids_preorder (mapped field t) ∙ ap (map id_of) (preorder_mapped field t) ∙ map-map id_of field (preorder t)

  pub rises : (us : List ℕ) → Raised ks n us → Rises l.records n us
  rises us r =
      record {
        whole = b.whole;
        small = b.plan.few;
        read = is_read;
        above = λ k h. r.above k h ∙ ap (λ (t : Forest ℕ). get_or (ups 0 t) k 0) slots_are;
        own = subst (λ (z : List ℕ). Distinct z) ids_are b.own;
      }
