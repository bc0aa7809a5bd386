-- Every addition of an accepted update stands in the answer, and no other id is consumed. What receives an addition
-- stays (Receiving.antt of laws), so the rebuild comes to its open members and puts the addition behind them. By
-- weights of ids (Weighing.antt there) nothing vanishes, and what goes is what the answer leaves out.
use Prim.Native.Nat.{ℕ, zero, suc}
use mathlib.Core.Path.{◌≡◌, refl, sym, ap, subst, ◌∙◌}
use mathlib.Core.Logic.{inl, inr, ⊎_elim}
use mathlib.Core.Bool.{Bool, true, false, cond}
use mathlib.Core.List.{List, [], ◌∷◌, ◌++◌, map}
use mathlib.Core.Option.{Option, none, some}
use native.Mathlib.Omega.{arith}
use lib.Dec.{eqb}
use lib.ListN.{length}
use Rattle.paper.specs.Answer.{ok}
use Rattle.paper.specs.Forest.{Forest, empty, node, size, ◌then◌}
use Rattle.paper.specs.Field.{Field, id_of, kind_of, is_struct}
use Rattle.paper.specs.Sound.{ids, within}
use Rattle.paper.specs.Gone.{dropped_member, gone, gone_columns}
use Rattle.paper.specs.Edits.{edited_tree}
use Rattle.paper.specs.Update.{Request, Schema, Plan, planned}
use Rattle.paper.specs.Rebuild.{Addition, same_parent, arriving, rebuilt, added, carried_out, update}
use Rattle.laws.specs.Members.{◌∈◌}
use Rattle.laws.proofs.Basics.{unbind, ok_is, passed, in_left, in_right, in_append, Distinct, eqb_self}
use Rattle.laws.proofs.Own.{sound_distinct}
use Rattle.laws.proofs.Receiving.{StructIn, struct_id, gone_node, Stays, AllStay, still_stay}
use Rattle.laws.proofs.Weighing.{sum, sum_append, loads, sum_ones, sum_rebuilt, size_rebuilt}
use Rattle.theorems.specs.Numbers.{range, tally}
use Rattle.theorems.specs.Columns.{Column, Stands, Found}
use Rattle.theorems.specs.Run.{Consumed, given}
use Rattle.theorems.specs.Standing.{Adds, AdditionsStand, ConsumedAreAdded, NothingVanishes, GoneIsLeftOut}
use Rattle.theorems.proofs.Counting.{in_range, tally_in, in_tally, tally_out, tally_distinct, once}
use Rattle.theorems.proofs.Columns.{stands_id, column_of, then_left, then_right}
use Rattle.theorems.proofs.Evolution.{from_found, planned_ids, update_consumes, update_follows}

-- ---- where an addition is received

same_self : (p : Option ℕ) → same_parent p p ≡ true
same_self none = refl
same_self (some x) = eqb_self x

module _ (ds : List ℕ) (adds : List (Addition Field)) where
  -- The siblings under a parent, rebuilt.
  abbrev again : Option ℕ → Bool → Forest Field → Forest Field
  again = rebuilt id_of kind_of ds adds

  stands_open : (q : Option ℕ) (t : Forest Field) (c : Column) → Stands q (arriving adds q) c
      → Stands q (again q true t) c
  unfolding rebuilt
  stands_open q empty c h = h
  stands_open q (node f m n) c h = go (dropped_member true ds f.id) (stands_open q n c h)
    where
      m' : Forest Field
      m' = again (some f.id) (is_struct f.kind) m

      go : (d : Bool) → Stands q (again q true n) c → Stands q (cond d (again q true n) (node f m' (again q true n))) c
      go true k = k
      go false k = inr (inr k)

  stands_under : (x : ℕ) (q : Option ℕ) (b : Bool) (t : Forest Field) (c : Column) → StructIn x t
      → (x ∈ map id_of (gone id_of kind_of ds b t) → ⊥) → Stands (some x) (arriving adds (some x)) c
      → Stands q (again q b t) c
  unfolding rebuilt
  stands_under x q b empty c h out k = absurd h
  stands_under x q b (node f m n) c h out k =
      go (dropped_member b ds f.id) h (rw (gone_node ds b f m n) at out)
      (λ i o. stands_under x (some f.id) (is_struct f.kind) m c i o k) (λ i o. stands_under x q b n c i o k)
    where
      gm : List ℕ
      gm = map id_of (gone id_of kind_of ds (is_struct f.kind) m)

      gn : List ℕ
      gn = map id_of (gone id_of kind_of ds b n)

      m' : Forest Field
      m' = again (some f.id) (is_struct f.kind) m

      go : (d : Bool) → StructIn x (node f m n) → (x ∈ (cond d (f.id ∷ ids m) gm ++ gn) → ⊥)
          → (StructIn x m → (x ∈ gm → ⊥) → Stands (some f.id) m' c)
          → (StructIn x n → (x ∈ gn → ⊥) → Stands q (again q b n) c)
          → Stands q (cond d (again q b n) (node f m' (again q b n))) c
      go true (inl e) o below beside = absurd (o (inl (sym e.0)))
      go true (inr (inl i)) o below beside = absurd (o (inr (in_left x (ids m) gn (struct_id x m i))))
      go true (inr (inr i)) o below beside = beside i (λ z. o (inr (in_right x (ids m) gn z)))
      go false (inl e) o below beside =
          inr (inl (rw (e.0, e.1) (stands_open (some x) m c k)))
      go false (inr (inl i)) o below beside = inr (inl (below i (λ z. o (in_left x gm gn z))))
      go false (inr (inr i)) o below beside = inr (inr (beside i (λ z. o (in_right x gm gn z))))

  stays_stands : (t : Forest Field) (p : Option ℕ) (c : Column) → Stays t ds p → Stands p (arriving adds p) c
      → Stands none (again none true t) c
  stays_stands t none c h k = stands_open none t c k
  stays_stands t (some x) c h k = stands_under x none true t c h.0 h.1 k

-- A column of the additions arrives under a parent that stays.
arrives : (t : Forest Field) (ds : List ℕ) (adds : List (Addition Field)) (c : Column) → AllStay t ds adds
    → Adds adds c → (p : Option ℕ) × Stays t ds p × Stands p (arriving adds p) c
unfolding arriving
arrives t ds [] c s h = absurd h
arrives t ds (a ∷ rest) c s (inl h) =
    (a.parent, s.0, rw (same_self a.parent) (then_left a.parent a.tree (arriving rest a.parent) c h))
arrives t ds (a ∷ rest) c s (inr h) =
    let r = arrives t ds rest c s.1 h in
    (r.0, r.1, go r.0 (same_parent a.parent r.0) r.2)
  where
    go : (p : Option ℕ) (b : Bool) → Stands p (arriving rest p) c
        → Stands p (cond b (a.tree then arriving rest p) (arriving rest p)) c
    go p true k = then_right p a.tree (arriving rest p) c k
    go p false k = k

-- ---- an accepted update

-- The base has no id twice, and the answer is the base, edited and rebuilt, within the limits.
pub record Accepted (s : Schema) (q : Request) (p : Plan) (u : Schema) : Type 0 where
  pub distinct : Distinct (ids s.tree)
  pub tree : u.tree ≡ rebuilt id_of kind_of p.dropped (added s q p) none true (edited_tree p.edits s.tree)
  pub limits : within u.tree ≡ true

pub accepted : (s : Schema) (q : Request) (p : Plan) (u : Schema) → planned s q ≡ ok p → update s q ≡ ok u
    → Accepted s q p u
unfolding update planned carried_out
accepted s q p u e₁ e =
    unbind _ _ e λ p' e₂ a. unbind _ _ a λ _ f a₁. unbind _ _ a₁ λ _ _ a₂. unbind _ _ e₁ λ _ e₃ _.
    let same : p' ≡ p = ok_is (sym e₂ ∙ e₁) in
    record {
      distinct = sound_distinct 0 s.tree q.identifiers e₃;
      tree = sym (ap (λ (x : Schema). x.tree) (ok_is a₂))
          ∙ ap (λ (x : Plan). rebuilt id_of kind_of x.dropped (added s q x) none true (edited_tree x.edits s.tree))
          same;
      limits = subst (λ (x : Schema). within x.tree ≡ true) (ok_is a₂) (passed 19 4 0 (within _) f);
    }

pub additions_stand : (s : Schema) (q : Request) (p : Plan) (u : Schema) → planned s q ≡ ok p → update s q ≡ ok u
    → AdditionsStand s q p u
additions_stand s q p u e₁ e c h =
    let t = edited_tree p.edits s.tree in
    let r = arrives t p.dropped (added s q p) c (still_stay s q p e₁) h in
    rw (accepted s q p u e₁ e).tree (stays_stands p.dropped (added s q p) t r.0 c r.1 r.2)

-- ---- the ids consumed

-- The column of an id that was given.
given_column : (adds : List (Addition Field)) (x : ℕ) → x ∈ given adds
    → (c : Column) × Adds adds c × (c.field.id ≡ x)
given_column [] x h = absurd h
given_column (a ∷ rest) x h =
    ⊎_elim
    (λ k. let o = column_of a.parent a.tree x k in (o.column, inl o.stands, o.its_id))
    (λ k. let r = given_column rest x k in (r.0, inr r.1, r.2))
    (in_append x (ids a.tree) (given rest) h)

pub consumed_added : (s : Schema) (q : Request) (p : Plan) (u : Schema) → planned s q ≡ ok p → update s q ≡ ok u
    → ConsumedAreAdded s q p u
consumed_added s q p u e₁ e =
    let o = update_consumes s q p u e₁ e in
    let l = o.last_id in
    let to : (x : ℕ) → Consumed s u x → x ∈ given (added s q p) =
    λ x h.
    let low = h.0 in
    let high = h.1 in
    let z = (once x (suc s.last) (size q.added)).inside (omega arith) (omega arith) in
    rw o.ids_given (in_tally x (range (suc s.last) (size q.added)) (omega arith)) in
    let stands : (x : ℕ) → x ∈ given (added s q p) → Found u x =
    λ x h.
    let c = given_column (added s q p) x h in
    let has = additions_stand s q p u e₁ e c.0 c.1 in
    subst (λ (y : ℕ). Found u y) c.2 (stands_id u.tree none c.0 has) in
    let from : (x : ℕ) → x ∈ given (added s q p) → Consumed s u x =
    λ x h.
    let b = in_range x (suc s.last) (size q.added) (rw o.ids_given at h) in
    (omega arith, omega arith) in
    record {
      of_added = λ x. (λ h. (stands x (to x h), to x h), λ h. from x h.1);
      new = λ bounded x. (
        λ h. (stands x (to x h), λ k. let b = bounded x k in let low = h.0 in omega arith),
        λ h.
            let d = (accepted s q p u e₁ e).distinct in
            let f = update_follows s q u (record { distinct = d; bounded = bounded }) e in
            let c = column_of none u.tree x h.0 in
            let i = c.its_id in
            ⊎_elim
            (λ k. absurd (h.1 (subst (λ (y : ℕ). Found s y) i (from_found _ s c.column k))))
            (λ k. (omega arith, f.good.bounded x h.0))
            (f.keeps c.column c.stands),
      );
    }

-- ---- nothing vanishes

sum_given : (w : ℕ → ℕ) (adds : List (Addition Field)) → sum w (given adds) ≡ loads w adds
sum_given w [] = refl
sum_given w (a ∷ rest) = sum_append w (ids a.tree) (given rest) ∙ rw (sum_given w rest)

-- As many records are added as ids are given: one for each record of the additions tree.
pub loads_added : (s : Schema) (q : Request) (p : Plan) → planned s q ≡ ok p
    → loads (λ _. 1) (added s q p) ≡ size q.added
loads_added s q p e =
    sym (sum_given (λ _. 1) (added s q p)) ∙ sum_ones (given (added s q p)) ∙ ap length (planned_ids s q p e).0
    ∙ length_range (suc s.last) (size q.added)
  where
    length_range : (c n : ℕ) → length (range c n) ≡ n
    length_range c zero = refl
    length_range c (suc n) = ap suc (length_range (suc c) n)

module _ (s : Schema) (q : Request) (p : Plan) (u : Schema) (e₁ : planned s q ≡ ok p) (e : update s q ≡ ok u) where
  -- By weights of one each; and of one for an id, none for the others.
  pub nothing_vanishes : NothingVanishes s q p u
  nothing_vanishes =
      let tree = (accepted s q p u e₁ e).tree in
      record {
        as_many =
            let r = rw (← tree) at (size_rebuilt s q p e₁) in
            let l = loads_added s q p e₁ in
            omega arith;
        each_id = λ x.
            let r = rw (← tree) at (sum_rebuilt (λ y. cond (eqb x y) 1 0) s q p e₁) in
            let a = sum_tally x (ids u.tree) in
            let b = sum_tally x (gone_columns p.dropped s.tree) in
            let c = sum_tally x (ids s.tree) in
            let d = sum_given (λ y. cond (eqb x y) 1 0) (added s q p) in
            let f = sum_tally x (given (added s q p)) in
            omega arith;
      }
    where
      sum_tally : (x : ℕ) (l : List ℕ) → sum (λ y. cond (eqb x y) 1 0) l ≡ tally x l
      sum_tally x [] = refl
      sum_tally x (y ∷ l) = let r = sum_tally x l in omega arith

  -- An id of the base stands there once, so it is counted once in what goes and the answer.
  pub gone_left_out : GoneIsLeftOut s q p u
  gone_left_out x found out =
      let r = nothing_vanishes.each_id x in
      let there = tally_in x (ids s.tree) found in
      let one = tally_distinct x (ids s.tree) (accepted s q p u e₁ e).distinct in
      let not_given = tally_out x (given (added s q p)) out in (
        λ h k.
            let g = tally_in x (gone_columns p.dropped s.tree) h in
            let f = tally_in x (ids u.tree) k in
            omega arith,
        λ missing.
            let f = tally_out x (ids u.tree) missing in
            in_tally x (gone_columns p.dropped s.tree) (omega arith),
      )
