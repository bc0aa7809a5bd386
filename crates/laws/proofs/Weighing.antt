-- Nothing vanishes in the rebuild. As ids stand once, it comes once to what receives an addition; so weights of ids,
-- whatever they are, have one sum over the rebuilt tree and what goes, and over the base and what is added.
use Prim.Native.Nat.{ℕ, ◌+◌}
use mathlib.Core.Path.{◌≡◌, refl, sym, ap, subst, ◌∙◌}
use mathlib.Core.Logic.{◌⊎◌, inl, inr}
use mathlib.Core.Bool.{Bool, true, false, ◌&&◌, cond}
use mathlib.Core.List.{List, [], ◌∷◌, ◌++◌, map}
use mathlib.Core.Option.{Option, none, some}
use native.Mathlib.Omega.{arith}
use lib.ListN.{length, length-map}
use borrow.Author.Tests.{ne_eqb}
use Rattle.paper.specs.Answer.{ok}
use Rattle.paper.specs.Forest.{Forest, empty, node, size, preorder, ◌then◌}
use Rattle.paper.specs.Field.{Field, id_of, kind_of, is_struct}
use Rattle.paper.specs.Sound.{ids}
use Rattle.paper.specs.Gone.{dropped_member, gone, gone_columns}
use Rattle.paper.specs.Edits.{edited_tree}
use Rattle.paper.specs.Update.{Request, Schema, Plan, planned}
use Rattle.paper.specs.Rebuild.{Addition, same_parent, arriving, rebuilt, added}
use Rattle.laws.specs.Members.{◌∈◌}
use Rattle.laws.proofs.Basics.{unbind, none≢some, some_is, in_left, in_right, Apart, Distinct, distinct_append}
use Rattle.laws.proofs.Basics.{eqb_self}
use Rattle.laws.proofs.Preorder.{length_preorder}
use Rattle.laws.proofs.Own.{sound_distinct, ids_preorder}
use Rattle.laws.proofs.Receiving.{StructIn, struct_id, gone_node, Stays, AllStay, edited_ids, edited_gone, still_stay}

-- ---- the rebuild comes once to what receives an addition

same_not : (p : Option ℕ) (y : ℕ) → (p ≡ some y → ⊥) → same_parent p (some y) ≡ false
same_not none y d = refl
same_not (some x) y d = ne_eqb x y (λ e. d (ap some e))

module _ (ds : List ℕ) (p : Option ℕ) (load : ℕ) where
  -- What an addition under p brings, if it weighs `load`: that much at each end of p's open members.
  abbrev here : Option ℕ → Bool → ℕ
  here q b = cond (b && same_parent p q) load 0

  abbrev brought : Option ℕ → Bool → Forest Field → ℕ
  brought q b empty = here q b
  brought q b (node f m n) =
      cond (dropped_member b ds f.id) (brought q b n)
      (brought (some f.id) (is_struct f.kind) m + brought q b n)

  not_here : (q : Option ℕ) (b : Bool) → same_parent p q ≡ false → here q b ≡ 0
  not_here q true e = rw e
  not_here q false e = refl

  -- Where p is no record of the tree.
  brought_absent : (q : Option ℕ) (b : Bool) (t : Forest Field) → ((x : ℕ) → p ≡ some x → x ∈ ids t → ⊥)
      → brought q b t ≡ here q b
  unfolding ids
  brought_absent q b empty out = refl
  brought_absent q b (node f m n) out =
      go (dropped_member b ds f.id)
      (brought_absent (some f.id) (is_struct f.kind) m (λ x e h. out x e (inr (in_left x (ids m) (ids n) h))))
      (brought_absent q b n (λ x e h. out x e (inr (in_right x (ids m) (ids n) h))))
    where
      inside : ℕ
      inside = brought (some f.id) (is_struct f.kind) m

      beside : ℕ
      beside = brought q b n

      go : (d : Bool) → inside ≡ here (some f.id) (is_struct f.kind) → beside ≡ here q b
          → cond d beside (inside + beside) ≡ here q b
      go true hm hn = hn
      go false hm hn =
          let own = same_not p f.id (λ e. out f.id e (inl refl)) in
          let z = not_here (some f.id) (is_struct f.kind) own in
          omega arith

module _ (ds : List ℕ) (x load : ℕ) where
  none_brought : (q : Option ℕ) (b : Bool) (t : Forest Field) → (x ∈ ids t → ⊥)
      → brought ds (some x) load q b t ≡ here ds (some x) load q b
  none_brought q b t out =
      brought_absent ds (some x) load q b t (λ y e h. out (subst (λ (z : ℕ). z ∈ ids t) (sym (some_is e)) h))

  -- Where it is a struct that does not go.
  brought_once : (q : Option ℕ) (b : Bool) (t : Forest Field) → StructIn x t
      → (x ∈ map id_of (gone id_of kind_of ds b t) → ⊥) → Distinct (ids t) → same_parent (some x) q ≡ false
      → brought ds (some x) load q b t ≡ load
  unfolding ids
  brought_once q b empty h out u e = absurd h
  brought_once q b (node f m n) h out u e =
      go (dropped_member b ds f.id) h (rw (gone_node ds b f m n) at out)
      (λ i o. brought_once (some f.id) (is_struct f.kind) m i o split.0 (other (inl (struct_id x m i))))
      (λ i o. brought_once q b n i o split.1 e)
    where
      split : Distinct (ids m) × Distinct (ids n) × Apart (ids m) (ids n)
      split = distinct_append (ids m) (ids n) u.1

      gm : List ℕ
      gm = map id_of (gone id_of kind_of ds (is_struct f.kind) m)

      gn : List ℕ
      gn = map id_of (gone id_of kind_of ds b n)

      inside : ℕ
      inside = brought ds (some x) load (some f.id) (is_struct f.kind) m

      beside : ℕ
      beside = brought ds (some x) load q b n

      -- The node is another record, where x stands below or beside it;
      own : (x ∈ ids m) ⊎ (x ∈ ids n) → f.id ≡ x → ⊥
      own (inl h) k = u.0 (in_left f.id (ids m) (ids n) (rw k h))
      own (inr h) k = u.0 (in_right f.id (ids m) (ids n) (rw k h))

      other : (x ∈ ids m) ⊎ (x ∈ ids n) → same_parent (some x) (some f.id) ≡ false
      other h = same_not (some x) f.id (λ k. own h (sym (some_is k)))

      -- and then nothing comes where x does not stand.
      no_inside : (x ∈ ids m → ⊥) → x ∈ ids n → inside ≡ 0
      no_inside o h =
          none_brought (some f.id) (is_struct f.kind) m o
          ∙ not_here ds (some x) load (some f.id) (is_struct f.kind) (other (inr h))

      no_beside : (x ∈ ids n → ⊥) → beside ≡ 0
      no_beside o = none_brought q b n o ∙ not_here ds (some x) load q b e

      go : (d : Bool) → StructIn x (node f m n) → (x ∈ (cond d (f.id ∷ ids m) gm ++ gn) → ⊥)
          → (StructIn x m → (x ∈ gm → ⊥) → inside ≡ load) → (StructIn x n → (x ∈ gn → ⊥) → beside ≡ load)
          → cond d beside (inside + beside) ≡ load
      go true (inl k) o hm hn = absurd (o (inl (sym k.0)))
      go true (inr (inl i)) o hm hn = absurd (o (inr (in_left x (ids m) gn (struct_id x m i))))
      go true (inr (inr i)) o hm hn = hn i (λ z. o (inr (in_right x (ids m) gn z)))
      go false (inl k) o hm hn =
          let a = none_brought (some f.id) (is_struct f.kind) m (λ i. own (inl i) k.0) in
          let it : here ds (some x) load (some f.id) (is_struct f.kind) ≡ load = rw (k.1, k.0, eqb_self x) in
          let z = no_beside (λ i. own (inr i) k.0) in
          omega arith
      go false (inr (inl i)) o hm hn =
          let a = hm i (λ z. o (in_left x gm gn z)) in
          let z = no_beside (split.2 x (struct_id x m i)) in
          omega arith
      go false (inr (inr i)) o hm hn =
          let a = hn i (λ z. o (in_right x gm gn z)) in
          let z = no_inside (λ h. split.2 x h (struct_id x n i)) (struct_id x n i) in
          omega arith

stays_brings : (t : Forest Field) (ds : List ℕ) (p : Option ℕ) (load : ℕ) → Stays t ds p → Distinct (ids t)
    → brought ds p load none true t ≡ load
stays_brings t ds none load h u = brought_absent ds none load none true t (λ x e. absurd (none≢some e))
stays_brings t ds (some x) load h u = brought_once ds x load none true t h.0 h.1 u refl

-- ---- sums

module _ (w : ℕ → ℕ) where
  abbrev pub sum : List ℕ → ℕ
  sum [] = 0
  sum (x ∷ s) = w x + sum s

  pub sum_append : (s t : List ℕ) → sum (s ++ t) ≡ sum s + sum t
  sum_append [] t = omega arith
  sum_append (x ∷ s) t = let r = sum_append s t in omega arith

  -- What additions weigh.
  abbrev pub loads : List (Addition Field) → ℕ
  loads [] = 0
  loads (a ∷ rest) = sum (ids a.tree) + loads rest

  sum_then : (t u : Forest Field) → sum (ids (t then u)) ≡ sum (ids t) + sum (ids u)
  unfolding ids ◌then◌
  sum_then empty u = omega arith
  sum_then (node f m n) u =
      let r = sum_then n u in
      let a = sum_append (ids m) (ids n) in
      let b = sum_append (ids m) (ids (n then u)) in
      omega arith

  -- The weight of a node, once that of its parts is known.
  sum_node : (f : Field) (m n : Forest Field) → sum (ids (node f m n)) ≡ w f.id + (sum (ids m) + sum (ids n))
  unfolding ids
  sum_node f m n = let r = sum_append (ids m) (ids n) in omega arith

  module _ (ds : List ℕ) where
    abbrev again : List (Addition Field) → Option ℕ → Bool → Forest Field → Forest Field
    again = rebuilt id_of kind_of ds

    -- Without additions: what stays and what goes is what there was.
    sum_gone : (q : Option ℕ) (b : Bool) (t : Forest Field)
        → sum (ids (again [] q b t)) + sum (map id_of (gone id_of kind_of ds b t)) ≡ sum (ids t)
    unfolding rebuilt gone arriving ids
    sum_gone q true empty = refl
    sum_gone q false empty = refl
    sum_gone q b (node f m n) =
        rw (gone_node ds b f m n)
        (go (dropped_member b ds f.id) (sum_gone (some f.id) (is_struct f.kind) m) (sum_gone q b n))
      where
        m' : Forest Field
        m' = again [] (some f.id) (is_struct f.kind) m

        n' : Forest Field
        n' = again [] q b n

        gm : List ℕ
        gm = map id_of (gone id_of kind_of ds (is_struct f.kind) m)

        gn : List ℕ
        gn = map id_of (gone id_of kind_of ds b n)

        go : (d : Bool) → sum (ids m') + sum gm ≡ sum (ids m) → sum (ids n') + sum gn ≡ sum (ids n)
            → sum (ids (cond d n' (node f m' n'))) + sum (cond d (f.id ∷ ids m) gm ++ gn) ≡ sum (ids (node f m n))
        go true hm hn =
            let a = sum_append (f.id ∷ ids m) gn in
            let z = sum_node f m n in
            omega arith
        go false hm hn =
            let a = sum_append gm gn in
            let z = sum_node f m n in
            let z' = sum_node f m' n' in
            omega arith

    -- One addition more.
    module _ (a : Addition Field) (adds : List (Addition Field)) where
      abbrev brings : Option ℕ → Bool → Forest Field → ℕ
      brings = brought ds a.parent (sum (ids a.tree))

      sum_added : (q : Option ℕ) (b : Bool) (t : Forest Field)
          → sum (ids (again (a ∷ adds) q b t)) ≡ sum (ids (again adds q b t)) + brings q b t
      unfolding rebuilt arriving
      sum_added q true empty = go (same_parent a.parent q)
        where
          go : (d : Bool) → sum (ids (cond d (a.tree then arriving adds q) (arriving adds q)))
              ≡ sum (ids (arriving adds q)) + cond d (sum (ids a.tree)) 0
          go true = let r = sum_then a.tree (arriving adds q) in omega arith
          go false = omega arith
      sum_added q false empty = omega arith
      sum_added q b (node f m n) =
          go (dropped_member b ds f.id) (sum_added (some f.id) (is_struct f.kind) m) (sum_added q b n)
        where
          below : List (Addition Field) → Forest Field
          below s = again s (some f.id) (is_struct f.kind) m

          beside : List (Addition Field) → Forest Field
          beside s = again s q b n

          inside : ℕ
          inside = brings (some f.id) (is_struct f.kind) m

          go : (d : Bool) → sum (ids (below (a ∷ adds))) ≡ sum (ids (below adds)) + inside
              → sum (ids (beside (a ∷ adds))) ≡ sum (ids (beside adds)) + brings q b n
              → sum (ids (cond d (beside (a ∷ adds)) (node f (below (a ∷ adds)) (beside (a ∷ adds)))))
              ≡ sum (ids (cond d (beside adds) (node f (below adds) (beside adds))))
              + cond d (brings q b n) (inside + brings q b n)
          go true hm hn = hn
          go false hm hn =
              let z = sum_node f (below (a ∷ adds)) (beside (a ∷ adds)) in
              let z' = sum_node f (below adds) (beside adds) in
              omega arith

    -- All of them, each under a parent that stays.
    sum_all : (t : Forest Field) → Distinct (ids t) → (adds : List (Addition Field)) → AllStay t ds adds
        → sum (ids (again adds none true t)) + sum (gone_columns ds t) ≡ sum (ids t) + loads adds
    sum_all t u [] h = let r = sum_gone none true t in omega arith
    sum_all t u (a ∷ adds) h =
        let r = sum_all t u adds h.1 in
        let z = sum_added a adds none true t in
        let o = stays_brings t ds a.parent (sum (ids a.tree)) h.0 u in
        omega arith

-- ---- the rebuild of a plan

pub sum_rebuilt : (w : ℕ → ℕ) (s : Schema) (q : Request) (p : Plan) → planned s q ≡ ok p
    → sum w (ids (rebuilt id_of kind_of p.dropped (added s q p) none true (edited_tree p.edits s.tree)))
    + sum w (gone_columns p.dropped s.tree) ≡ sum w (ids s.tree) + loads w (added s q p)
unfolding planned
sum_rebuilt w s q p e =
    unbind _ _ e λ _ e₁ _.
    let t = edited_tree p.edits s.tree in
    let same = edited_ids p.edits s.tree in
    let d : Distinct (ids t) = rw same (sound_distinct 0 s.tree q.identifiers e₁) in
    let sums = sum_all w p.dropped t d (added s q p) (still_stay s q p e) in
    rw (same, edited_gone p.edits p.dropped s.tree) at sums

-- By weights of one each: as many records.
pub sum_ones : (l : List ℕ) → sum (λ _. 1) l ≡ length l
sum_ones [] = refl
sum_ones (x ∷ l) = let r = sum_ones l in omega arith

pub ones_size : (t : Forest Field) → sum (λ _. 1) (ids t) ≡ size t
ones_size t =
    rw (ids_preorder t) (sum_ones (map id_of (preorder t)) ∙ length-map (preorder t) id_of ∙ length_preorder t)

pub size_rebuilt : (s : Schema) (q : Request) (p : Plan) → planned s q ≡ ok p
    → size (rebuilt id_of kind_of p.dropped (added s q p) none true (edited_tree p.edits s.tree))
    + length (gone id_of kind_of p.dropped true s.tree) ≡ size s.tree + loads (λ _. 1) (added s q p)
size_rebuilt s q p e =
    let u = rebuilt id_of kind_of p.dropped (added s q p) none true (edited_tree p.edits s.tree) in
    let g = gone id_of kind_of p.dropped true s.tree in
    let r = sum_rebuilt (λ _. 1) s q p e in
    let left = sum_ones (map id_of g) ∙ length-map g id_of in
    rw (ones_size u, ones_size s.tree, left) at r
