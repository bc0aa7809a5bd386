-- What is kept of a row is what its first record keeps, then what the rest keeps. Rulesets: `single`, `going`, `typing`, `pairing`.
use mathlib.Core.Path.{◌≡◌, refl, sym, ap, ◌∙◌}
use mathlib.Core.Bool.{Bool, true, false, not, ◌||◌, true≢false}
use mathlib.Core.List.{List}
use mathlib.Core.Option.{Option, none, some}
use Prim.Native.Nat.{ℕ, zero, suc, ◌+◌, ◌-◌, ◌*◌, ◌<◌, ◌≤◌}
use native.Mathlib.Omega.{arith}
use Rattle.paper.specs.declared.Kind.{Kind}
use Rattle.paper.specs.declared.Kind.TheVariants.{Primitive, Structure, Listing, Mapping}
use Rattle.paper.specs.declared.Role.{Role}
use Rattle.paper.specs.declared.Role.TheVariants.{Member, Element, Key, Value}
use Rattle.paper.specs.Forest.{Forest, empty, node, size, siblings, mapped, ◌then◌}
use Rattle.paper.specs.Field.{first, is_struct, is_map}
use Rattle.paper.specs.Bytes.{kind_at, kids_at}
use Rattle.paper.specs.Layout.{Part}
use Rattle.paper.specs.Prune.{yielding, joined, keyed}
use Rattle.laws.proofs.Fitting.{size_mapped, siblings_mapped}
use Rattle.laws.proofs.Preorder.{size_then, siblings_then}
use Rattle.laws.proofs.Written.{siblings_size}
use Rattle.plan.specs.Table.{LaidIn}
use Rattle.tree_walk.specs.There.{row_of, There}
use Rattle.tree_walk.proofs.Standing.{none_there, there_full, there_past, split, level_left, record_left, inner_there, rest_there, rest_next, inner_past}
use Rattle.prune_columns.specs.declared.Step.{Step}
use Rattle.prune_columns.specs.Split.{is_nested, held, projected}
use Rattle.prune_columns.specs.Projected.{marked, Planned, Row, Kept, Spot, Behind, tree_at, yield_at, KeptWhole, KeptYield, KeptInside, KeptOne, Span, Copied, Stored}
use Rattle.plan.specs.Sources.{own_source}
use Rattle.plan.proofs.Laying.{laid_none, laid_then, laid_last}
use Rattle.prune_columns.proofs.Tables.{moved, laid_before}
use Rattle.prune_columns.proofs.Planning.{copied_planned}
use Rattle.plan.specs.declared.PlanRows.{PlanRows}

-- ---- forests

mapped_then : {A B : Type 0} (g : A → B) (t u : Forest A) → mapped g (t then u) ≡ (mapped g t then mapped g u)
unfolding ◌then◌ mapped
mapped_then g empty u = refl
mapped_then g (node a m n) u = rw (mapped_then g n u)

no_siblings : {A : Type 0} (t : Forest A) → siblings t ≡ 0 → t ≡ empty
unfolding siblings
no_siblings empty e = refl
no_siblings (node a m n) e = absurd (omega arith)

keyed_filled : (b : Bool) (a : ℕ) (m n t : Forest ℕ) → (siblings t ≡ 0 → ⊥) → keyed b a m n t ≡ (node a m empty then t)
unfolding siblings ◌then◌
keyed_filled b a m n empty e = absurd (e refl)
keyed_filled b a m n (node u v w) e = refl

module _ (picks : ℕ → Bool) (kind : ℕ → Kind) (full : Bool) where
  joined_then : (a : ℕ) (o : Option (Forest ℕ)) (u : Forest ℕ) → joined a o u ≡ (joined a o empty then u)
  unfolding ◌then◌
  joined_then a none u = refl
  joined_then a (some m) u = refl

  member_node : (a : ℕ) (m n : Forest ℕ) → projected picks kind full Member (node a m n) ≡ (projected picks kind full Member (node a m empty) then projected picks kind full Member n)
  unfolding projected
  member_node a m n = joined_then a (held full (picks a) (kind a) m (projected picks kind full (first (kind a)) m)) (projected picks kind full Member n)

  as_element : (t : Forest ℕ) → projected picks kind full Element t ≡ projected picks kind full Member t
  unfolding projected
  as_element empty = refl
  as_element (node a m n) = rw (as_element n)

  as_value : (t : Forest ℕ) → projected picks kind full Value t ≡ projected picks kind full Member t
  unfolding projected
  as_value empty = refl
  as_value (node a m n) = rw (as_value n)

  key_node : (a : ℕ) (m n : Forest ℕ) → projected picks kind full Key (node a m n) ≡ keyed (picks a) a m n (projected picks kind full Member n)
  unfolding projected
  key_node a m n = rw (as_value n)

  one_node : (a : ℕ) (m : Forest ℕ) → projected picks kind full Member (node a m empty) ≡ joined a (held full (picks a) (kind a) m (projected picks kind full (first (kind a)) m)) empty
  unfolding projected
  one_node a m = refl

  none_kept : (r : Role) → projected picks kind full r empty ≡ empty
  unfolding projected
  none_kept r = refl

-- ---- plans

planned_none : (s : List ℕ) (k i : ℕ) (plan : PlanRows) → i ≤ k → Planned s empty k plan i (record { next = k; at = i; count = 0 }) plan
unfolding mapped size siblings
planned_none s k i plan l = record { next = refl; at = omega arith; count = refl; room = l; laid = laid_none i plan }

planned_then : (s : List ℕ) (t u : Forest ℕ) (past past' i : ℕ) (plan plan₁ plan₂ : PlanRows) (a r : Step) → Planned s t past plan i a plan₁ → Planned s u past' plan₁ a.at r plan₂
    → Planned s (t then u) past' plan i (record { next = r.next; at = r.at; count = a.count + r.count }) plan₂
planned_then s t u past past' i plan plan₁ plan₂ a r h g =
    let e = size_then t u in
    let f = siblings_then t u in
    let ha = h.at in
    let ga = g.at in
    let hc = h.count in
    let gc = g.count in
    let w : a.at ≡ i + size (mapped (own_source s) t) = rw (size_mapped (own_source s) t) ha in
    record {
      next = g.next;
      at = omega arith;
      count = omega arith;
      room = g.room;
      laid = rw (mapped_then (own_source s) t u) (laid_then (mapped (own_source s) t) (mapped (own_source s) u) i a.at plan plan₁ plan₂ w h.laid g.laid);
    }

-- A record put before what its type yielded.
planned_node : (s : List ℕ) (k : ℕ) (y : Forest ℕ) (past i : ℕ) (plan plan₁ plan₂ : PlanRows) (a r : Step) → Planned s y past plan (i + 1) a plan₁ → Stored s k a plan₁ i r plan₂ → Planned s (node k y empty) past plan i r plan₂
unfolding mapped size siblings
planned_node s k y past i plan plan₁ plan₂ a r h g =
    let ha = h.at in
    rw g.step
    (record {
      next = h.next;
      at = omega arith;
      count = refl;
      room = h.room;
      laid = rw g.planned (laid_last (own_source s k) (mapped (own_source s) y) i a.count plan plan₁ (h.count ∙ sym (siblings_mapped (own_source s) y)) h.laid);
    })

-- Nothing was planned.
planned_nothing : (s : List ℕ) (y : Forest ℕ) (past i j : ℕ) (plan plan₁ : PlanRows) (a : Step) → Planned s y past plan j a plan₁ → y ≡ empty → i ≤ a.next → Planned s empty past plan i (record { next = a.next; at = i; count = 0 }) plan₁
unfolding mapped size siblings
planned_nothing s y past i j plan plan₁ a h e l =
    let g = rw e at h in
    record { next = h.next; at = omega arith; count = refl; room = l; laid = moved i j plan plan₁ g.laid }

-- ---- one record

module _ (s marks : List ℕ) (full : Bool) (lv k i : ℕ) (h : Spot s lv k i) where
  pub inside_asks : Behind s lv k (i + 1)
  inside_asks = let r = h.room in record { record_in = h.record_in; inside = h.inside; room = omega arith }

  pub selected_kept : (plan plan₁ plan₂ : PlanRows) (a r : Step) → KeptInside s marks full lv k plan (i + 1) a plan₁ → Stored s k a plan₁ i r plan₂ → KeptYield s marks full lv k plan i r plan₂
  selected_kept plan plan₁ plan₂ a r p q = planned_node s k _ _ i plan plan₁ plan₂ a r p q

  module _ (x : Bool) (ex : x ≡ marked marks k) where
    inner : Forest ℕ
    inner = (row_of s lv (kids_at s k) (k + 1)).trees

    -- what is kept, by what is held
    held_one : (b : Bool) (o : Option (Forest ℕ)) → marked marks k ≡ b → held full b (kind_at s k) inner (yield_at s marks full lv k) ≡ o → projected (marked marks) (kind_at s) full Member (tree_at s lv k) ≡ joined k o empty
    unfolding inner
    held_one b o eb eo = rw (one_node (marked marks) (kind_at s) full k inner, eb, eo)

    module _ (kd : Kind) (ek : kd ≡ kind_at s k) (q : Bool) (eq : q ≡ is_struct kd) (e : x ≡ true) where
      pub field_whole : (plan plan₁ : PlanRows) (r : Step) → (full || not q) ≡ true → KeptWhole s lv k plan i r plan₁ → KeptOne s marks full lv k plan i r plan₁
      unfolding inner
      field_whole plan plan₁ r t p = rw (held_one true (some inner) (sym ex ∙ e) (all full q (sym (eq ∙ ap is_struct ek)) t)) p
        where
          all : (full q : Bool) → is_struct (kind_at s k) ≡ q → (full || not q) ≡ true → held full true (kind_at s k) inner (yield_at s marks full lv k) ≡ some inner
          all true q d t = refl
          all false true d t = absurd (true≢false (sym t))
          all false false d t = rw d

      pub field_struct : (plan plan₁ : PlanRows) (r : Step) → (full || not q) ≡ false → KeptYield s marks full lv k plan i r plan₁ → KeptOne s marks full lv k plan i r plan₁
      field_struct plan plan₁ r t p = rw (held_one true (some (yield_at s marks full lv k)) (sym ex ∙ e) (only full q (sym (eq ∙ ap is_struct ek)) t)) p
        where
          only : (full q : Bool) → is_struct (kind_at s k) ≡ q → (full || not q) ≡ false → held full true (kind_at s k) inner (yield_at s marks full lv k) ≡ some (yield_at s marks full lv k)
          only true q d t = absurd (true≢false t)
          only false true d t = rw d
          only false false d t = absurd (true≢false t)

    module _ (e : x ≡ false) (plan plan₁ : PlanRows) (a : Step) (p : KeptInside s marks full lv k plan (i + 1) a plan₁) where
      pub field_nothing : a.count ≡ 0 → KeptOne s marks full lv k plan i (record { next = a.next; at = i; count = 0 }) plan₁
      field_nothing z =
          let y = no_siblings (yield_at s marks full lv k) (sym p.count ∙ z) in
          let f = (there_full s lv (kids_at s k) (k + 1) h.inside).next in
          let n = p.next in
          let m = h.room in
          rw (held_one false none (sym ex ∙ e) (ap yielding y)) (planned_nothing s _ _ i (i + 1) plan plan₁ a p y (omega arith))

      pub field_yields : (plan₂ : PlanRows) (r : Step) → (a.count ≡ 0 → ⊥) → Stored s k a plan₁ i r plan₂ → KeptOne s marks full lv k plan i r plan₂
      unfolding siblings
      field_yields plan₂ r z q =
          rw (held_one false (some (yield_at s marks full lv k)) (sym ex ∙ e) (some_yield (yield_at s marks full lv k) (λ w. z (p.count ∙ w)))) (planned_node s k _ _ i plan plan₁ plan₂ a r p q)
        where
          some_yield : (t : Forest ℕ) → (siblings t ≡ 0 → ⊥) → yielding t ≡ some t
          some_yield empty d = absurd (d refl)
          some_yield (node u v w) d = refl

pub ruleset single = (inside_asks, selected_kept, field_whole, field_struct, field_nothing, field_yields)

-- ---- a row

pub row_spot : (s : List ℕ) (lv c k i : ℕ) → Row s lv c k i → 0 < c → Spot s (lv - 1) k i
row_spot s lv c k i h l = record { record_in = record_left s lv c k h.there l; inside = inner_there s lv c k h.there l (kids_at s k) refl; room = h.room }

-- Whatever plans the siblings that are left plans them all.
pub record Going (s marks : List ℕ) (full : Bool) (lv c k : ℕ) (plan : PlanRows) (i left next place kept : ℕ) (plan' : PlanRows) : Type 0 where
  pub row : Row s lv left next place
  pub few : kept ≤ place
  pub go : (r : Step) (plan₂ : PlanRows) → Kept s marks full Member lv left next plan' place r plan₂ → Kept s marks full Member lv c k plan i (record { next = r.next; at = r.at; count = kept + r.count }) plan₂

module _ (s marks : List ℕ) (full : Bool) (lv c k : ℕ) (plan : PlanRows) (i : ℕ) where
  pub going_starts : Row s lv c k i → Going s marks full lv c k plan i c k i 0 plan
  going_starts h =
      record { row = h; few = omega arith; go = λ r plan₂ p. let a = p.count in record { next = p.next; at = p.at; count = omega arith; room = p.room; laid = p.laid } }

  module _ (left next place kept : ℕ) (plan' : PlanRows) (h : Going s marks full lv c k plan i left next place kept plan') where
    pub going_done : left ≤ 0 → Kept s marks full Member lv c k plan i (record { next = next; at = place; count = kept }) plan'
    going_done l =
        let e : Kept s marks full Member lv left next plan' place (record { next = next; at = place; count = 0 }) plan'
        = rw (none_there s lv left next l, none_kept (marked marks) (kind_at s) full Member) (planned_none s next place plan' h.row.room) in
        let p = h.go (record { next = next; at = place; count = 0 }) plan' e in
        let a = p.count in
        record { next = p.next; at = p.at; count = omega arith; room = p.room; laid = p.laid }

    module _ (l : 0 < left) where
      pub going_level : 0 < lv
      going_level = level_left s lv left next h.row.there l

      -- a call for one sibling, by a measure of five to a level
      pub going_falls : (t : ℕ) → lv * 5 ≡ t → (lv - 1) * 5 + 4 < t
      going_falls t e = let a = level_left s lv left next h.row.there l in omega arith

      pub going_asks : Spot s (lv - 1) next place
      going_asks = row_spot s lv left next place h.row l

      module _ (plan₁ : PlanRows) (a : Step) (p : KeptOne s marks full (lv - 1) next plan' place a plan₁) where
        -- the first sibling, then the rest
        pub going_fits : kept + a.count < 4294967296
        going_fits =
            let b = there_past s (lv - 1) (kids_at s next) (next + 1) (inner_there s lv left next h.row.there l (kids_at s next) refl) in
            let d = h.row.there.few in
            let e = siblings_size (projected (marked marks) (kind_at s) full Member (tree_at s (lv - 1) next)) in
            let f = p.at in
            let g = p.count in
            let q = p.room in
            let n = p.next in
            let w = h.few in
            omega arith

        both : (row_of s lv left next).trees ≡ node next (row_of s (lv - 1) (kids_at s next) (next + 1)).trees (row_of s lv (left - 1) a.next).trees
        both = ap (λ (p : Part). p.trees) (split s lv left next h.row.there l (kids_at s next) refl) ∙ rw p.next

        pub going_goes : (left' : ℕ) → left' ≡ left - 1 → Going s marks full lv c k plan i left' a.next a.at (kept + a.count) plan₁
        going_goes left' el =
            let e = siblings_size (projected (marked marks) (kind_at s) full Member (tree_at s (lv - 1) next)) in
            let f = p.at in
            let g = p.count in
            let w = h.few in
            rw el record {
              row = record { there = rest_there s lv left next h.row.there l (kids_at s next) refl a.next p.next; room = p.room };
              few = omega arith;
              go = λ r plan₂ q.
                  let u = planned_then s _ _ _ _ place plan' plan₁ plan₂ a r p q in
                  let v : Kept s marks full Member lv left next plan' place (record { next = r.next; at = r.at; count = a.count + r.count }) plan₂
                  = rw (both, member_node (marked marks) (kind_at s) full next (row_of s (lv - 1) (kids_at s next) (next + 1)).trees (row_of s lv (left - 1) a.next).trees, ← (rest_next s lv left next h.row.there l (kids_at s next) refl a.next p.next)) u in
                  let z = h.go (record { next = r.next; at = r.at; count = a.count + r.count }) plan₂ v in
                  let y = z.count in
                  record { next = z.next; at = z.at; count = omega arith; room = z.room; laid = z.laid };
            }

pub ruleset going = (going_starts, going_done, going_level, going_falls, going_asks, going_fits, going_goes)

-- ---- a type

module _ (s marks : List ℕ) (full : Bool) (lv k i : ℕ) (h : Behind s lv k i) (m : ℕ) (em : m ≡ kids_at s k) where
  pub type_row : Row s lv m (k + 1) i
  type_row = record { there = rw em h.inside; room = h.room }

  pub type_none : (plan : PlanRows) → m ≡ 0 → KeptInside s marks full lv k plan i (record { next = k + 1; at = i; count = 0 }) plan
  type_none plan e = rw (none_there s lv (kids_at s k) (k + 1) (omega arith), none_kept (marked marks) (kind_at s) full (first (kind_at s k))) (planned_none s (k + 1) i plan h.room)

  pub type_some : (m ≡ 0 → ⊥) → 0 < m
  type_some e = go m e
    where
      go : (z : ℕ) → (z ≡ 0 → ⊥) → 0 < z
      go zero d = absurd (d refl)
      go (suc z) d = omega arith

  module _ (kd : Kind) (ek : kd ≡ kind_at s k) (q : Bool) (eq : q ≡ is_map kd) (plan plan₁ : PlanRows) (a : Step) where
    kept_as : (r : Role) → first kd ≡ r → Kept s marks full r lv m (k + 1) plan i a plan₁ → KeptInside s marks full lv k plan i a plan₁
    kept_as r er p = rw (← ek, er, ← em) p

    pub type_map : q ≡ true → Kept s marks full Key lv m (k + 1) plan i a plan₁ → KeptInside s marks full lv k plan i a plan₁
    type_map t p = kept_as Key (go kd (sym eq ∙ t)) p
      where
        go : (kd : Kind) → is_map kd ≡ true → first kd ≡ Key
        go Primitive d = absurd (true≢false (sym d))
        go Structure d = absurd (true≢false (sym d))
        go Listing d = absurd (true≢false (sym d))
        go Mapping d = refl

    module _ (f : q ≡ false) (n : Bool) (en : n ≡ is_nested kd) where
      pub type_list : n ≡ true → Kept s marks full Element lv m (k + 1) plan i a plan₁ → KeptInside s marks full lv k plan i a plan₁
      type_list t p = kept_as Element (go kd (sym eq ∙ f) (sym en ∙ t)) p
        where
          go : (kd : Kind) → is_map kd ≡ false → is_nested kd ≡ true → first kd ≡ Element
          go Primitive d e = absurd (true≢false (sym e))
          go Structure d e = absurd (true≢false (sym e))
          go Listing d e = refl
          go Mapping d e = absurd (true≢false d)

      pub type_fields : n ≡ false → Kept s marks full Member lv m (k + 1) plan i a plan₁ → KeptInside s marks full lv k plan i a plan₁
      type_fields t p = kept_as Member (go kd (sym en ∙ t)) p
        where
          go : (kd : Kind) → is_nested kd ≡ false → first kd ≡ Member
          go Primitive e = refl
          go Structure e = refl
          go Listing e = absurd (true≢false e)
          go Mapping e = absurd (true≢false e)

pub ruleset typing = (type_row, type_none, type_some, type_map, type_list, type_fields)

pub list_kept : (s marks : List ℕ) (full : Bool) (lv c k : ℕ) (plan : PlanRows) (i : ℕ) (plan₁ : PlanRows) (a : Step) → Kept s marks full Member lv c k plan i a plan₁ → Kept s marks full Element lv c k plan i a plan₁
list_kept s marks full lv c k plan i plan₁ a p = rw (as_element (marked marks) (kind_at s) full (row_of s lv c k).trees) p

-- ---- a map

module _ (s marks : List ℕ) (full : Bool) (lv c k i : ℕ) (h : Row s lv c k i) (l : 0 < c) (m : ℕ) (em : m ≡ kids_at s k) (v : ℕ) (ev : v ≡ (row_of s (lv - 1) m (k + 1)).next) where
  value_there : There s lv (c - 1) v
  value_there = rest_there s lv c k h.there l m em v ev

  key_past : k < v
  key_past = let a = inner_past s lv c k h.there l m em in omega arith

  pub key_fits : k ≤ v
  key_fits = let a = key_past in omega arith

  pub map_row : Row s lv (c - 1) v (i + (v - k))
  map_row = let a = key_past in let r = h.room in record { there = value_there; room = omega arith }

  module _ (plan plan₁ : PlanRows) (a : Step) (p : Kept s marks full Member lv (c - 1) v plan (i + (v - k)) a plan₁) where
    whole_next : a.next ≡ (row_of s lv c k).next
    whole_next = p.next ∙ rest_next s lv c k h.there l m em v ev

    abbrev values : Forest ℕ
    values = projected (marked marks) (kind_at s) full Member (row_of s lv (c - 1) v).trees

    shape : (row_of s lv c k).trees ≡ node k (row_of s (lv - 1) (kids_at s k) (k + 1)).trees (row_of s lv (c - 1) v).trees
    shape = ap (λ (p : Part). p.trees) (split s lv c k h.there l m em) ∙ rw (← ev, em)

    kept_key : projected (marked marks) (kind_at s) full Key (row_of s lv c k).trees ≡ keyed (marked marks k) k (row_of s (lv - 1) (kids_at s k) (k + 1)).trees (row_of s lv (c - 1) v).trees values
    kept_key = rw (shape, key_node (marked marks) (kind_at s) full k (row_of s (lv - 1) (kids_at s k) (k + 1)).trees (row_of s lv (c - 1) v).trees)

    pub map_fits : a.count + 1 < 4294967296
    map_fits =
        let b = there_past s lv (c - 1) v value_there in
        let d = h.there.few in
        let e = siblings_size values in
        let f = p.at in
        let g = p.count in
        let q = p.room in
        let n = p.next in
        omega arith

    pub map_past : k ≤ a.next
    map_past = let b = (there_full s lv (c - 1) v value_there).next in let n = p.next in let d = key_past in omega arith

    pub map_span : Span s k a.next i
    map_span =
        let b = there_past s lv (c - 1) v value_there in
        let d = h.there.few in
        let n = p.next in
        let e = map_past in
        record { ordered = e; bytes = omega arith; few = omega arith; room = h.room }

    -- the value keeps something
    pub map_value : (r : Step) (plan₂ : PlanRows) → 0 < a.count → KeptWhole s (lv - 1) k plan₁ i r plan₂ → Kept s marks full Key lv c k plan i (record { next = a.next; at = a.at; count = a.count + 1 }) plan₂
    unfolding size siblings
    map_value r plan₂ z q =
        let T = tree_at s (lv - 1) k in
        let f = (there_full s (lv - 1) (kids_at s k) (k + 1) (inner_there s lv c k h.there l (kids_at s k) refl)).next in
        let pa = p.at in
        let pc = p.count in
        let w : v ≡ (row_of s (lv - 1) (kids_at s k) (k + 1)).next = ev ∙ rw em in
        let d : v - k ≡ size T = omega arith in
        let e : projected (marked marks) (kind_at s) full Key (row_of s lv c k).trees ≡ (T then values) = kept_key ∙ keyed_filled (marked marks k) k _ _ values (λ n. omega arith) in
        let y = size_then T values in
        let u = siblings_then T values in
        let sy : a.at ≡ i + size (T then values) = omega arith in
        let su : a.count + 1 ≡ siblings (T then values) = omega arith in
        record {
          next = whole_next;
          at = rw e sy;
          count = rw e su;
          room = p.room;
          laid = rw (e, mapped_then (own_source s) T values) (laid_before (mapped (own_source s) T) (mapped (own_source s) values) i (i + (v - k)) plan plan₁ plan₂ (rw (size_mapped (own_source s) T, d)) p.laid q.laid);
        }

    module _ (z : a.count ≤ 0) (x : Bool) (ex : x ≡ marked marks k) where
      no_values : values ≡ empty
      no_values = let pc = p.count in no_siblings values (omega arith)

      untouched : LaidIn empty i plan plan₁
      unfolding mapped
      untouched = moved i (i + (v - k)) plan plan₁ (rw no_values at p.laid)

      -- a chosen key keeps all
      pub map_whole : (r : Step) (plan₂ : PlanRows) → x ≡ true → Copied s k a.next c plan₁ i r plan₂ → Kept s marks full Key lv c k plan i r plan₂
      unfolding size ◌then◌
      map_whole r plan₂ e q =
          let e₁ : projected (marked marks) (kind_at s) full Key (row_of s lv c k).trees ≡ (row_of s lv c k).trees = kept_key ∙ rw (no_values, ← ex, e, shape) in
          let w = copied_planned s (row_of s lv c k) c k a.next plan₁ i r plan₂ h.room (there_full s lv c k h.there) whole_next q in
          rw e₁ (record { next = w.next; at = w.at; count = w.count; room = w.room; laid = laid_then empty _ i i plan plan₁ plan₂ (omega arith) untouched w.laid })

      pub map_nothing : x ≡ false → Kept s marks full Key lv c k plan i (record { next = a.next; at = i; count = 0 }) plan₁
      map_nothing e =
          let e₁ : projected (marked marks) (kind_at s) full Key (row_of s lv c k).trees ≡ empty = kept_key ∙ rw (no_values, ← ex, e) in
          let r = h.room in
          let b = map_past in
          rw (e₁, ← (rest_next s lv c k h.there l m em v ev)) (planned_nothing s values (row_of s lv (c - 1) v).next i (i + (v - k)) plan plan₁ a p no_values (omega arith))

pub ruleset pairing = (row_spot, key_fits, map_row, map_fits, map_past, map_span, map_value, map_whole, map_nothing)
