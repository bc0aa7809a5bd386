-- A walk that marks a row stores, slot by slot, what `ups` and `fulls` list: a store, the walk inside and the walk over the rest
-- are one run of stores.
use mathlib.Core.Path.{◌≡◌, refl, sym, ap, ◌∙◌}
use mathlib.Core.List.{List, [], ◌∷◌, ◌++◌, map}
use Prim.Native.Nat.{ℕ, suc, ◌+◌, ◌-◌, ◌<◌, ◌≤◌}
use native.Mathlib.Numerals.{add-one}
use native.Mathlib.Omega.{arith}
use lib.ListN.{length, set, length-append, length-map}
use lib.Seq.{sets}
use Rattle.paper.specs.Forest.{Forest, empty, node, size}
use Rattle.paper.specs.Layout.{Part, nothing, before}
use Rattle.paper.specs.Rows.{dotted}
use Rattle.laws.proofs.Runs.{sets_append, map_append}
use Rattle.index_ids.proofs.Tables.{within_same, within_both}
use Rattle.index_names.specs.declared.Prefix.{Prefix}
use Rattle.plan.specs.Walk.{walk}
use Rattle.index_names.specs.Hash.{mix, hash_on, hash_of, tag, tag_of}
use Rattle.index_names.specs.Full.{fulls, ups}
use Rattle.index_names.specs.Told.{Marked}
use Rattle.index_names.specs.Table.{inside, PutIn, OneIn, MarkedIn}
use Rattle.index_names.proofs.Hashing.{hash_append}
use Rattle.plan.proofs.Walks.{walk_none, walk_deep, walk_past, walk_in, filled}

pub length_fulls : (name : ℕ → List ℕ) (pre : List ℕ) (f : Forest ℕ) → length (fulls name pre f) ≡ size f
unfolding fulls size
length_fulls name pre empty = refl
length_fulls name pre (node k f g) = ap suc (length-append (fulls name (dotted pre (name k)) f) (fulls name pre g) ∙ rw (length_fulls name (dotted pre (name k)) f, length_fulls name pre g))

pub length_ups : (u : ℕ) (f : Forest ℕ) → length (ups u f) ≡ size f
unfolding ups size
length_ups u empty = refl
length_ups u (node k f g) = ap suc (length-append (ups (suc k) f) (ups u g) ∙ rw (length_ups (suc k) f, length_ups u g))

-- one store and two walks make a walk
both_set : (xs ys l m l' : List ℕ) (k x j : ℕ) → m ≡ sets (set l k x) (suc k) xs → j ≡ suc k + length xs → l' ≡ sets m j ys → l' ≡ sets l k (x ∷ (xs ++ ys))
both_set xs ys l m l' k x j em ej el = el ∙ rw (em, ej) (sets_append xs ys (set l k x) (suc k))

module _ (name : ℕ → List ℕ) where
  nothing_marked : (p : Part) (k u l h : ℕ) (us ls ts : List ℕ) → p ≡ nothing k → Marked name p k u l h us ls ts us ls ts k
  unfolding fulls ups
  nothing_marked p k u l h us ls ts e = rw e record { next = refl; ups_set = refl; lens_set = λ pre q. refl; tags_set = λ pre q. refl }

  joined_marked : (p a b : Part) (k u l h own h₁ j r : ℕ) (us ls ts us₁ ls₁ ts₁ us₂ ls₂ ts₂ : List ℕ)
      → p ≡ before k a b → own ≡ l + length (name k) → h₁ ≡ hash_on h (name k) → j ≡ suc k + size a.trees
      → Marked name a (suc k) (suc k) (own + 1) (mix h₁ 46) (set us k u) (set ls k own) (set ts k (tag h₁)) us₁ ls₁ ts₁ j
      → Marked name b j u l h us₁ ls₁ ts₁ us₂ ls₂ ts₂ r → Marked name p k u l h us ls ts us₂ ls₂ ts₂ r
  unfolding fulls ups hash_on
  joined_marked p a b k u l h own h₁ j r us ls ts us₁ ls₁ ts₁ us₂ ls₂ ts₂ e eo eh ej m m' =
      rw e
      record {
        next = m'.next;
        ups_set = both_set (ups (suc k) a.trees) (ups u b.trees) us us₁ us₂ k u j m.ups_set (ej ∙ ap (λ z. suc k + z) (sym (length_ups (suc k) a.trees))) m'.ups_set;
        lens_set = λ pre q.
            let own_is : own ≡ length (pre ++ name k) = omega (arith, length-append pre (name k)) in
            let below_is : own + 1 ≡ length (dotted pre (name k)) = omega (arith, length-append pre (name k ++ (46 ∷ [])), length-append (name k) (46 ∷ [])) in
            let fs = fulls name (dotted pre (name k)) a.trees in
            let gs = fulls name pre b.trees in
            rw (map_append length fs gs, ← own_is)
            (both_set (map length fs) (map length gs) ls ls₁ ls₂ k own j (m.lens_set (dotted pre (name k)) below_is) (ej ∙ ap (λ z. suc k + z) (sym (length-map fs length ∙ length_fulls name (dotted pre (name k)) a.trees))) (m'.lens_set pre q));
        tags_set = λ pre q.
            let own_is : h₁ ≡ hash_of (pre ++ name k) = eh ∙ rw q (sym (hash_append 0 pre (name k))) in
            let below_is : mix h₁ 46 ≡ hash_of (dotted pre (name k)) = hashed pre q in
            let fs = fulls name (dotted pre (name k)) a.trees in
            let gs = fulls name pre b.trees in
            rw (map_append tag_of fs gs, ← own_is)
            (both_set (map tag_of fs) (map tag_of gs) ts ts₁ ts₂ k (tag h₁) j (m.tags_set (dotted pre (name k)) below_is) (ej ∙ ap (λ z. suc k + z) (sym (length-map fs tag_of ∙ length_fulls name (dotted pre (name k)) a.trees))) (m'.tags_set pre q));
      }
    where
      hashed : (pre : List ℕ) → h ≡ hash_of pre → mix h₁ 46 ≡ hash_of (dotted pre (name k))
      hashed pre q = rw (hash_append 0 pre (name k ++ (46 ∷ [])), ← q, hash_append h (name k) (46 ∷ []), ← eh)

-- ---- the same in the rows of an index

module _ (name : ℕ → List ℕ) (kids : ℕ → ℕ) (n lv c k u l h : ℕ) (t : List (List ℕ)) where
  nothing_in : walk kids n lv c k ≡ nothing k → MarkedIn name (walk kids n lv c k) k u l h t t k
  nothing_in e = record { marked = nothing_marked name _ k u l h _ _ _ e; within = within_same 3 6 t }

  mark_none : c ≡ 0 → MarkedIn name (walk kids n lv c k) k u l h t t k
  mark_none e = nothing_in (walk_none kids n lv c k e)

  pub mark_deep : lv ≡ 0 → MarkedIn name (walk kids n lv c k) k u l h t t k
  mark_deep e = nothing_in (walk_deep kids n lv c k e)

  mark_past : n ≤ k → MarkedIn name (walk kids n lv c k) k u l h t t k
  mark_past e = nothing_in (walk_past kids n lv c k e)

  mark_turn : (m own h₁ h₂ x j r : ℕ) (t₀ t₁ t₂ : List (List ℕ)) → (lv ≡ 0 → ⊥) → (c ≡ 0 → ⊥) → k < n → m ≡ kids k → own ≡ l + length (name k) → h₁ ≡ hash_on h (name k) → h₂ ≡ mix h₁ 46 → x ≡ tag h₁ → PutIn k u own x t t₀
      → MarkedIn name (walk kids n (lv - 1) m (k + 1)) (k + 1) (k + 1) (own + 1) h₂ t₀ t₁ j
      → MarkedIn name (walk kids n lv (c - 1) j) j u l h t₁ t₂ r → MarkedIn name (walk kids n lv c k) k u l h t t₂ r
  mark_turn m own h₁ h₂ x j r t₀ t₁ t₂ e f q em eo eh eh₂ ex put w v =
      record {
        marked = joined_marked name (walk kids n lv c k) (walk kids n (lv - 1) m (suc k)) (walk kids n lv (c - 1) j) k u l h own h₁ j r _ _ _ _ _ _ _ _ _
            (rw (← w.marked.next, add-one k) at (walk_in kids n lv c k m e f q em)) eo eh (rw (add-one k) at (w.marked.next ∙ (filled kids n (lv - 1) m (k + 1) (omega arith)).count))
            (rw (put.ups_put, put.lens_put, put.tags_put, ex, eh₂, add-one k) at w.marked) v.marked;
        within = within_both 3 6 t t₀ t₂ put.within (within_both 3 6 t₀ t₁ t₂ w.within v.within);
      }

-- the next slot is within the list
mark_room : (name : ℕ → List ℕ) (kids : ℕ → ℕ) (n lv c k u l h r : ℕ) (t t' : List (List ℕ)) → MarkedIn name (walk kids n lv c k) k u l h t t' r → k ≤ n → r ≤ n
mark_room name kids n lv c k u l h r t t' w q = let f = filled kids n lv c k q in omega (arith, f.most, w.marked.next)

-- As a loop over the siblings, with b levels inside them: whatever marks the rest marks the whole.
pub record Onward (name : ℕ → List ℕ) (kids : ℕ → ℕ) (n b c k u l h : ℕ) (old : List (List ℕ)) (b' c' k' : ℕ) (t : List (List ℕ)) : Type 0 where
  pub small : k' ≤ n
  pub level : b' ≡ b
  pub go : (lv r : ℕ) (t₂ : List (List ℕ)) → lv ≡ b + 1 → MarkedIn name (walk kids n lv c' k') k' u l h t t₂ r → MarkedIn name (walk kids n lv c k) k u l h old t₂ r

pub onward_starts : (name : ℕ → List ℕ) (kids : ℕ → ℕ) (n b c k u l h : ℕ) (t : List (List ℕ)) → k ≤ n → Onward name kids n b c k u l h t b c k t
onward_starts name kids n b c k u l h t q = record { small = q; level = refl; go = λ lv r t₂ e m. m }

module _ (name : ℕ → List ℕ) (kids : ℕ → ℕ) (n lv c k u l h : ℕ) (old : List (List ℕ)) (b' c' k' : ℕ) (t : List (List ℕ)) (on : Onward name kids n (lv - 1) c k u l h old b' c' k' t) (e : lv ≡ 0 → ⊥) where
  pub onward_past : n ≤ k' → MarkedIn name (walk kids n lv c k) k u l h old t k'
  onward_past q = on.go lv k' t (omega arith) (mark_past name kids n lv c' k' u l h t q)

  pub onward_done : c' ≤ 0 → MarkedIn name (walk kids n lv c k) k u l h old t k'
  onward_done q = on.go lv k' t (omega arith) (mark_none name kids n lv c' k' u l h t (omega arith))

module _ (name : ℕ → List ℕ) (kids : ℕ → ℕ) (n b c k u : ℕ) (p : Prefix) (old : List (List ℕ)) (b' c' k' : ℕ) (t : List (List ℕ)) (on : Onward name kids n b c k u p.len p.hash old b' c' k' t) (r : Prefix) (t₀ : List (List ℕ)) (f : 0 < c') (q : k' < n) (one : OneIn name k' u p r t t₀) (s : ℕ) (es : s ≡ c' - 1) where
  pub onward_goes : (m j : ℕ) (t₁ : List (List ℕ)) → m ≡ kids k' → MarkedIn name (walk kids n b' m (k' + 1)) (k' + 1) (k' + 1) r.len r.hash t₀ t₁ j → Onward name kids n b c k u p.len p.hash old b' s j t₁
  onward_goes m j t₁ em w =
      let i = inside name k' p in
      let w' : MarkedIn name (walk kids n b' m (k' + 1)) (k' + 1) (k' + 1) i.len i.hash t₀ t₁ j = rw one.inner at w in
      record {
        small = mark_room name kids n b' m (k' + 1) (k' + 1) i.len i.hash j t₀ t₁ w' (omega arith);
        level = on.level;
        go = λ lv z t₂ e v.
            let below : b' ≡ lv - 1 = omega (arith, on.level) in
            on.go lv z t₂ e (mark_turn name kids n lv c' k' u p.len p.hash t m (p.len + length (name k')) (hash_on p.hash (name k')) i.hash (tag (hash_on p.hash (name k'))) j z t₀ t₁ t₂ (λ a. omega arith) (λ a. omega arith) q em refl refl refl refl one.put (rw below at w') (rw es at v));
      }

  -- Inside a leaf there is nothing to mark.
  pub onward_leaf : kids k' ≡ 0 → Onward name kids n b c k u p.len p.hash old b' s (k' + 1) t₀
  onward_leaf none = onward_goes _ (k' + 1) t₀ refl (mark_none name kids n b' _ (k' + 1) (k' + 1) r.len r.hash t₀ none)
