-- What a walk over all records tells of their full names: each is the one above, a dot and a name, so going up by the places
-- above spells it.
use mathlib.Core.Path.{◌≡◌, refl, sym, ap, subst, ◌∙◌}
use mathlib.Core.Logic.{⊎_elim}
use mathlib.Core.List.{List, [], ◌∷◌, ◌++◌, map, append_assoc}
use Prim.Native.Nat.{ℕ, zero, suc, ◌+◌, ◌-◌, ◌<◌, ◌≤◌}
use native.Mathlib.Nat.{add-zero, zero-add}
use native.Mathlib.Omega.{arith}
use lib.ListN.{length, get_or, length-map, get_or-append, get_or-map}
use lib.Seq.{sets, get_or-append-add}
use Rattle.paper.specs.Bytes.{from}
use Rattle.paper.specs.Forest.{Forest, empty, node, size}
use Rattle.paper.specs.Rows.{dotted}
use Rattle.laws.proofs.Agreeing.{Agrees, agrees_first, agrees_left, agrees_right}
use Rattle.laws.proofs.Runs.{get_or_sets}
use Rattle.tree.proofs.Filled.{lt_or_le}
use Rattle.record.specs.Trees.{Trees}
use Rattle.plan.specs.Walk.{walk, trees_of}
use Rattle.index_names.specs.Hash.{hash_on, tag, tag_of}
use Rattle.index_names.specs.Full.{fulls, ups, under, climbed, full_at}
use Rattle.plan.specs.Named.{name_in, Sources}
use Rattle.index_names.specs.Told.{Marked, Spelt, Tagged}
use Rattle.plan.proofs.Walks.{Numbered, all_numbered, all_there}
use Rattle.index_names.proofs.Marking.{length_fulls, length_ups}

-- ---- going up

module _ (name : ℕ → List ℕ) (us : List ℕ) (n : ℕ) (falls : (k : ℕ) → k < n → get_or us k 0 ≤ k) where
  -- more steps than places above make no difference
  climb_more : (s t k : ℕ) → k < n → k ≤ s → k ≤ t → climbed name us s k ≡ climbed name us t k
  unfolding climbed
  climb_more zero zero k l a b = refl
  climb_more zero (suc t) k l a b = let q = falls k l in let z : get_or us k 0 ≡ 0 = omega arith in rw z
  climb_more (suc s) zero k l a b = let q = falls k l in let z : get_or us k 0 ≡ 0 = omega arith in rw z
  climb_more (suc s) (suc t) k l a b = go (get_or us k 0) (falls k l) (climb_more s t)
    where
      go : (u : ℕ) → u ≤ k → ((j : ℕ) → j < n → j ≤ s → j ≤ t → climbed name us s j ≡ climbed name us t j) → under (climbed name us s) (name k) u ≡ under (climbed name us t) (name k) u
      go zero q ih = refl
      go (suc p) q ih = rw (ih p (omega arith) (omega arith) (omega arith))

  pub full_root : (k : ℕ) → k < n → get_or us k 0 ≡ 0 → full_at name us k ≡ name k
  unfolding full_at climbed
  full_root zero l e = refl
  full_root (suc k) l e = rw e

  pub full_under : (k p : ℕ) → k < n → get_or us k 0 ≡ suc p → (p < k) × (full_at name us k ≡ full_at name us p ++ (46 ∷ name k))
  unfolding full_at climbed
  full_under zero p l e = absurd (let q = falls 0 l in omega arith)
  full_under (suc k) p l e =
      let q = falls (suc k) l in
      (omega arith, rw e (ap (λ (z : List ℕ). z ++ (46 ∷ name (suc k))) (climb_more k p p (omega arith) (omega arith) (omega arith))))

-- ---- each full name is the one above, a dot and a name

module _ (G name : ℕ → List ℕ) where
  record Base (k u : ℕ) (pre : List ℕ) : Type 0 where
    top : u ≡ 0 → pre ≡ []
    above : (p : ℕ) → u ≡ suc p → (p < k) × (pre ≡ G p ++ (46 ∷ []))

  pub record Link (k u : ℕ) (x : List ℕ) : Type 0 where
    pub root : u ≡ 0 → x ≡ name k
    pub inner : (p : ℕ) → u ≡ suc p → (p < k) × (x ≡ G p ++ (46 ∷ name k))

  here : (k u : ℕ) (pre : List ℕ) → Base k u pre → Link k u (pre ++ name k)
  here k u pre b = record { root = λ e. rw (b.top e); inner = λ p e. ((b.above p e).0, rw (b.above p e).1 (append_assoc (G p) (46 ∷ []) (name k))) }

  later : (k j u : ℕ) (pre : List ℕ) → Base k u pre → k ≤ j → Base j u pre
  later k j u pre b l = record { top = b.top; above = λ p e. (let q = (b.above p e).0 in omega arith, (b.above p e).1) }

  below : (k : ℕ) (pre : List ℕ) → G k ≡ pre ++ name k → Base (suc k) (suc k) (dotted pre (name k))
  below k pre e =
      record {
        top = λ z. absurd (omega arith);
        above = λ p z. let q : p ≡ k = omega arith in (omega arith, rw (q, e) (sym (append_assoc pre (name k) (46 ∷ []))));
      }

  Links : ℕ → ℕ → List ℕ → List (List ℕ) → Type 0
  Links k m us xs = (i : ℕ) → i < m → Link (k + i) (get_or us i 0) (get_or xs i [])

  links_both : (k m m' u : ℕ) (x : List ℕ) (us vs : List ℕ) (xs ys : List (List ℕ)) → length us ≡ m → length xs ≡ m → Link k u x → Links (suc k) m us xs → Links (suc k + m) m' vs ys → Links k (suc (m + m')) (u ∷ (us ++ vs)) (x ∷ (xs ++ ys))
  unfolding Links
  links_both k m m' u x us vs xs ys e f a b c zero l = rw (add-zero k) a
  links_both k m m' u x us vs xs ys e f a b c (suc i) l =
      ⊎_elim
      (λ q. let z : k + suc i ≡ suc k + i = omega arith in rw (z, get_or-append us vs 0 i (omega arith), get_or-append xs ys [] i (omega arith)) (b i q))
      (λ q. let z : k + suc i ≡ suc k + m + (i - m) = omega arith in
      let y : i ≡ length us + (i - m) = omega arith in
      let w : i ≡ length xs + (i - m) = omega arith in
      let g : get_or (us ++ vs) i 0 ≡ get_or vs (i - m) 0 = ap (λ t. get_or (us ++ vs) t 0) y ∙ get_or-append-add us vs (i - m) 0 in
      let h : get_or (xs ++ ys) i [] ≡ get_or ys (i - m) [] = ap (λ t. get_or (xs ++ ys) t []) w ∙ get_or-append-add xs ys (i - m) [] in
      rw (z, g, h) (c (i - m) (omega arith)))
      (lt_or_le i m)

  links : (f : Forest ℕ) (k u : ℕ) (pre : List ℕ) → Numbered k f → Agrees G [] k (size f) (fulls name pre f) → Base k u pre → Links k (size f) (ups u f) (fulls name pre f)
  unfolding Links fulls ups size
  links empty k u pre nd ag b = λ i l. absurd (omega arith)
  links (node j f g) k u pre nd ag b =
      let e : j ≡ k = nd.0 in
      let fs = fulls name (dotted pre (name k)) f in
      let gs = fulls name pre g in
      let ag' : Agrees G [] k (suc (size f + size g)) ((pre ++ name k) ∷ (fs ++ gs)) = subst (λ t. Agrees G [] k (size (node t f g)) (fulls name pre (node t f g))) e ag in
      let lf = length_fulls name (dotted pre (name k)) f in
      subst (λ t. Links k (size (node t f g)) (ups u (node t f g)) (fulls name pre (node t f g))) (sym e)
      (links_both k (size f) (size g) u (pre ++ name k) (ups (suc k) f) (ups u g) fs gs (length_ups (suc k) f) lf
      (here k u pre b)
      (links f (suc k) (suc k) (dotted pre (name k)) nd.1.0 (agrees_left G [] k (size f) (size g) (pre ++ name k) fs gs ag' lf) (below k pre (agrees_first G [] k (size f) (size g) (pre ++ name k) fs gs ag')))
      (links g (suc k + size f) u pre nd.1.1 (agrees_right G [] k (size f) (size g) (pre ++ name k) fs gs ag' lf) (later k (suc k + size f) u pre b (omega arith))))

  all_links : (f : Forest ℕ) → Numbered 0 f → ((i : ℕ) → i < size f → G i ≡ get_or (fulls name [] f) i []) → (i : ℕ) → i < size f → Link i (get_or (ups 0 f) i 0) (get_or (fulls name [] f) i [])
  unfolding Agrees Links
  all_links f nd ag i l =
      let z : 0 + i ≡ i = omega arith in
      rw z at (links f 0 0 [] nd (λ j q. let y : 0 + j ≡ j = omega arith in rw y (ag j q)) record { top = λ e. refl; above = λ p e. absurd (omega arith) } i l)

-- ---- all of it

from_get_or : (g : ℕ → List ℕ) (xs : List (List ℕ)) (k m : ℕ) (d : List ℕ) → length xs ≡ m → ((j : ℕ) → j < m → g (k + j) ≡ get_or xs j d) → from g k m ≡ xs
unfolding from
from_get_or g [] k zero d e h = refl
from_get_or g (x ∷ xs) k zero d e h = absurd (omega arith)
from_get_or g [] k (suc m) d e h = absurd (omega arith)
from_get_or g (x ∷ xs) k (suc m) d e h =
    let a : g k ≡ x = ap g (sym (add-zero k)) ∙ h 0 (omega arith) in
    let b = from_get_or g xs (suc k) m d (omega arith) (λ j l. let z : suc k + j ≡ k + suc j = omega arith in rw z (h (suc j) (omega arith))) in
    rw (a, b)

module _ (name : ℕ → List ℕ) (kids : ℕ → ℕ) (n : ℕ) where
  listed : ℕ → List ℕ
  listed k = get_or (fulls name [] (trees_of kids n)) k []

  count : length (fulls name [] (trees_of kids n)) ≡ n
  count = length_fulls name [] (trees_of kids n) ∙ all_there kids n

  linked : (k : ℕ) → k < n → Link listed name k (get_or (ups 0 (trees_of kids n)) k 0) (listed k)
  unfolding listed
  linked k l = all_links listed name (trees_of kids n) (all_numbered kids n) (λ i q. refl) k (omega (arith, all_there kids n))

  module _ (us : List ℕ) (eu : (k : ℕ) → k < n → get_or us k 0 ≡ get_or (ups 0 (trees_of kids n)) k 0) where
    pub ups_fall : (k : ℕ) → k < n → get_or us k 0 ≤ k
    ups_fall k l = go (get_or us k 0) refl
      where
        go : (u : ℕ) → get_or us k 0 ≡ u → u ≤ k
        go zero e = omega arith
        go (suc p) e = let z = ((linked k l).inner p (sym (eu k l) ∙ e)).0 in omega arith

    -- by at least k steps, in case that all below were spelt
    spelt_at : (b k : ℕ) → k < b → k < n → full_at name us k ≡ listed k
    spelt_at zero k q l = absurd (omega arith)
    spelt_at (suc b) k q l = go (get_or us k 0) refl (spelt_at b)
      where
        go : (u : ℕ) → get_or us k 0 ≡ u → ((j : ℕ) → j < b → j < n → full_at name us j ≡ listed j) → full_at name us k ≡ listed k
        go zero e ih = full_root name us n ups_fall k l e ∙ sym ((linked k l).root (sym (eu k l) ∙ e))
        go (suc p) e ih =
            let z = full_under name us n ups_fall k p l e in
            z.1 ∙ ap (λ (x : List ℕ). x ++ (46 ∷ name k)) (ih p (omega (arith, z.0)) (omega (arith, z.0))) ∙ sym ((linked k l).inner p (sym (eu k l) ∙ e)).1

    pub spelt_is : (k : ℕ) → k < n → full_at name us k ≡ get_or (fulls name [] (trees_of kids n)) k []
    unfolding listed
    spelt_is k l = spelt_at (suc k) k (omega arith) l

    -- the list of full names, by slot
    pub fulls_are : from (full_at name us) 0 n ≡ fulls name [] (trees_of kids n)
    fulls_are = from_get_or (full_at name us) (fulls name [] (trees_of kids n)) 0 n [] count (λ j l. ap (full_at name us) (zero-add j) ∙ spelt_is j l)

get_or_all : (vs l : List ℕ) (k : ℕ) → k < length vs → length vs ≤ length l → get_or (sets l 0 vs) k 0 ≡ get_or vs k 0
get_or_all vs l k q m = let z : 0 + k ≡ k = omega arith in rw z at (get_or_sets vs l 0 k 0 (omega arith) q)

module _ (l : Trees) (xs : List ℕ) (kids : ℕ → ℕ) (n r : ℕ) (us ls ts us' ls' ts' : List ℕ) (eu : length us ≡ 1024) (el : length ls ≡ 1024) (et : length ts ≡ 1024) (S : Sources l xs n) (m : Marked (name_in l xs) (walk kids n 16 n 0) 0 0 0 0 us ls ts us' ls' ts' r) where
  pub ups_told : (k : ℕ) → k < n → get_or us' k 0 ≡ get_or (ups 0 (trees_of kids n)) k 0
  ups_told k q = rw m.ups_set (get_or_all (ups 0 (trees_of kids n)) us k (omega (arith, length_ups 0 (trees_of kids n), all_there kids n)) (omega (arith, length_ups 0 (trees_of kids n), all_there kids n, S.few)))

  size_is : length (fulls (name_in l xs) [] (trees_of kids n)) ≡ n
  size_is = length_fulls (name_in l xs) [] (trees_of kids n) ∙ all_there kids n

  told : (f : List ℕ → ℕ) (vs vs' : List ℕ) → length vs ≡ 1024 → f [] ≡ 0 → vs' ≡ sets vs 0 (map f (fulls (name_in l xs) [] (trees_of kids n))) → (k : ℕ) → k < n → get_or vs' k 0 ≡ f (full_at (name_in l xs) us' k)
  told f vs vs' ev ef e k q =
      let fs = fulls (name_in l xs) [] (trees_of kids n) in
      let d : get_or (map f fs) k (f []) ≡ f (get_or fs k []) = get_or-map f fs k [] in
      rw e (get_or_all (map f fs) vs k (omega (arith, length-map fs f, size_is)) (omega (arith, length-map fs f, size_is, S.few))
      ∙ (rw ef at d) ∙ ap f (sym (spelt_is (name_in l xs) kids n us' ups_told k q)))

  pub names_told : Spelt l xs n us' ls'
  names_told = record { sources = S; falls = ups_fall (name_in l xs) kids n us' ups_told; len = told length ls ls' el refl (m.lens_set [] refl) }

  pub tags_told : Tagged l xs n us' ts'
  unfolding hash_on tag
  tags_told = record { tag = told tag_of ts ts' et refl (m.tags_set [] refl) }
