-- Laws of paths: what goes together meets the same places, places rise, and a slot stands after as many steps on whichever way.
use mathlib.Core.Path.{◌≡◌, refl, sym, ap, ◌∙◌}
use mathlib.Core.Logic.{◌⊎◌, inl, inr}
use mathlib.Core.List.{List}
use Prim.Native.Nat.{ℕ, zero, suc, ◌+◌, ◌<◌, ◌≤◌}
use native.Mathlib.Omega.{arith}
use lib.ListN.{get_or}
use Rattle.paper.specs.Bytes.{turned}
use Rattle.index_ids.specs.Ids.{bucket_of, id_in}
use Rattle.index_ids.specs.Table.{row}
use Rattle.index_ids.specs.Path.{unasked, bit, Together, linked, met, First, IdsChained, AtCell}
use Rattle.index_ids.proofs.Chains.{eqb_cases}

-- ---- ids that go together

module _ (d a b : ℕ) (h : Together d a b) where
  pub together_back : Together d b a
  together_back = record { bucket = sym h.bucket; bits = λ e l. sym (h.bits e l) }

  pub together_on : (c : ℕ) → Together d b c → Together d a c
  together_on c k = record { bucket = h.bucket ∙ k.bucket; bits = λ e l. h.bits e l ∙ k.bits e l }

  pub together_less : (e : ℕ) → e ≤ d → Together e a b
  together_less e q = record { bucket = h.bucket; bits = λ i l. h.bits i (omega arith) }

  pub together_more : bit d a ≡ bit d b → Together (suc d) a b
  together_more q = record { bucket = h.bucket; bits = λ e l. go e l (eqb_cases e d) }
    where
      go : (e : ℕ) → e < suc d → (e ≡ d) ⊎ (e ≡ d → ⊥) → bit e a ≡ bit e b
      go e l (inl i) = rw i q
      go e l (inr i) = h.bits e (omega arith)

pub together_same : (d a : ℕ) → Together d a a
together_same d a = record { bucket = refl; bits = λ e l. refl }

-- 22 steps ask all the bits that the bucket leaves.
doubled : ℕ → ℕ
doubled zero = 1
doubled (suc n) = doubled n + doubled n

unasked_few : (id d n : ℕ) → d + n ≡ 22 → unasked d id < doubled n
unfolding unasked doubled turned
unasked_few id zero n e = rw (let z : n ≡ 22 = omega arith in z) (omega arith)
unasked_few id (suc d) n e = let h = unasked_few id d (suc n) (omega arith) in omega arith

asked_same : (d a b : ℕ) → Together d a b → unasked d a ≡ unasked d b → turned a ≡ turned b
unfolding unasked bucket_of
asked_same zero a b h e = let q = h.bucket in omega arith
asked_same (suc d) a b h e = asked_same d a b (together_less (suc d) a b h d (omega arith)) (let q = h.bits d (omega arith) in omega arith)

pub all_asked : (a b : ℕ) → Together 22 a b → turned a ≡ turned b
unfolding doubled
all_asked a b h = asked_same 22 a b h (let x = unasked_few a 22 0 refl in let y = unasked_few b 22 0 refl in omega arith)

-- ---- places on a path

module _ (t : List (List ℕ)) where
  pub met_head : (x : ℕ) → met t x 0 ≡ get_or (row t 0) (bucket_of x) 0
  unfolding met
  met_head x = refl

  pub met_linked : (x d j : ℕ) → met t x d ≡ suc j → met t x (suc d) ≡ get_or (row t (suc (bit d x))) j 0
  unfolding met linked
  met_linked x d j e = rw e

  pub met_stops : (x d : ℕ) → met t x d ≡ 0 → met t x (suc d) ≡ 0
  unfolding met linked
  met_stops x d e = rw e

  pub met_cell : (x d l c : ℕ) → AtCell t x d l c → met t x d ≡ get_or (row t l) c 0
  unfolding met
  met_cell x zero l c h = let (e, f) = h.head refl in rw (e, f)
  met_cell x (suc d) l c h = let (e, f) = h.link d refl in rw e (met_linked x d c f)

  pub met_together : (d x y : ℕ) → Together d x y → met t x d ≡ met t y d
  unfolding met
  met_together zero x y h = rw h.bucket
  met_together (suc d) x y h = rw (h.bits d (omega arith), met_together d x y (together_less (suc d) x y h d (omega arith)))

  -- a path that goes on was not ended before
  before : (x d : ℕ) → 0 < met t x (suc d) → 0 < met t x d
  before x d l = go (met t x d) refl
    where
      go : (w : ℕ) → met t x d ≡ w → 0 < met t x d
      go zero e = absurd (let z = met_stops x d e in omega arith)
      go (suc w) e = omega arith

  pub went : (x d e : ℕ) → d ≤ e → 0 < met t x e → 0 < met t x d
  went x d zero q l = let i : d ≡ 0 = omega arith in rw i l
  went x d (suc e) q l = go (eqb_cases d (suc e)) (went x d e)
    where
      go : (d ≡ suc e) ⊎ (d ≡ suc e → ⊥) → (d ≤ e → 0 < met t x e → 0 < met t x d) → 0 < met t x d
      go (inl i) f = rw i l
      go (inr i) f = f (omega arith) (before x e l)

-- Where the slots begin that a place after d steps is the first of.
unfoldable pub begun : (t : List (List ℕ)) (x d : ℕ) → ℕ
begun t x zero = 0
begun t x (suc d) = met t x d

-- ---- an index of k slots

module _ (ids : List ℕ) (t : List (List ℕ)) (k : ℕ) (h : IdsChained ids t k) where
  pub met_first : (x d : ℕ) → 0 < met t x d → First ids x d (begun t x d) k (met t x d)
  unfolding begun
  met_first x zero l = h.head x
  met_first x (suc d) l = h.link x d (went t x d (suc d) (omega arith) l)

  pub own_way : (x d j : ℕ) → met t x d ≡ suc j → Together d x (id_in ids j)
  own_way x d j e = (met_first x d (omega arith)).goes j e

  pub own_below : (x d j : ℕ) → met t x d ≡ suc j → j < k
  own_below x d j e = (met_first x d (omega arith)).below j e

  -- places rise
  rises : (x d j : ℕ) → met t x (suc d) ≡ suc j → met t x d ≤ j
  rises x d j e = (h.link x d (went t x d (suc d) (omega arith) (omega arith))).after j e

  rises_far : (x d e j : ℕ) → d < e → met t x e ≡ suc j → met t x d ≤ j
  rises_far x d zero j l q = absurd (omega arith)
  rises_far x d (suc e) j l q = go (eqb_cases d e) (met t x e) refl (rises_far x d e)
    where
      go : (d ≡ e) ⊎ (d ≡ e → ⊥) → (w : ℕ) → met t x e ≡ w → ((i : ℕ) → d < e → met t x e ≡ suc i → met t x d ≤ i) → met t x d ≤ j
      go (inl i) w ew f = rw i (rises x e j q)
      go (inr i) zero ew f = absurd (let z = went t x e (suc e) (omega arith) (omega arith) in omega arith)
      go (inr i) (suc w) ew f = let a = f w (omega arith) ew in let b = rises x e j q in omega arith

  same_depth : (x d e j : ℕ) → met t x d ≡ suc j → met t x e ≡ suc j → d ≡ e
  same_depth x d e j p q = less (λ l. let z = rises_far x d e j l q in omega arith) (λ l. let z = rises_far x e d j l p in omega arith)
    where
      less : (d < e → ⊥) → (e < d → ⊥) → d ≡ e
      less a b = omega arith

  -- a slot is met after as many steps on whichever way
  pub one_depth : (x y d e j : ℕ) → met t x d ≡ suc j → met t y e ≡ suc j → d ≡ e
  one_depth x y d e j p q =
      same_depth (id_in ids j) d e j
      (sym (met_together t d x (id_in ids j) (own_way x d j p)) ∙ p)
      (sym (met_together t e y (id_in ids j) (own_way y e j q)) ∙ q)

-- ---- an empty index

-- Where there is no slot none is found.
pub no_first : (ids : List ℕ) (x d from k : ℕ) → k ≤ from → First ids x d from k 0
no_first ids x d from k l =
    record {
      none = λ e i p q. absurd (omega arith);
      after = λ j e. absurd (omega arith);
      below = λ j e. absurd (omega arith);
      goes = λ j e. absurd (omega arith);
      first = λ i p q. absurd (omega arith);
    }

module _ (ids : List ℕ) (t : List (List ℕ)) (none : (b : ℕ) → b < 1024 → get_or (row t 0) b 0 ≡ 0) where
  bucket_small : (x : ℕ) → bucket_of x < 1024
  unfolding bucket_of
  bucket_small x = omega arith

  nowhere : (x d : ℕ) → met t x d ≡ 0
  unfolding met
  nowhere x zero = none (bucket_of x) (bucket_small x)
  nowhere x (suc d) = met_stops t x d (nowhere x d)

  pub path_fresh : IdsChained ids t 0
  path_fresh = record { head = λ x. rw (nowhere x 0) (no_first ids x 0 0 0 (omega arith)); link = λ x d l. absurd (let z = nowhere x d in omega arith) }

-- Rows that are as they were.
module _ (ids : List ℕ) (t u : List (List ℕ)) (m : ℕ) (same : (r : ℕ) → r < 3 → row u r ≡ row t r) where
  linked_kept : (b w : ℕ) → b < 2 → linked u b w ≡ linked t b w
  unfolding linked
  linked_kept b zero l = refl
  linked_kept b (suc k) l = ap (λ (z : List ℕ). get_or z k 0) (same (suc b) (omega arith))

  met_kept : (x d : ℕ) → met u x d ≡ met t x d
  unfolding met
  met_kept x zero = ap (λ (z : List ℕ). get_or z (bucket_of x) 0) (same 0 (omega arith))
  met_kept x (suc d) = linked_kept (bit d x) (met u x d) (omega arith) ∙ ap (linked t (bit d x)) (met_kept x d)

  pub rows_kept : IdsChained ids t m → IdsChained ids u m
  rows_kept h =
      record {
        head = λ x. rw (met_kept x 0) (h.head x);
        link = λ x d l. rw (met_kept x d, met_kept x (suc d)) (h.link x d (rw (met_kept x d) at l));
      }
