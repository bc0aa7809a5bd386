-- A slot that is entered where its id's path ends: it is the first of its way there, and all others stay where they are.
use mathlib.Core.Path.{◌≡◌, refl, sym, ap, subst, ◌∙◌}
use mathlib.Core.Logic.{◌⊎◌, inl, inr}
use mathlib.Core.List.{List}
use Prim.Native.Nat.{ℕ, zero, suc, ◌+◌, ◌<◌, ◌≤◌}
use native.Mathlib.Numerals.{add-one}
use native.Mathlib.Omega.{arith}
use lib.ListN.{get_or, set}
use lib.Seq.{get_or-set_same, get_or-set_other}
use Rattle.index_ids.specs.Ids.{bucket_of, id_in}
use Rattle.index_ids.specs.Table.{row, Rooms, Within}
use Rattle.index_ids.specs.Path.{bit, Together, met, First, IdsChained, EndsAt, unlinked, entered_at}
use Rattle.index_ids.proofs.Chains.{eqb_cases}
use Rattle.index_ids.proofs.Tables.{row_left, cell_stored, within_both, within_wider, within_cell}
use Rattle.index_ids.proofs.Paths.{together_back, together_on, together_less, together_more, met_head, met_linked, met_stops, met_cell, met_together, went, own_way, own_below, one_depth, no_first}

-- ---- one slot more

module _ (ids : List ℕ) (x d from k w : ℕ) (h : First ids x d from k w) where
  -- what was found is found
  found_still : (j : ℕ) → w ≡ suc j → First ids x d from (suc k) w
  found_still j e =
      record {
        none = λ q. absurd (omega arith);
        after = h.after;
        below = λ i q. let z = h.below i q in omega arith;
        goes = h.goes;
        first = h.first;
      }

  -- where none was found, the new one is if it goes that way, and else none
  found_new : w ≡ 0 → from ≤ k → Together d x (id_in ids k) → First ids x d from (suc k) (suc k)
  found_new e l q =
      record {
        none = λ z. absurd (omega arith);
        after = λ j z. omega arith;
        below = λ j z. omega arith;
        goes = λ j z. let i : j ≡ k = omega arith in rw i q;
        first = λ i p z. h.none e i p (omega arith);
      }

  found_none : w ≡ 0 → (Together d x (id_in ids k) → ⊥) → First ids x d from (suc k) 0
  found_none e f =
      record {
        none = λ z i p q. go i p q (eqb_cases i k);
        after = λ j z. absurd (omega arith);
        below = λ j z. absurd (omega arith);
        goes = λ j z. absurd (omega arith);
        first = λ i p z. absurd (omega arith);
      }
    where
      go : (i : ℕ) → from ≤ i → i < suc k → (i ≡ k) ⊎ (i ≡ k → ⊥) → Together d x (id_in ids i) → ⊥
      go i p q (inl z) t = f (rw (← z) t)
      go i p q (inr z) t = h.none e i p (omega arith) t

-- ---- one store: what a cell holds behind it

module _ (t : List (List ℕ)) (r b v : ℕ) where
  held_there : Rooms t → r < 8 → b < 1024 → get_or (row (set t r (set (row t r) b v)) r) b 0 ≡ v
  held_there n lr l = ap (λ (z : List ℕ). get_or z b 0) (cell_stored t r b v) ∙ get_or-set_same (row t r) b v 0 (let y = n.wide r lr in omega arith)

  held_else : (q e : ℕ) → (q ≡ r → e ≡ b → ⊥) → get_or (row (set t r (set (row t r) b v)) q) e 0 ≡ get_or (row t q) e 0
  held_else q e f = go (eqb_cases q r)
    where
      go : (q ≡ r) ⊎ (q ≡ r → ⊥) → get_or (row (set t r (set (row t r) b v)) q) e 0 ≡ get_or (row t q) e 0
      go (inl i) = rw i (ap (λ (z : List ℕ). get_or z e 0) (cell_stored t r b v) ∙ get_or-set_other (row t r) b e v 0 (f i))
      go (inr i) = ap (λ (z : List ℕ). get_or z e 0) (row_left t r _ q i)

-- ---- three stores: the links of k, then k in its cell

module _ (t : List (List ℕ)) (k : ℕ) (n : Rooms t) (l c : ℕ) (ll : l < 3) (lc : c < 1024) (lk : k < 1024) where
  abbrev new : List (List ℕ)
  new = entered_at t l c k

  abbrev mid : List (List ℕ)
  mid = unlinked t k

  abbrev one : List (List ℕ)
  one = set t 1 (set (row t 1) k 0)

  one_within : Within 0 3 t one
  one_within = within_wider 1 2 0 3 t one (within_cell t 1 k 0) (omega arith) (omega arith)

  mid_within : Within 0 3 t mid
  mid_within = within_both 0 3 t one mid one_within (within_wider 2 3 0 3 one mid (within_cell one 2 k 0) (omega arith) (omega arith))

  pub entered_within : Within 0 3 t new
  entered_within = within_both 0 3 t mid new mid_within (within_wider l (suc l) 0 3 mid new (within_cell mid l c (k + 1)) (omega arith) (omega arith))

  pub put_in : get_or (row new l) c 0 ≡ suc k
  put_in = held_there mid l c (k + 1) (mid_within.rooms n) (omega arith) lc ∙ add-one k

  pub no_links : (b : ℕ) → b < 2 → (suc b ≡ l → k ≡ c → ⊥) → get_or (row new (suc b)) k 0 ≡ 0
  no_links b lb f = held_else mid l c (k + 1) (suc b) k f ∙ go b lb
    where
      go : (b : ℕ) → b < 2 → get_or (row mid (suc b)) k 0 ≡ 0
      go zero q = held_else one 2 k 0 1 k (λ z y. omega arith) ∙ held_there t 1 k 0 n (omega arith) lk
      go (suc zero) q = held_there one 2 k 0 (one_within.rooms n) (omega arith) lk
      go (suc (suc b)) q = absurd (omega arith)

  pub kept_in : (r b : ℕ) → (r ≡ l → b ≡ c → ⊥) → (b ≡ k → r ≡ 0) → get_or (row new r) b 0 ≡ get_or (row t r) b 0
  kept_in r b f g =
      held_else mid l c (k + 1) r b f
      ∙ held_else one 2 k 0 r b (λ z y. let q = g y in omega arith)
      ∙ held_else t 1 k 0 r b (λ z y. let q = g y in omega arith)

-- ---- paths behind them

module _ (ids : List ℕ) (t : List (List ℕ)) (k : ℕ) (h : IdsChained ids t k) (n : Rooms t) (lk : k < 1024) (l c : ℕ) (f : EndsAt t (id_in ids k) l c) where
  abbrev y : ℕ
  y = id_in ids k

  abbrev t' : List (List ℕ)
  t' = entered_at t l c k

  -- the cell is no link of k
  apart : (b : ℕ) → suc b ≡ l → k ≡ c → ⊥
  apart b p q = go f.steps refl
    where
      go : (s : ℕ) → f.steps ≡ s → ⊥
      go zero e = let z = (f.cell.head e).0 in omega arith
      go (suc s) e = let z = own_below ids t k h y s c (f.cell.link s e).1 in omega arith

  written : (r b : ℕ) → r ≡ l → b ≡ c → get_or (row t r) b 0 ≡ 0
  written r b p q = rw (p, q) f.free

  written_now : (r b : ℕ) → r ≡ l → b ≡ c → get_or (row t' r) b 0 ≡ suc k
  written_now r b p q = rw (p, q) (put_in t k n l c f.low f.small lk)

  no_link : (b : ℕ) → b < 2 → get_or (row t' (suc b)) k 0 ≡ 0
  no_link b q = no_links t k n l c f.low f.small lk b q (apart b)

  -- What a cell holds now: k in the one that was written, else what it held.
  data Cell (r b : ℕ) : Type 0 where
    here : r ≡ l → b ≡ c → Cell r b
    else : (r ≡ l → b ≡ c → ⊥) → get_or (row t' r) b 0 ≡ get_or (row t r) b 0 → Cell r b

  cell_is : (r b : ℕ) → (b ≡ k → r ≡ 0) → Cell r b
  cell_is r b g = go (eqb_cases r l) (eqb_cases b c)
    where
      stays : (r ≡ l → b ≡ c → ⊥) → Cell r b
      stays q = else q (kept_in t k n l c f.low f.small lk r b q g)

      go : (r ≡ l) ⊎ (r ≡ l → ⊥) → (b ≡ c) ⊎ (b ≡ c → ⊥) → Cell r b
      go (inl p) (inl q) = here p q
      go (inl p) (inr q) = stays (λ i j. q j)
      go (inr p) q = stays (λ i j. p i)

  head_cell : (x : ℕ) → Cell 0 (bucket_of x)
  head_cell x = cell_is 0 (bucket_of x) (λ z. refl)

  link_cell : (x d j : ℕ) → met t x d ≡ suc j → Cell (suc (bit d x)) j
  link_cell x d j e = cell_is (suc (bit d x)) j (λ z. absurd (let b = own_below ids t k h x d j e in omega arith))

  -- a place that was met is met as before
  kept_met : (x d j : ℕ) → met t x d ≡ suc j → met t' x d ≡ suc j
  kept_met x zero j e = go (head_cell x)
    where
      go : Cell 0 (bucket_of x) → met t' x 0 ≡ suc j
      go (here p q) = absurd (let z = met_head t x ∙ written 0 (bucket_of x) p q in omega arith)
      go (else q z) = met_head t' x ∙ z ∙ sym (met_head t x) ∙ e
  kept_met x (suc d) j e = go (met t x d) refl (kept_met x d)
    where
      goes : (i : ℕ) → met t x d ≡ suc i → met t' x d ≡ suc i → Cell (suc (bit d x)) i → met t' x (suc d) ≡ suc j
      goes i ei a (here p q) = absurd (let z = met_linked t x d i ei ∙ written (suc (bit d x)) i p q in omega arith)
      goes i ei a (else q z) = met_linked t' x d i a ∙ z ∙ sym (met_linked t x d i ei) ∙ e

      go : (w : ℕ) → met t x d ≡ w → ((i : ℕ) → met t x d ≡ suc i → met t' x d ≡ suc i) → met t' x (suc d) ≡ suc j
      go zero ew g = absurd (let z = met_stops t x d ew in omega arith)
      go (suc i) ew g = goes i ew (g i ew) (link_cell x d i ew)

  -- a link of k leads nowhere
  past_new : (x d : ℕ) → met t' x d ≡ suc k → met t' x (suc d) ≡ 0
  past_new x d e = met_linked t' x d k e ∙ no_link (bit d x) (omega arith)

  -- where none was met before, it is k
  fresh_met : (x d : ℕ) → met t x d ≡ 0 → 0 < met t' x d → met t' x d ≡ suc k
  fresh_met x zero e l = go (head_cell x)
    where
      go : Cell 0 (bucket_of x) → met t' x 0 ≡ suc k
      go (here p q) = met_head t' x ∙ written_now 0 (bucket_of x) p q
      go (else q z) = absurd (let a = met_head t' x ∙ z ∙ sym (met_head t x) ∙ e in omega arith)
  fresh_met x (suc d) e l = go (met t x d) refl (fresh_met x d)
    where
      goes : (i : ℕ) → met t x d ≡ suc i → Cell (suc (bit d x)) i → met t' x (suc d) ≡ suc k
      goes i ei (here p q) = met_linked t' x d i (kept_met x d i ei) ∙ written_now (suc (bit d x)) i p q
      goes i ei (else q z) = absurd (let a = met_linked t' x d i (kept_met x d i ei) ∙ z ∙ sym (met_linked t x d i ei) ∙ e in omega arith)

      go : (w : ℕ) → met t x d ≡ w → (met t x d ≡ 0 → 0 < met t' x d → met t' x d ≡ suc k) → met t' x (suc d) ≡ suc k
      go zero ew g = absurd (let a = past_new x d (g ew (went t' x d (suc d) (omega arith) l)) in omega arith)
      go (suc i) ew g = goes i ew (link_cell x d i ew)

  ended : met t y f.steps ≡ 0
  ended = met_cell t y f.steps l c f.cell ∙ f.free

  -- who goes with k to its cell comes to it, and no one else does
  same_head : (x : ℕ) → 0 ≡ l → bucket_of x ≡ c → Together 0 x y
  same_head x p q = go f.steps refl
    where
      go : (s : ℕ) → f.steps ≡ s → Together 0 x y
      go zero e = record { bucket = q ∙ (f.cell.head e).1; bits = λ i z. absurd (omega arith) }
      go (suc s) e = absurd (let z = (f.cell.link s e).0 in omega arith)

  other_head : (x : ℕ) → met t x 0 ≡ 0 → (0 ≡ l → bucket_of x ≡ c → ⊥) → Together 0 x y → ⊥
  other_head x e q T = go f.steps refl
    where
      go : (s : ℕ) → f.steps ≡ s → ⊥
      go zero i = q (sym (f.cell.head i).0) (T.bucket ∙ sym (f.cell.head i).1)
      go (suc s) i =
          let a = (f.cell.link s i).1 in
          let b = went t y 0 s (omega arith) (omega arith) in
          let m = met_together t 0 x y T in
          omega arith

  same_link : (x d j : ℕ) → met t x d ≡ suc j → suc (bit d x) ≡ l → j ≡ c → Together (suc d) x y
  same_link x d j e p q = go f.steps refl
    where
      at : (s : ℕ) → s ≡ d → l ≡ suc (bit s y) → met t y s ≡ suc j → Together (suc d) x y
      at s i el em =
          let o : met t y d ≡ suc j = rw (← i) em in
          together_more d x y
          (together_on d x (id_in ids j) (own_way ids t k h x d j e) y (together_back d y (id_in ids j) (own_way ids t k h y d j o)))
          (let z : l ≡ suc (bit d y) = rw (← i) el in omega arith)

      go : (s : ℕ) → f.steps ≡ s → Together (suc d) x y
      go zero i = absurd (let z = (f.cell.head i).0 in omega arith)
      go (suc s) i =
          let m : met t y s ≡ suc j = (f.cell.link s i).1 ∙ ap suc (sym q) in
          at s (sym (one_depth ids t k h x y d s j e m)) (f.cell.link s i).0 m

  other_link : (x d j : ℕ) → met t x d ≡ suc j → met t x (suc d) ≡ 0 → (suc (bit d x) ≡ l → j ≡ c → ⊥) → Together (suc d) x y → ⊥
  other_link x d j e e₂ q T = go f.steps refl
    where
      a : met t y d ≡ suc j
      a = sym (met_together t d x y (together_less (suc d) x y T d (omega arith))) ∙ e

      b : met t y (suc d) ≡ 0
      b = sym (met_together t (suc d) x y T) ∙ e₂

      at : (s : ℕ) → s ≡ d → l ≡ suc (bit s y) → met t y s ≡ suc c → ⊥
      at s i el em =
          let m : met t y d ≡ suc c = rw (← i) em in
          let z : l ≡ suc (bit d y) = rw (← i) el in
          let v = T.bits d (omega arith) in
          let u = a in
          q (omega arith) (omega arith)

      go : (s : ℕ) → f.steps ≡ s → ⊥
      go zero i = let z : met t y 0 ≡ 0 = ap (met t y) (sym i) ∙ ended in let u = a in let w = went t y 0 d (omega arith) (omega arith) in omega arith
      go (suc s) i =
          let v : met t y (suc s) ≡ 0 = ap (met t y) (sym i) ∙ ended in
          let m = (f.cell.link s i).1 in
          at s (less s v m) (f.cell.link s i).0 m
        where
          less : (s : ℕ) → met t y (suc s) ≡ 0 → met t y s ≡ suc c → s ≡ d
          less s v m =
              let u = a in
              let w = b in
              let p : s < d → ⊥ = λ r. let z = went t y (suc s) d (omega arith) (omega arith) in omega arith in
              let o : d < s → ⊥ = λ r. let z = went t y (suc d) s (omega arith) (omega arith) in omega arith in
              omega arith

  new_head : (x : ℕ) → First ids x 0 0 (suc k) (met t' x 0)
  new_head x = go (met t x 0) refl
    where
      at : met t x 0 ≡ 0 → Cell 0 (bucket_of x) → First ids x 0 0 (suc k) (met t' x 0)
      at e (here p q) = rw (met_head t' x ∙ written_now 0 (bucket_of x) p q) (found_new ids x 0 0 k (met t x 0) (h.head x) e (omega arith) (same_head x p q))
      at e (else q z) = rw (met_head t' x ∙ z ∙ sym (met_head t x) ∙ e) (found_none ids x 0 0 k (met t x 0) (h.head x) e (other_head x e q))

      go : (w : ℕ) → met t x 0 ≡ w → First ids x 0 0 (suc k) (met t' x 0)
      go zero e = at e (head_cell x)
      go (suc j) e = rw (kept_met x 0 j e ∙ sym e) (found_still ids x 0 0 k (met t x 0) (h.head x) j e)

  new_link : (x d : ℕ) → 0 < met t' x d → First ids x (suc d) (met t' x d) (suc k) (met t' x (suc d))
  new_link x d lx = go (met t x d) refl
    where
      old : (j : ℕ) → met t x d ≡ suc j → First ids x (suc d) (met t x d) k (met t x (suc d))
      old j e = h.link x d (omega arith)

      at : (j : ℕ) → met t x d ≡ suc j → met t x (suc d) ≡ 0 → Cell (suc (bit d x)) j → First ids x (suc d) (met t x d) (suc k) (met t' x (suc d))
      at j e e₂ (here p q) =
          rw (met_linked t' x d j (kept_met x d j e) ∙ written_now (suc (bit d x)) j p q)
          (found_new ids x (suc d) (met t x d) k (met t x (suc d)) (old j e) e₂ (let b = own_below ids t k h x d j e in omega arith) (same_link x d j e p q))
      at j e e₂ (else q z) =
          rw (met_linked t' x d j (kept_met x d j e) ∙ z ∙ sym (met_linked t x d j e) ∙ e₂)
          (found_none ids x (suc d) (met t x d) k (met t x (suc d)) (old j e) e₂ (other_link x d j e e₂ q))

      next : (j : ℕ) → met t x d ≡ suc j → (w : ℕ) → met t x (suc d) ≡ w → First ids x (suc d) (met t x d) (suc k) (met t' x (suc d))
      next j e zero e₂ = at j e e₂ (link_cell x d j e)
      next j e (suc i) e₂ = rw (kept_met x (suc d) i e₂ ∙ sym e₂) (found_still ids x (suc d) (met t x d) k (met t x (suc d)) (old j e) i e₂)

      go : (w : ℕ) → met t x d ≡ w → First ids x (suc d) (met t' x d) (suc k) (met t' x (suc d))
      go zero e = let a = fresh_met x d e lx in rw (a, past_new x d a) (no_first ids x (suc d) (suc k) (suc k) (omega arith))
      go (suc j) e = rw (kept_met x d j e ∙ sym e) (next j e (met t x (suc d)) refl)

  pub path_enters : IdsChained ids t' (k + 1)
  path_enters = subst (λ z. IdsChained ids t' z) (sym (add-one k)) record { head = new_head; link = new_link }
