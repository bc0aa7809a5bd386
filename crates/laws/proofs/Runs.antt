-- Runs of stores, and lists made of places: what stands where after them.
use Prim.Native.Nat.{ℕ, zero, suc, ◌+◌, ◌-◌, ◌<◌, ◌≤◌}
use mathlib.Core.Path.{◌≡◌, refl, sym, ap, ◌∙◌}
use mathlib.Core.List.{List, [], ◌∷◌, ◌++◌, map}
use native.Mathlib.Nat.{add-zero, zero-add, suc-add}
use native.Mathlib.Omega.{arith}
use lib.ListN.{length, get_or, set, drop, length-set}
use lib.Seq.{sets, set_comm, sets-eq, get_or-set_same, get_or-set_other}
use Rattle.paper.specs.Bytes.{from}

module _ {A : Type 0} where
  -- A run behind a run.
  pub sets_append : (xs ys l : List A) (i : ℕ) → sets (sets l i xs) (i + length xs) ys ≡ sets l i (xs ++ ys)
  sets_append [] ys l i = rw (add-zero i)
  sets_append (x ∷ xs) ys l i = let e : i + suc (length xs) ≡ suc i + length xs = omega arith in rw e (sets_append xs ys (set l i x) (suc i))

  -- A store before a run may come after it.
  pub sets_before : (xs l : List A) (p j : ℕ) (x : A) → p < j → set (sets l j xs) p x ≡ sets (set l p x) j xs
  sets_before [] l p j x h = refl
  sets_before (y ∷ xs) l p j x h = sets_before xs (set l j y) p (suc j) x (omega arith) ∙ ap (λ (z : List A). sets z (suc j) xs) (set_comm l j p y x (λ e. omega arith))

  -- What a run leaves before it, and what it stored.
  pub get_or_sets_before : (vs l : List A) (i j : ℕ) (d : A) → j < i → get_or (sets l i vs) j d ≡ get_or l j d
  get_or_sets_before [] l i j d h = refl
  get_or_sets_before (v ∷ vs) l i j d h = get_or_sets_before vs (set l i v) (suc i) j d (omega arith) ∙ get_or-set_other l i j v d (λ e. omega arith)

  pub get_or_sets : (vs l : List A) (i j : ℕ) (d : A) → i + length vs ≤ length l → j < length vs → get_or (sets l i vs) (i + j) d ≡ get_or vs j d
  get_or_sets [] l i j d h g = absurd (omega arith)
  get_or_sets (v ∷ vs) l i zero d h g = rw (add-zero i) (get_or_sets_before vs (set l i v) (suc i) i d (omega arith) ∙ get_or-set_same l i v d (omega arith))
  get_or_sets (v ∷ vs) l i (suc j) d h g =
      let e : i + suc j ≡ suc i + j = omega arith in
      let n = length-set l i v in
      rw e (get_or_sets vs (set l i v) (suc i) j d (omega arith) (omega arith))

  -- A run from the start: what was stored, and the rest as it was.
  pub sets_front : (vs l : List A) → length vs ≤ length l → sets l 0 vs ≡ vs ++ drop (length vs) l
  sets_front vs l h = sets-eq vs l 0 (omega arith) ∙ rw (zero-add (length vs))

  pub map_append : {B : Type 0} (f : A → B) (xs ys : List A) → map f (xs ++ ys) ≡ map f xs ++ map f ys
  map_append f [] ys = refl
  map_append f (x ∷ xs) ys = ap (λ l. f x ∷ l) (map_append f xs ys)

  -- ---- g at m places, from k on

  pub length_from : (g : ℕ → A) (k m : ℕ) → length (from g k m) ≡ m
  unfolding from
  length_from g k zero = refl
  length_from g k (suc m) = ap suc (length_from g (suc k) m)

  pub map_from : {B : Type 0} (f : A → B) (g : ℕ → A) (k m : ℕ) → map f (from g k m) ≡ from (λ i. f (g i)) k m
  unfolding from
  map_from f g k zero = refl
  map_from f g k (suc m) = ap (λ l. f (g k) ∷ l) (map_from f g (suc k) m)

  -- The first of the places that are left, and the others.
  pub from_same : (f g : ℕ → A) (k m : ℕ) → ((j : ℕ) → j < k + m → f j ≡ g j) → from f k m ≡ from g k m
  unfolding from
  from_same f g k zero h = refl
  from_same f g k (suc m) h = rw (h k (omega arith), from_same f g (suc k) m (λ j l. h j (omega arith)))

  pub from_step : (g : ℕ → A) (i n : ℕ) → i < n → from g i (n - i) ≡ g i ∷ from g (i + 1) (n - (i + 1))
  unfolding from
  from_step g i n l = let d : n - i ≡ suc (n - (i + 1)) = omega arith in let e : i + 1 ≡ suc i = omega arith in rw (d, e)

  pub from_done : (g : ℕ → A) (i n : ℕ) → n ≤ i → from g i (n - i) ≡ []
  unfolding from
  from_done g i n l = let d : n - i ≡ 0 = omega arith in rw d

  pub from_all : (g : ℕ → A) (n : ℕ) → from g 0 (n - 0) ≡ from g 0 n
  from_all g n = let d : n - 0 ≡ n = omega arith in rw d

  pub from_append : (g : ℕ → A) (k a b : ℕ) → from g k (a + b) ≡ from g k a ++ from g (k + a) b
  unfolding from
  from_append g k zero b = rw (zero-add b, add-zero k)
  from_append g k (suc a) b = let e : k + suc a ≡ suc k + a = omega arith in rw (suc-add a b, e) (ap (λ (l : List A). g k ∷ l) (from_append g (suc k) a b))

  -- One more place: a store behind a run.
  pub from_more : (g : ℕ → A) (l : List A) (i k m : ℕ) → set (sets l i (from g k m)) (i + m) (g (k + m)) ≡ sets l i (from g k (m + 1))
  unfolding from
  from_more g l i k m =
      rw (from_append g k m 1) (ap (λ (z : ℕ). set (sets l i (from g k m)) (i + z) (g (k + m))) (sym (length_from g k m)) ∙ sets_append (from g k m) (g (k + m) ∷ []) l i)
