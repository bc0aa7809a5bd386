-- Numbers in a row: what stands in `range`, and how often.
use Prim.Native.Nat.{ℕ, zero, suc, ◌+◌, ◌<◌, ◌≤◌}
use mathlib.Core.Path.{◌≡◌, refl, sym, ap}
use mathlib.Core.Logic.{inl, inr}
use mathlib.Core.Bool.{Bool, true, false, ◌||◌, cond, true≢false}
use mathlib.Core.Option.{none}
use mathlib.Core.List.{List, [], ◌∷◌, ◌++◌}
use native.Mathlib.Omega.{arith}
use native.Mathlib.Nat.{suc-add, add-suc, zero-add, add-zero}
use lib.Dec.{eqb, leb}
use lib.ListN.{length}
use borrow.Author.Tests.{eq-eqb, eqb-true, eqb-false, leb-true, leb-false}
use Rattle.paper.specs.Answer.{any, repeated, among}
use Rattle.laws.specs.Members.{◌∈◌}
use Rattle.laws.proofs.Basics.{Distinct}
use Rattle.theorems.specs.Numbers.{range, tally}

-- ---- range

pub range_append : (c a b : ℕ) → range c (a + b) ≡ range c a ++ range (c + a) b
range_append c zero b = rw (zero-add b, add-zero c)
range_append c (suc a) b =
    let r = rw (suc-add c a) at (range_append (suc c) a b) in
    rw (suc-add a b, add-suc c a) (ap (λ (s : List ℕ). c ∷ s) r)

pub in_range : (x c n : ℕ) → x ∈ range c n → (c ≤ x) × (x < c + n)
in_range x c zero h = absurd h
in_range x c (suc n) (inl e) = (omega arith, omega arith)
in_range x c (suc n) (inr h) = let r = in_range x (suc c) n h in (omega arith, omega arith)

-- ---- tally

pub tally_append : (i : ℕ) (s t : List ℕ) → tally i (s ++ t) ≡ tally i s + tally i t
tally_append i [] t = omega arith
tally_append i (x ∷ s) t = let r = tally_append i s t in omega arith

pub tally_range : (i c a b : ℕ) → tally i (range c (a + b)) ≡ tally i (range c a) + tally i (range (c + a) b)
tally_range i c a b = rw (range_append c a b) (tally_append i (range c a) (range (c + a) b))

pub tally_in : (i : ℕ) (s : List ℕ) → i ∈ s → 1 ≤ tally i s
tally_in i [] h = absurd h
tally_in i (x ∷ s) (inl e) = rw (eq-eqb i x e) (omega arith)
tally_in i (x ∷ s) (inr h) = let r = tally_in i s h in omega arith

pub in_tally : (i : ℕ) (s : List ℕ) → 1 ≤ tally i s → i ∈ s
in_tally i [] l = absurd (omega arith)
in_tally i (x ∷ s) l = go (eqb i x) refl l (in_tally i s)
  where
    go : (b : Bool) → eqb i x ≡ b → 1 ≤ cond b 1 0 + tally i s → (1 ≤ tally i s → i ∈ s) → i ∈ (x ∷ s)
    go true e l f = inl (eqb-true i x e)
    go false e l f = inr (f (omega arith))

pub tally_out : (i : ℕ) (s : List ℕ) → (i ∈ s → ⊥) → tally i s ≡ 0
tally_out i [] out = refl
tally_out i (x ∷ s) out = go (eqb i x) refl (tally_out i s (λ h. out (inr h)))
  where
    go : (b : Bool) → eqb i x ≡ b → tally i s ≡ 0 → cond b 1 0 + tally i s ≡ 0
    go true e z = absurd (out (inl (eqb-true i x e)))
    go false e z = omega arith

pub tally_distinct : (i : ℕ) (s : List ℕ) → Distinct s → tally i s ≤ 1
tally_distinct i [] d = omega arith
tally_distinct i (x ∷ s) d = go (eqb i x) refl (tally_distinct i s d.1)
  where
    go : (b : Bool) → eqb i x ≡ b → tally i s ≤ 1 → cond b 1 0 + tally i s ≤ 1
    go true e l = let z = tally_out i s (rw (← (eqb-true i x e)) at d.0) in omega arith
    go false e l = omega arith

-- How often the numbers of one list stand in another, all together: where nothing stands there twice, at most as often
-- as there are numbers.
abbrev pub tallies : (asked s : List ℕ) → ℕ
tallies [] s = 0
tallies (i ∷ asked) s = tally i s + tallies asked s

pub tallies_append : (asked s t : List ℕ) → tallies asked (s ++ t) ≡ tallies asked s + tallies asked t
tallies_append [] s t = refl
tallies_append (i ∷ asked) s t =
    let a = tally_append i s t in
    let r = tallies_append asked s t in
    omega arith

pub tallies_among : (asked : List ℕ) (x : ℕ) → among x asked ≡ true → 1 ≤ tallies asked (x ∷ [])
tallies_among [] x e = absurd (true≢false (sym e))
tallies_among (i ∷ asked) x e = go (eqb x i) refl e (tallies_among asked x)
  where
    go : (b : Bool) → eqb x i ≡ b → (b || among x asked) ≡ true → (among x asked ≡ true → 1 ≤ tallies asked (x ∷ []))
        → 1 ≤ tallies (i ∷ asked) (x ∷ [])
    go true q h r = rw (eq-eqb i x (sym (eqb-true x i q))) (omega arith)
    go false q h r = let l = r h in omega arith

pub tallies_distinct : (asked s : List ℕ) → Distinct s → tallies asked s ≤ length asked
tallies_distinct [] s d = omega arith
tallies_distinct (i ∷ asked) s d =
    let a = tally_distinct i s d in
    let r = tallies_distinct asked s d in
    omega arith

-- Each number of a range stands in it once, and no other does.
pub record Once (i c n : ℕ) : Type 0 where
  pub inside : c ≤ i → i < c + n → tally i (range c n) ≡ 1
  pub below : i < c → tally i (range c n) ≡ 0
  pub past : c + n ≤ i → tally i (range c n) ≡ 0

pub once : (i c n : ℕ) → Once i c n
once i c zero = record { inside = λ l g. absurd (omega arith); below = λ _. refl; past = λ _. refl }
once i c (suc n) = go (eqb i c) refl (once i (suc c) n)
  where
    go : (b : Bool) → eqb i c ≡ b → Once i (suc c) n → Once i c (suc n)
    go true e r =
        let q = eqb-true i c e in
        let z = r.below (omega arith) in
        record {
          inside = λ l g. rw e (omega arith);
          below = λ l. absurd (omega arith);
          past = λ l. absurd (omega arith);
        }
    go false e r =
        let w = eqb-false i c e in
        record {
          inside = λ l g. let z = r.inside (omega arith) (omega arith) in rw e (omega arith);
          below = λ l. let z = r.below (omega arith) in rw e (omega arith);
          past = λ l. let z = r.past (omega arith) in rw e (omega arith);
        }

pub at_most_once : (i c n : ℕ) → tally i (range c n) ≤ 1
at_most_once i c n = low (leb c i) refl
  where
    high : (b : Bool) → leb (c + n) i ≡ b → c ≤ i → tally i (range c n) ≤ 1
    high true q l = let z = (once i c n).past (leb-true (c + n) i q) in omega arith
    high false q l = let z = (once i c n).inside l (leb-false (c + n) i q) in omega arith

    low : (b : Bool) → leb c i ≡ b → tally i (range c n) ≤ 1
    low true q = high (leb (c + n) i) refl (leb-true c i q)
    low false q = let z = (once i c n).below (leb-false c i q) in omega arith

pub inside_low : (x c n : ℕ) → 1 ≤ tally x (range c n) → c ≤ x
inside_low x c n h = go (leb c x) refl
  where
    go : (b : Bool) → leb c x ≡ b → c ≤ x
    go true q = leb-true c x q
    go false q = let z = (once x c n).below (leb-false c x q) in absurd (omega arith)

pub inside_high : (x c n : ℕ) → 1 ≤ tally x (range c n) → x < c + n
inside_high x c n h = go (leb (c + n) x) refl
  where
    go : (b : Bool) → leb (c + n) x ≡ b → x < c + n
    go true q = let z = (once x c n).past (leb-true (c + n) x q) in absurd (omega arith)
    go false q = leb-false (c + n) x q

-- ---- lists in which each number stands at most once have no equal elements

not_seen : (x : ℕ) (seen : List ℕ) → tally x seen ≡ 0 → any (eqb x) seen ≡ false
not_seen x [] e = refl
not_seen x (y ∷ seen) e = go (eqb x y) e (not_seen x seen)
  where
    go : (b : Bool) → cond b 1 0 + tally x seen ≡ 0 → (tally x seen ≡ 0 → any (eqb x) seen ≡ false)
        → (b || any (eqb x) seen) ≡ false
    go true q r = absurd (omega arith)
    go false q r = r (omega arith)

pub none_repeated : (seen : List ℕ) (k : ℕ) (s : List ℕ) → ((i : ℕ) → tally i seen + tally i s ≤ 1)
    → repeated eqb seen k s ≡ none
none_repeated seen k [] h = refl
none_repeated seen k (x ∷ s) h =
    let a = rw (eq-eqb x x refl) at (h x) in
    rw (not_seen x seen (omega arith)) (none_repeated (x ∷ seen) (suc k) s (λ i. let b = h i in omega arith))
