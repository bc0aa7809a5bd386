-- A hash is carried on byte by byte, so a name's hash goes on from its prefix's. `search hashing`.
use mathlib.Core.Path.{◌≡◌, refl, sym, ap, ◌∙◌}
use mathlib.Core.List.{List, [], ◌∷◌, ◌++◌}
use Prim.Native.Nat.{ℕ, ◌+◌, ◌-◌, ◌*◌, ◌/◌, ◌%◌, ◌<◌, ◌≤◌}
use native.Mathlib.Nat.{mul-add-mod_self_right}
use native.Mathlib.Numerals.{add-one}
use native.Mathlib.Omega.{arith}
use lib.ListN.{length, get_or, drop, drop_of_length-le}
use lib.Seq.{drop-cons}
use Rattle.index_names.specs.Hash.{mix, hash_on}

pub hash_append : (h : ℕ) (xs ys : List ℕ) → hash_on h (xs ++ ys) ≡ hash_on (hash_on h xs) ys
unfolding hash_on
hash_append h [] ys = refl
hash_append h (x ∷ xs) ys = hash_append (mix h x) xs ys

pub hash_starts : (h : ℕ) (xs : List ℕ) → hash_on h xs ≡ hash_on h (drop 0 xs)
hash_starts h xs = refl

hash_goes : (W h h' i : ℕ) (xs : List ℕ) → W ≡ hash_on h (drop i xs) → i < length xs → h' ≡ mix h (get_or xs i 0) → W ≡ hash_on h' (drop (i + 1) xs)
unfolding hash_on
hash_goes W h h' i xs e l eh = e ∙ rw (drop-cons xs i 0 l, eh, add-one i)

-- Two steps at once: whole multiples of 2^32 make no difference.
pub mix_twice : (h x y : ℕ) → ((h + x + 1) * 637696617 + (y + 1) * 16777619) % 4294967296 ≡ mix (mix h x) y
unfolding mix
mix_twice h x y =
    let z = (h + x + 1) * 16777619 in
    let a = (h + x + 1) * 637696617 + (y + 1) * 16777619 in
    let b = (z % 4294967296 + y + 1) * 16777619 in
    let d : z ≡ z / 4294967296 * 4294967296 + z % 4294967296 = omega arith in
    let e : (h + x + 1) * 65539 * 4294967296 + a ≡ z / 4294967296 * 16777619 * 4294967296 + b = omega arith in
    sym (mul-add-mod_self_right ((h + x + 1) * 65539) 4294967296 a) ∙ ap (λ (w : ℕ). w % 4294967296) e ∙ mul-add-mod_self_right (z / 4294967296 * 16777619) 4294967296 b

pub hash_goes_twice : (W h h' p : ℕ) (xs : List ℕ) → W ≡ hash_on h (drop (p * 2) xs) → p < length xs / 2
    → h' ≡ mix (mix h (get_or xs (p * 2) 0)) (get_or xs (p * 2 + 1) 0) → W ≡ hash_on h' (drop ((p + 1) * 2) xs)
hash_goes_twice W h h' p xs e l eh =
    let two : p * 2 + 1 + 1 ≡ (p + 1) * 2 = omega arith in
    rw two at (hash_goes W _ h' (p * 2 + 1) xs (hash_goes W h _ (p * 2) xs e (omega arith) refl) (omega arith) eh)

hash_ends : (W h i : ℕ) (xs : List ℕ) → W ≡ hash_on h (drop i xs) → length xs ≤ i → h ≡ W
unfolding hash_on
hash_ends W h i xs e l = sym (e ∙ rw (drop_of_length-le xs l))

pub hash_even : (W h p : ℕ) (xs : List ℕ) → W ≡ hash_on h (drop (p * 2) xs) → length xs / 2 ≤ p → length xs % 2 ≡ 0 → h ≡ W
hash_even W h p xs e l z = hash_ends W h (p * 2) xs e (omega arith)

pub hash_odd : (W h r p : ℕ) (xs : List ℕ) → W ≡ hash_on h (drop (p * 2) xs) → p ≡ length xs / 2 → (length xs % 2 ≡ 0 → ⊥)
    → r ≡ mix h (get_or xs (length xs - 1) 0) → r ≡ W
hash_odd W h r p xs e q z er =
    let i : p * 2 ≡ length xs - 1 = omega arith in
    hash_ends W r (length xs - 1 + 1) xs (hash_goes W h r (length xs - 1) xs (rw i at e) (omega arith) er) (omega arith)

pub ruleset hashing = (hash_starts, hash_goes_twice, hash_even, hash_odd)
