-- Names: `search naming`.
use Rattle.std.proofs.Common.{◌≡◌, ℕ, ◌+◌, ◌-◌, ◌≤◌, true, List, take, drop, arith, ne_eqb, leb-true}
use native.Mathlib.Nat.{add-sub_cancel_left}
use Rattle.paper.specs.declared.Kind.TheVariants.{Primitive, Structure, Listing, Mapping}
use Rattle.paper.specs.Bytes.{rec_at, name_of, in_pool, kind_from}

module _ (s : List ℕ) (k from len : ℕ) (er : from ≡ (rec_at s k).name_at) (eb : len ≡ (rec_at s k).name_len) where
  pub name_within : (n : ℕ) → in_pool n s k ≡ true → from + len ≤ n
  unfolding in_pool
  name_within n h = omega (arith, leb-true)

  pub name_is : (pool : List ℕ) → take (from + len - from) (drop from pool) ≡ name_of pool s k
  unfolding name_of
  name_is pool = rw (add-sub_cancel_left from len, er, eb)

module _ (b : ℕ) where
  pub kind_0 : b ≡ 0 → Primitive ≡ kind_from b
  unfolding kind_from
  kind_0 e = rw e

  pub kind_1 : b ≡ 1 → Structure ≡ kind_from b
  unfolding kind_from
  kind_1 e = rw e

  pub kind_2 : b ≡ 2 → Listing ≡ kind_from b
  unfolding kind_from
  kind_2 e = rw e

  pub kind_3 : (b ≡ 0 → ⊥) → (b ≡ 1 → ⊥) → (b ≡ 2 → ⊥) → Mapping ≡ kind_from b
  unfolding kind_from
  kind_3 e f g = rw (ne_eqb b 0 e, ne_eqb b 1 f, ne_eqb b 2 g)

pub ruleset kinds = (kind_0, kind_1, kind_2, kind_3)

pub ruleset naming = (name_within, name_is)
