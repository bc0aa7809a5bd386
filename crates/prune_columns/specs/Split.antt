-- Pruning in two passes: the place of refusal 20 in the visiting order, and what is kept if there is none.
use Rattle.std.specs.Prelude.{ℕ, suc, ◌+◌, Bool, true, false, ◌&&◌, not, cond}
use Rattle.std.proofs.Math.Option.{Option, none, some}
use Rattle.paper.specs.declared.Kind.{Kind}
use Rattle.paper.specs.declared.Kind.TheVariants.{Primitive, Structure, Listing, Mapping}
use Rattle.paper.specs.declared.Role.{Role}
use Rattle.paper.specs.Answer.{or_else}
use Rattle.paper.specs.Forest.{Forest, empty, node, size}
use Rattle.paper.specs.Field.{first, after, is_struct}
use Rattle.paper.specs.Prune.{tested, yielding, assembled}

abbrev pub is_nested : Kind → Bool
is_nested Primitive = false
is_nested Structure = false
is_nested Listing = true
is_nested Mapping = true

-- A list or map chosen directly, not in full mode.
abbrev pub direct : (full : Bool) → Role → (picked : Bool) → Kind → Bool
direct full r picked k = tested r picked && (not full && is_nested k)

-- The place of 20: insides first.
unfoldable pub first_direct : {A : Type 0} → (A → Bool) → (A → Kind) → Bool → Role → ℕ → Forest A → Option ℕ
first_direct picks kind full r slot empty = none
first_direct picks kind full r slot (node a m n) =
    or_else (first_direct picks kind full (first (kind a)) (suc slot) m)
    (cond (direct full r (picks a) (kind a)) (some slot) (first_direct picks kind full (after r) (suc (slot + size m)) n))

-- What is kept of the inside m of a record that is no key, and whose type yields y.
abbrev pub held : {A : Type 0} → (full picked : Bool) → Kind → (m y : Forest A) → Option (Forest A)
held full false k m y = yielding y
held true true k m y = some m
held false true k m y = cond (is_struct k) (some y) (some m)

unfoldable pub projected : {A : Type 0} → (A → Bool) → (A → Kind) → Bool → Role → Forest A → Forest A
projected picks kind full r empty = empty
projected picks kind full r (node a m n) =
    assembled r (picks a) a m n (held full (picks a) (kind a) m (projected picks kind full (first (kind a)) m)) (projected picks kind full (after r) n)
