-- The paper's `pruned`, on fields, is the two walks, on slots: each step of it is a test for 20 and what is kept.
use mathlib.Core.Path.{◌≡◌, refl, ap, ◌∙◌}
use mathlib.Core.Bool.{Bool, true, false, cond}
use mathlib.Core.Option.{Option, none, some}
use mathlib.Core.List.{List}
use Prim.Native.Nat.{ℕ, suc, ◌+◌, ◌<◌}
use Rattle.paper.specs.declared.Kind.{Kind}
use Rattle.paper.specs.declared.Kind.TheVariants.{Primitive, Structure, Listing, Mapping}
use Rattle.paper.specs.declared.Role.{Role}
use Rattle.paper.specs.declared.Role.TheVariants.{Member, Element, Key, Value}
use Rattle.paper.specs.Answer.{Answer, ok, ◌>>=◌, fault, or_else}
use Rattle.paper.specs.Forest.{Forest, empty, node, size, mapped}
use Rattle.paper.specs.Field.{Field, kind_of, first, after}
use Rattle.paper.specs.Bytes.{field_at, kind_at}
use Rattle.paper.specs.Decode.{fields}
use Rattle.paper.specs.Prune.{kept, yielding, tested, assembled, pruned}
use Rattle.laws.proofs.Natural.{on_answer, pruned_mapped}
use Rattle.laws.proofs.Taken as taken
use Rattle.prune_columns.specs.Split.{direct, first_direct, held, projected}

-- An answer by its refusal 20, if any.
abbrev pub unless : {A : Type 0} → Option ℕ → A → Answer A
unless o a = fault 20 0 o >>= λ _. ok a

pub record Splits {A : Type 0} (x : Answer A) (o : Option ℕ) (a : A) : Type 0 where
  pub split : x ≡ unless o a

ok_splits : {A : Type 0} (a : A) → Splits (ok a) none a
unfolding ◌>>=◌
ok_splits a = record { split = refl }

bind_splits : {A B : Type 0} (x : Answer A) (f : A → Answer B) {o p : Option ℕ} {a : A} {b : B} → Splits x o a → Splits (f a) p b → Splits (x >>= f) (or_else o p) b
unfolding ◌>>=◌
bind_splits x f {o = none} h k = record { split = rw h.split k.split }
bind_splits x f {o = some q} h k = record { split = rw h.split }

module _ {A : Type 0} where
  plain_splits : (slot : ℕ) (full b : Bool) (k : Kind) (m y : Forest A) → Splits (kept slot full b k m y) (cond (direct full Member b k) (some slot) none) (held full b k m y)
  unfolding ◌>>=◌
  plain_splits slot full false k m y = record { split = refl }
  plain_splits slot true true k m y = record { split = refl }
  plain_splits slot false true Primitive m y = record { split = refl }
  plain_splits slot false true Structure m y = record { split = refl }
  plain_splits slot false true Listing m y = record { split = refl }
  plain_splits slot false true Mapping m y = record { split = refl }

  -- a key is never tested
  kept_as : Role → Bool → Bool → Kind → (m y : Forest A) → Option (Forest A)
  kept_as Member full b k m y = held full b k m y
  kept_as Element full b k m y = held full b k m y
  kept_as Value full b k m y = held full b k m y
  kept_as Key full b k m y = yielding y

  kept_splits : (r : Role) (slot : ℕ) (full b : Bool) (k : Kind) (m y : Forest A) → Splits (kept slot full (tested r b) k m y) (cond (direct full r b k) (some slot) none) (kept_as r full b k m y)
  unfolding kept_as ◌>>=◌
  kept_splits Member slot full b k m y = plain_splits slot full b k m y
  kept_splits Element slot full b k m y = plain_splits slot full b k m y
  kept_splits Value slot full b k m y = plain_splits slot full b k m y
  kept_splits Key slot full b k m y = record { split = refl }

  kept_same : (r : Role) (full b : Bool) (a : A) (k : Kind) (m n y rest : Forest A) → assembled r b a m n (kept_as r full b k m y) rest ≡ assembled r b a m n (held full b k m y) rest
  unfolding kept_as
  kept_same Member full b a k m n y rest = refl
  kept_same Element full b a k m n y rest = refl
  kept_same Value full b a k m n y rest = refl
  kept_same Key full b a k m n y rest = refl

  module _ (picks : A → Bool) (kind : A → Kind) (full : Bool) where
    or_cond : (b : Bool) (p : ℕ) (o : Option ℕ) → or_else (cond b (some p) none) (or_else o none) ≡ cond b (some p) o
    or_cond true p o = refl
    or_cond false p none = refl
    or_cond false p (some q) = refl

    pub pruned_splits : (r : Role) (slot : ℕ) (t : Forest A) → Splits (pruned picks kind full r slot t) (first_direct picks kind full r slot t) (projected picks kind full r t)
    unfolding first_direct projected
    pruned_splits r slot empty = ok_splits empty
    pruned_splits r slot (node a m n) =
        let y = projected picks kind full (first (kind a)) m in
        rw (← (or_cond (direct full r (picks a) (kind a)) slot (first_direct picks kind full (after r) (suc (slot + size m)) n)), ← (kept_same r full (picks a) a (kind a) m n y (projected picks kind full (after r) n)))
        (bind_splits _ _ (pruned_splits (first (kind a)) (suc slot) m)
        (bind_splits _ _ (kept_splits r slot full (picks a) (kind a) m y)
        (bind_splits _ _ {p = none} (pruned_splits (after r) (suc (slot + size m)) n) (ok_splits _))))

-- ---- only what is asked of the slots counts

module _ (picks picks' : ℕ → Bool) (kind : ℕ → Kind) (full : Bool) (kids : ℕ → ℕ) (n : ℕ) (same : (k : ℕ) → k < n → picks k ≡ picks' k) where
  pub direct_agrees : (r : Role) (slot k : ℕ) (t : Forest ℕ) → taken.Laid kids n k t → first_direct picks kind full r slot t ≡ first_direct picks' kind full r slot t
  unfolding first_direct
  direct_agrees r slot k empty l = refl
  direct_agrees r slot k (node j m u) l =
      rw (l.0, same k l.1, direct_agrees (first (kind k)) (suc slot) (suc k) m l.3, direct_agrees (after r) (suc (slot + size m)) (suc (k + size m)) u l.4)

  pub projected_agrees : (r : Role) (k : ℕ) (t : Forest ℕ) → taken.Laid kids n k t → projected picks kind full r t ≡ projected picks' kind full r t
  unfolding projected
  projected_agrees r k empty l = refl
  projected_agrees r k (node j m u) l =
      rw (l.0, same k l.1, projected_agrees (first (kind k)) (suc k) m l.3, projected_agrees (after r) (suc (k + size m)) u l.4)

on_unless : {A B : Type 0} (h : A → B) (o : Option ℕ) (a : A) → on_answer h (unless o a) ≡ unless o (h a)
unfolding ◌>>=◌
on_unless h none a = refl
on_unless h (some p) a = refl

-- The bridge: marks on slots for a test on fields.
pub pruned_fields : (pool s : List ℕ) (picks : Field → Bool) (marks : ℕ → Bool) (full : Bool) (kids : ℕ → ℕ) (n : ℕ) (t : Forest ℕ) → taken.Laid kids n 0 t → ((k : ℕ) → k < n → picks (field_at pool s k) ≡ marks k)
    → pruned picks kind_of full Member 0 (fields pool s t) ≡ unless (first_direct marks (kind_at s) full Member 0 t) (fields pool s (projected marks (kind_at s) full Member t))
unfolding fields field_at
pruned_fields pool s picks marks full kids n t l same =
    pruned_mapped (field_at pool s) picks kind_of full Member 0 t
    ∙ ap (on_answer (mapped (field_at pool s))) (pruned_splits (λ k. picks (field_at pool s k)) (kind_at s) full Member 0 t).split
    ∙ on_unless (mapped (field_at pool s)) (first_direct (λ k. picks (field_at pool s k)) (kind_at s) full Member 0 t) (projected (λ k. picks (field_at pool s k)) (kind_at s) full Member t)
    ∙ rw (direct_agrees (λ k. picks (field_at pool s k)) marks (kind_at s) full kids n same Member 0 0 t l, projected_agrees (λ k. picks (field_at pool s k)) marks (kind_at s) full kids n same Member 0 t l)
