-- A part of a tree: it has no other ids or names than the tree, in the same order, and is no larger.
use Prim.Native.Nat.{ℕ, suc, ◌≤◌}
use mathlib.Core.Path.{◌≡◌, refl}
use mathlib.Core.Bool.{Bool, false}
use mathlib.Core.List.Sublistᴰ
use mathlib.Core.List.{List, [], ◌∷◌, Sublistᴰ}
use mathlib.Core.Option.{Option, none, some}
use native.Mathlib.Omega.{arith}
use lib.Dec.{eqb}
use Rattle.paper.specs.Answer.{ok, any, same, repeated}
use Rattle.paper.specs.Forest.{Forest, empty, node, size, siblings, levels}
use Rattle.paper.specs.Field.{Field}
use Rattle.paper.specs.Rows.{dotted}
use Rattle.paper.specs.Sound.{ids, names, sound, name_bytes}
use Rattle.laws.proofs.Basics.{unbind, rebind, fault_ok, no_fault, cond_none, neither}
use Rattle.theorems.specs.Changed.{Part, done, skip, keep, columns}

pub part_none : (t : Forest Field) → Part empty t
part_none empty = done
part_none (node f m n) = skip (part_none n)

pub part_all : (t : Forest Field) → Part t t
part_all empty = done
part_all (node f m n) = keep (part_all m) (part_all n)

-- ---- its columns, ids and names are those of the tree, in order

pub part_columns : (q : Option ℕ) {t' t : Forest Field} → Part t' t → Sublistᴰ (columns q t') (columns q t)
part_columns q done = Sublistᴰ.slnil
part_columns q (skip {f = f} {m = m} p) =
    Sublistᴰ.cons (Sublistᴰ.append (Sublistᴰ.nil-sublist (columns (some f.id) m)) (part_columns q p))
part_columns q (keep {f = f} p k) =
    Sublistᴰ.cons-cons refl (Sublistᴰ.append (part_columns (some f.id) p) (part_columns q k))

part_ids : {t' t : Forest Field} → Part t' t → Sublistᴰ (ids t') (ids t)
unfolding ids
part_ids done = Sublistᴰ.slnil
part_ids (skip {m = m} p) = Sublistᴰ.cons (Sublistᴰ.append (Sublistᴰ.nil-sublist (ids m)) (part_ids p))
part_ids (keep p q) = Sublistᴰ.cons-cons refl (Sublistᴰ.append (part_ids p) (part_ids q))

part_names : (x : List ℕ) {t' t : Forest Field} → Part t' t → Sublistᴰ (names x t') (names x t)
unfolding names
part_names x done = Sublistᴰ.slnil
part_names x (skip {f = f} {m = m} p) =
    let left_out = Sublistᴰ.nil-sublist (names (dotted x f.name) m) in
    Sublistᴰ.cons (Sublistᴰ.append left_out (part_names x p))
part_names x (keep {f = f} p q) =
    Sublistᴰ.cons-cons refl (Sublistᴰ.append (part_names (dotted x f.name) p) (part_names x q))

-- ---- so 7 and 8 stay passed

sub_repeated : {A : Type 0} (t : A → A → Bool) {s' s : List A} → Sublistᴰ s' s
    → (seen' seen : List A) (k' k : ℕ)
    → ((x : A) → any (t x) seen ≡ false → any (t x) seen' ≡ false) → repeated t seen k s ≡ none
    → repeated t seen' k' s' ≡ none
sub_repeated t Sublistᴰ.slnil seen' seen k' k h e = refl
sub_repeated t (Sublistᴰ.cons {a = a} {l₂ = s} p) seen' seen k' k h e =
    let c = cond_none (any (t a) seen) k (repeated t (a ∷ seen) (suc k) s) e in
    sub_repeated t p seen' (a ∷ seen) k' (suc k) (λ x g. h x (neither (t x a) (any (t x) seen) g).1) c.1
sub_repeated t (Sublistᴰ.cons-cons {a = a} {b = b} {l₂ = s} q p) seen' seen k' k h e =
    let c = cond_none (any (t b) seen) k (repeated t (b ∷ seen) (suc k) s) e in
    let z : any (t a) seen' ≡ false = rw q (h b c.0) in
    rw z
    (sub_repeated t p (a ∷ seen') (b ∷ seen) (suc k') (suc k)
    (λ x g. let w = neither (t x b) (any (t x) seen) g in rw (q, w.0) (h x w.1))
    c.1)

pub sound_part : {t' t : Forest Field} → Part t' t → sound 0 t [] ≡ ok tt → sound 0 t' [] ≡ ok tt
unfolding sound
sound_part {t'} {t} p e =
    unbind _ _ e λ _ e₁ a₁. unbind _ _ a₁ λ _ e₂ a₂.
    let seven = fault_ok 7 0 (repeated eqb [] 0 (ids t)) e₁ in
    let eight = fault_ok 8 0 (repeated same [] 0 (names [] t)) e₂ in
    let i = sub_repeated eqb (part_ids p) [] [] 0 0 (λ x g. g) seven in
    let n = sub_repeated same (part_names [] p) [] [] 0 0 (λ x g. g) eight in
    rebind _ _ (no_fault 7 0 i) (rebind _ _ (no_fault 8 0 n) refl)

-- ---- it is no larger

pub part_siblings : {t' t : Forest Field} → Part t' t → siblings t' ≤ siblings t
unfolding siblings
part_siblings done = omega arith
part_siblings (skip p) = let r = part_siblings p in omega arith
part_siblings (keep p q) = let r = part_siblings q in omega arith

pub part_size : {t' t : Forest Field} → Part t' t → size t' ≤ size t
unfolding size
part_size done = omega arith
part_size (skip p) = let r = part_size p in omega arith
part_size (keep p q) = let r = part_size p in let r' = part_size q in omega arith

pub part_levels : {t' t : Forest Field} → Part t' t → levels t' ≤ levels t
unfolding levels
part_levels done = omega arith
part_levels (skip p) = let r = part_levels p in omega arith
part_levels (keep p q) = let r = part_levels p in let r' = part_levels q in omega arith

pub part_bytes : {t' t : Forest Field} → Part t' t → name_bytes t' ≤ name_bytes t
unfolding name_bytes
part_bytes done = omega arith
part_bytes (skip p) = let r = part_bytes p in omega arith
part_bytes (keep p q) = let r = part_bytes p in let r' = part_bytes q in omega arith
