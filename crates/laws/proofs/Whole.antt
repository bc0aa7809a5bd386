-- `decode` leaves no record out: each root takes one record at least, and the roots go on until none is left.
use Prim.Native.Nat.{ℕ, zero, suc, ◌+◌, ◌≤◌}
use mathlib.Core.Path.{◌≡◌, refl, ap}
use mathlib.Core.Bool.{Bool, true, false}
use mathlib.Core.List.{List}
use native.Mathlib.Omega.{arith}
use lib.Dec.{ltb}
use borrow.Author.Tests.{ltb-false}
use Rattle.paper.specs.Answer.{Answer, ok, ◌>>=◌}
use Rattle.paper.specs.Forest.{Forest, size, mapped}
use Rattle.paper.specs.Field.{Field}
use Rattle.paper.specs.Bytes.{field_at, kids_at, slots}
use Rattle.paper.specs.Layout.{Part, nothing, before, row, roots}
use Rattle.paper.specs.Decode.{fields, decode}
use Rattle.laws.proofs.Basics.{unbind, ok_is}
use Rattle.laws.proofs.Taken.{roots_take}
use Rattle.laws.proofs.Fitting.{size_mapped}

-- Of a walk from k on that took p after a: what was taken before b.
step : (k n most : ℕ) (a b p : Part) → before k a b ≡ p → p.next ≡ k + size p.trees
    → b.next ≡ a.next + size b.trees
    → n ≤ k + suc most → (n ≤ a.next + most → n ≤ b.next) → n ≤ p.next
unfolding size
step k n most a b p e t u l go =
    let d = ap (λ (x : Part). x.next) e in
    let s = ap (λ (x : Part). size x.trees) e in
    let r = go (omega arith) in
    omega arith

module _ (list : ℕ) (kids : ℕ → ℕ) (n : ℕ) where
  roots_whole : (most k : ℕ) (p : Part) → roots list kids n most k ≡ ok p → n ≤ k + most → n ≤ p.next
  unfolding roots
  roots_whole zero k p e l = let d = ap (λ (x : Part). x.next) (ok_is e) in omega arith
  roots_whole (suc most) k p e l =
      go (ltb k n) refl e (roots_take list kids n (suc most) k p e).end (roots_whole most)
    where
      go : (b : Bool) → ltb k n ≡ b
          → ◌≡◌ {A = Answer Part} (elim b [
            | true ↦ (row list kids n 15 (kids k) (suc k) >>= λ a. roots list kids n most a.next >>= λ b. ok (before k a b))
            | false ↦ ok (nothing k)
          ]) (ok p)
          → p.next ≡ k + size p.trees
          → ((k : ℕ) (p : Part) → roots list kids n most k ≡ ok p → n ≤ k + most → n ≤ p.next) → n ≤ p.next
      go true q h t r =
          unbind _ _ h λ a _ a₁. unbind _ _ a₁ λ b e₂ a₂.
          step k n most a b p (ok_is a₂) t (roots_take list kids n most a.next b e₂).end l (r a.next b e₂)
      go false q h t r = let d = ap (λ (x : Part). x.next) (ok_is h) in let o = ltb-false k n q in omega arith

-- As many records as the list has.
pub decode_size : (list : ℕ) (s pool : List ℕ) (t : Forest Field) → decode list s pool ≡ ok t
    → size t ≡ slots s
unfolding decode fields
decode_size list s pool t e =
    unbind _ _ e λ _ _ a₁. unbind _ _ a₁ λ _ _ a₂. unbind _ _ a₂ λ p e₃ a₃. unbind _ _ a₃ λ _ _ a₄.
    let n = slots s in
    let o = roots_take list (kids_at s) n n 0 p e₃ in
    let d = o.end in
    let i = o.inside (omega arith) in
    let w = roots_whole list (kids_at s) n n 0 p e₃ (omega arith) in
    let z = size_mapped (field_at pool s) p.trees in
    let c : size (mapped (field_at pool s) p.trees) ≡ size t = ap size (ok_is a₄) in
    omega arith
