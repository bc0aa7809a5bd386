-- A row that is read: its first record, the row inside it and the rest. For walks that come after refusal 5 was tested.
use mathlib.Core.Path.{◌≡◌, refl, sym, ap, ◌∙◌}
use mathlib.Core.Bool.{true, true≢false}
use mathlib.Core.List.{List}
use Prim.Native.Nat.{ℕ, zero, suc, ◌+◌, ◌*◌, ◌-◌, ◌<◌, ◌≤◌}
use native.Mathlib.Omega.{arith}
use Rattle.paper.specs.Answer.{Answer, ok, refused}
use Rattle.paper.specs.Bytes.{kids_at}
use Rattle.paper.specs.Layout.{Part, nothing, before, row}
use Rattle.record.specs.declared.Refusal.{Refusal}
use Rattle.tree.specs.Answers.{Walked}
use Rattle.std.specs.Prelude.{Ok, Err}
use Rattle.tree.specs.Says.{ended}
use Rattle.tree.specs.Read.{got, fine, part, reads, Rowed, Standing}
use Rattle.laws.proofs.Written.{siblings_size}
use Rattle.tree.proofs.Reading.{row_none}
use Rattle.tree.proofs.Filled.{Full, full, row_parts, ended_ok, ended_no}

pub fine_got : (x : Answer Part) → fine x ≡ true → x ≡ ok (got x)
fine_got (ok p) e = refl
fine_got (refused n l k) e = absurd (true≢false (sym e))

got_is : (x : Answer Part) (p : Part) → x ≡ ok p → got x ≡ p
got_is x p e = rw e

fine_is : (x : Answer Part) (p : Part) → x ≡ ok p → fine x ≡ true
fine_is x p e = rw e

pub part_is : (li : ℕ) (kids : ℕ → ℕ) (n lv c k : ℕ) (p : Part) → row li kids n lv c k ≡ ok p → part li kids n lv c k ≡ p
unfolding part
part_is li kids n lv c k p e = got_is (row li kids n lv c k) p e

pub reads_is : (li : ℕ) (kids : ℕ → ℕ) (n lv c k : ℕ) (p : Part) → row li kids n lv c k ≡ ok p → reads li kids n lv c k ≡ true
unfolding reads
reads_is li kids n lv c k p e = fine_is (row li kids n lv c k) p e

pub part_none : (li : ℕ) (kids : ℕ → ℕ) (n lv c k : ℕ) → c ≡ 0 → part li kids n lv c k ≡ nothing k
part_none li kids n lv c k e = part_is li kids n lv c k (nothing k) (row_none li kids n lv c k e)

module _ (li : ℕ) (kids : ℕ → ℕ) (n lv c k : ℕ) (s : reads li kids n lv c k ≡ true) where
  pub was_read : row li kids n lv c k ≡ ok (part li kids n lv c k)
  unfolding reads part
  was_read = fine_got (row li kids n lv c k) s

  pub part_full : Full kids n c k (part li kids n lv c k)
  part_full = full li kids n lv c k (part li kids n lv c k) was_read

  -- each of the trees is a record at least
  pub few : k ≤ n → k + c ≤ n
  few h = let f = part_full in omega (arith, f.next, f.most h, f.trees, siblings_size (part li kids n lv c k).trees)

  pub no_deep : (c ≡ 0 → ⊥) → lv ≡ 0 → ⊥
  no_deep h = row_parts li kids n (lv ≡ 0 → ⊥) lv c k (part li kids n lv c k) h was_read λ a b q l ea eb ej. q

  pub no_past : (c ≡ 0 → ⊥) → n ≤ k → ⊥
  no_past h = row_parts li kids n (n ≤ k → ⊥) lv c k (part li kids n lv c k) h was_read λ a b q l ea eb ej g. omega arith

  module _ (m : ℕ) (h : c ≡ 0 → ⊥) (em : m ≡ kids k) where
    pub part_in : part li kids n lv c k ≡ before k (part li kids n (lv - 1) m (k + 1)) (part li kids n lv (c - 1) (part li kids n (lv - 1) m (k + 1)).next)
    part_in = row_parts li kids n _ lv c k (part li kids n lv c k) h was_read λ a b q l ea eb ej.
        let pa = part_is li kids n (lv - 1) (kids k) (k + 1) a ea in
        sym ej ∙ rw (em, pa, part_is li kids n lv (c - 1) a.next b eb)

    pub reads_inner : reads li kids n (lv - 1) m (k + 1) ≡ true
    reads_inner = row_parts li kids n _ lv c k (part li kids n lv c k) h was_read λ a b q l ea eb ej. rw em (reads_is li kids n (lv - 1) (kids k) (k + 1) a ea)

    pub reads_rest : (j : ℕ) → j ≡ (part li kids n (lv - 1) m (k + 1)).next → reads li kids n lv (c - 1) j ≡ true
    reads_rest j ej = row_parts li kids n _ lv c k (part li kids n lv c k) h was_read λ a b q l ea eb _.
        rw (ej, em, part_is li kids n (lv - 1) (kids k) (k + 1) a ea) (reads_is li kids n lv (c - 1) a.next b eb)

    -- the slot after the inside is within the list
    pub next_in : (j : ℕ) → k < n → j ≡ (part li kids n (lv - 1) m (k + 1)).next → j ≤ n
    next_in j l ej = row_parts li kids n _ lv c k (part li kids n lv c k) h was_read λ a b q _ ea eb _.
        rw (ej, em, part_is li kids n (lv - 1) (kids k) (k + 1) a ea) ((full li kids n (lv - 1) (kids k) (k + 1) a ea).most (omega arith))

-- where no level is left there is no tree left
pub shallow : (li : ℕ) (kids : ℕ → ℕ) (n lv c k : ℕ) → reads li kids n lv c k ≡ true → k ≤ n → n ≤ 1024 → c ≤ lv * 1024
shallow li kids n zero zero k s h l = omega arith
shallow li kids n zero (suc c) k s h l = absurd (no_deep li kids n 0 (suc c) k s (λ z. omega arith) refl)
shallow li kids n (suc lv) c k s h l = omega (arith, few li kids n (suc lv) c k s h)

-- ---- where a row and a tree end

module _ (li : ℕ) (s : List ℕ) (n lv c k : ℕ) (w : Walked) (h : Rowed li s n lv c k) (ew : w ≡ ended (row li (kids_at s) n lv c k)) where
  pub end_is : (j : ℕ) → w ≡ Ok j → j ≡ (part li (kids_at s) n lv c k).next
  end_is j e = ended_ok _ (row li (kids_at s) n lv c k) w j ew e λ p ep en. sym (ap (λ (z : Part). z.next) (part_is li (kids_at s) n lv c k p ep) ∙ en)

  pub end_not : (t : Refusal) (j : ℕ) → w ≡ Err t → j ≡ (part li (kids_at s) n lv c k).next
  end_not t j e = absurd (ended_no (row li (kids_at s) n lv c k) (part li (kids_at s) n lv c k) w t (was_read li (kids_at s) n lv c k h.read) ew e)

-- the inside of a record, as a row
pub stands_row : (li : ℕ) (s : List ℕ) (n lv k m : ℕ) → Standing li s n lv k → m ≡ kids_at s k → Rowed li s n lv m (k + 1)
stands_row li s n lv k m h e = let t = h.there in rw e (record { whole = h.whole; small = h.small; within = omega arith; read = h.read })

pub stands_past : (li : ℕ) (s : List ℕ) (n lv k m r : ℕ) → m ≡ kids_at s k → r ≡ (part li (kids_at s) n lv m (k + 1)).next → r ≡ (part li (kids_at s) n lv (kids_at s k) (k + 1)).next
stands_past li s n lv k m r e f = f ∙ rw e

pub ruleset ends = (end_is, end_not, stands_row, stands_past)

pub ruleset steps = (reads_inner, reads_rest, next_in)
