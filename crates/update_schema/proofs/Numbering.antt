-- A column ends behind its records, and each of them takes an id.
use Prim.Native.Nat.{ℕ, suc, ◌+◌, ◌-◌, ◌≤◌}
use mathlib.Core.Path.{◌≡◌, sym, ap, ◌∙◌}
use mathlib.Core.Bool.{Bool, true, false, cond}
use mathlib.Core.List.{List}
use native.Mathlib.Omega.{arith}
use lib.Dec.{ltb}
use Rattle.paper.specs.Field.{highest}
use Rattle.paper.specs.Bytes.{turned, kids_at}
use Rattle.record.specs.declared.Refusal.{Refusal}
use Rattle.record.specs.Says.{refusal_of}
use Rattle.tree.specs.Read.{part, Standing}
use Rattle.tree.proofs.Steps.{part_full}
use Rattle.update_decide.specs.Answers.{Fresh}
use Rattle.update_rebuild.specs.Answers.{Under}
use Rattle.update_schema.specs.Answers.{Spotted}
use Rattle.std.specs.Prelude.{Ok, Err}
use Rattle.update_decide.specs.Entry.{freshly}
use Rattle.update_schema.specs.Additions.{column_size, numbered}

pub column_ends : (s : List ℕ) (m k j : ℕ) → Standing 1 s m 15 k → j ≡ (part 1 (kids_at s) m 15 (kids_at s k) (k + 1)).next → j ≡ k + column_size s m k
unfolding column_size
column_ends s m k j h e = let f = (part_full 1 (kids_at s) m 15 (kids_at s k) (k + 1) h.read).next in omega arith

-- a column has no more records than there are
pub column_few : (s : List ℕ) (m k : ℕ) → Standing 1 s m 15 k → k + column_size s m k ≤ m
unfolding column_size
column_few s m k h =
    let f = part_full 1 (kids_at s) m 15 (kids_at s k) (k + 1) h.read in
    let t = h.there in
    let i = f.most (omega arith) in
    let e = f.next in
    omega arith

module _ (under : Under) (last k slot records next d : ℕ) (r : Fresh) (en : next ≡ slot + records) (ed : d ≡ next - slot) (er : r ≡ freshly last d k) where
  same : r ≡ freshly last records k
  same = let z : d ≡ records = omega arith in rw z at er

  pub number_over : (x : Refusal) → r ≡ Err x → Err x ≡ numbered under last k slot records
  unfolding freshly numbered
  number_over x q = go (ltb highest (last + records)) (sym q ∙ same)
    where
      go : (b : Bool) → ◌≡◌ {A = Fresh} (Err x) (cond b (Err (refusal_of 18 3 k)) (Ok ((turned (suc last)), (last + records))))
          → ◌≡◌ {A = Spotted} (Err x) (cond b (Err (refusal_of 18 3 k)) (Ok (record { under = under; start = turned (suc last); last = last + records; next = slot + records })))
      go true e = let z : x ≡ refusal_of 18 3 k = cc in rw z
      go false e = cc

  pub number_spots : (start end : ℕ) → r ≡ Ok (start, end) → Ok (record { under = under; start = start; last = end; next = next }) ≡ numbered under last k slot records
  unfolding freshly numbered
  number_spots start end q = go (ltb highest (last + records)) (sym q ∙ same)
    where
      go : (b : Bool) → ◌≡◌ {A = Fresh} (Ok (start, end)) (cond b (Err (refusal_of 18 3 k)) (Ok ((turned (suc last)), (last + records))))
          → ◌≡◌ {A = Spotted} (Ok (record { under = under; start = start; last = end; next = next })) (cond b (Err (refusal_of 18 3 k)) (Ok (record { under = under; start = turned (suc last); last = last + records; next = slot + records })))
      go true e = cc
      go false e =
          let p : ◌≡◌ {A = ℕ × ℕ} (start, end) (turned (suc last), last + records) = cc in
          rw (ap (λ (q : ℕ × ℕ). q.0) p, ap (λ (q : ℕ × ℕ). q.1) p, en)

pub ruleset numbering = (number_over, number_spots)
