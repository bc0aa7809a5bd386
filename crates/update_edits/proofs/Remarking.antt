-- A plan's sources, one after the other, as their marks have them.
use Prim.Native.Nat.{ℕ, suc, ◌+◌, ◌≤◌}
use mathlib.Core.Path.{◌≡◌, refl, sym, ap, ◌∙◌}
use mathlib.Core.List.{List, [], ◌∷◌}
use native.Mathlib.Nat.{zero-add}
use native.Mathlib.Omega.{arith}
use lib.ListN.{length, get_or, set}
use lib.Seq.{sets, get_or-set_other}
use Rattle.paper.specs.Bytes.{from}
use Rattle.laws.proofs.Runs.{length_from, from_more}
use Rattle.plan.specs.Table.{sources, numbers, members}
use Rattle.update_edits.specs.Marks.{remarked, RemarkedIn}
use Rattle.plan.specs.declared.PlanRows.{PlanRows}

-- What a run leaves behind it.
get_or_sets_behind : (vs l : List ℕ) (i j : ℕ) → i + length vs ≤ j → get_or (sets l i vs) j 0 ≡ get_or l j 0
get_or_sets_behind [] l i j h = refl
get_or_sets_behind (v ∷ vs) l i j h = get_or_sets_behind vs (set l i v) (suc i) j (omega arith) ∙ get_or-set_other l i j v 0 (λ e. omega arith)

-- one store into the row of sources
abbrev sourced : PlanRows → (i v : ℕ) → PlanRows
sourced p i v = record { sources = set (sources p) i v; numbers = numbers p; members = members p }

-- ---- the loop: `search remarking`

module _ (marks : List ℕ) (plan : PlanRows) where
  pub remark_starts : RemarkedIn marks 0 plan plan
  unfolding from
  remark_starts = record { sources_set = refl; numbers_same = refl; members_same = refl }

  module _ (i : ℕ) (p : PlanRows) (h : RemarkedIn marks i plan p) where
    pub remark_goes : (v : ℕ) → v ≡ remarked marks (get_or (sources p) i 0) → RemarkedIn marks (i + 1) plan (sourced p i v)
    remark_goes v e =
        let g : ℕ → ℕ = λ j. remarked marks (get_or (sources plan) j 0) in
        let z : get_or (sources p) i 0 ≡ get_or (sources plan) i 0 = ap (λ (l : List ℕ). get_or l i 0) h.sources_set ∙ get_or_sets_behind (from g 0 i) (sources plan) 0 i (let q = length_from g 0 i in omega arith) in
        record {
          sources_set =
              rw (e, z, h.sources_set) (ap (λ (j : ℕ). set (sets (sources plan) 0 (from g 0 i)) j (g j)) (sym (zero-add i)) ∙ from_more g (sources plan) 0 0 i);
          numbers_same = h.numbers_same;
          members_same = h.members_same;
        }

    pub remark_ends : (m : ℕ) → i ≤ m → m ≤ i → RemarkedIn marks m plan p
    remark_ends m b l = let e : i ≡ m = omega arith in rw e at h

pub ruleset remarking = (remark_starts, remark_goes, remark_ends)
