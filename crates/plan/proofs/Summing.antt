-- The loop that adds the lengths of names: `search summing`.
use Prim.Native.Nat.{ℕ, suc, ◌+◌, ◌-◌, ◌*◌, ◌<◌, ◌≤◌}
use mathlib.Core.Path.{◌≡◌, sym, ◌∙◌}
use mathlib.Core.Bool.{Bool, true, false}
use mathlib.Core.List.{List}
use native.Mathlib.Omega.{arith}
use borrow.Author.Tests.{leb-true}
use lib.Dec.{leb}
use lib.ListN.{get_or}
use Rattle.paper.specs.Sound.{name_bytes}
use Rattle.paper.specs.Limits.{sum_from}
use Rattle.record.specs.Trees.{Trees, lent_trees}
use Rattle.plan.specs.Sources.{source_len, In, Inside, Summed}
use Rattle.plan.specs.Table.{sources, numbers, members, PlanIn, DraftIn, fields_in, InsideIn}
use Rattle.plan.proofs.Sourcing.{sits_in}
use Rattle.plan.proofs.Standing.{len_in, draft_sum}
use Rattle.plan.proofs.Laying.{draft_plan}
use Rattle.plan.specs.declared.PlanRows.{PlanRows}

-- What is left from place i on gives the whole sum.
pub record Adding (base added edits xs : List ℕ) (m i sum : ℕ) : Type 0 where
  pub within : i ≤ m
  pub small : sum ≤ i * 255
  pub same : sum_from (len_in base added edits xs) 0 m ≡ sum + sum_from (len_in base added edits xs) i (m - i)

module _ (base added edits xs : List ℕ) (m : ℕ) where
  pub sum_starts : Adding base added edits xs m 0 0
  sum_starts = let d : m - 0 ≡ m = omega arith in record { within = omega arith; small = omega arith; same = rw d (omega arith) }

  pub sum_goes : (i sum r : ℕ) → Adding base added edits xs m i sum → i < m → r ≡ source_len base added edits (get_or xs i 0) → r ≤ 255 → Adding base added edits xs m (i + 1) (sum + r)
  unfolding sum_from
  sum_goes i sum r h l e b =
      let d : m - i ≡ suc (m - (i + 1)) = omega arith in
      let s : suc i ≡ i + 1 = omega arith in
      let g : sum_from (len_in base added edits xs) 0 m ≡ sum + (len_in base added edits xs i + sum_from (len_in base added edits xs) (suc i) (m - (i + 1))) = rw d at h.same in
      let f : sum_from (len_in base added edits xs) 0 m ≡ sum + r + sum_from (len_in base added edits xs) (suc i) (m - (i + 1)) = omega (arith, e, g) in
      let a = h.small in
      record { within = omega arith; small = omega arith; same = rw s at f }

  pub sum_ends : (i sum : ℕ) → Adding base added edits xs m i sum → m ≤ i → Summed base added edits xs m (leb sum 32768)
  unfolding sum_from
  sum_ends i sum h l =
      let d : m - i ≡ 0 = omega arith in
      let e : sum_from (len_in base added edits xs) 0 m ≡ sum + 0 = rw d at h.same in
      let f : sum_from (len_in base added edits xs) 0 m ≡ sum = omega arith in
      record { says = λ pool request is ks g. rw (draft_sum (lent_trees base pool added request edits) (record { sources = xs; numbers = is; members = ks }) m g, f) }

  pub source_inside : Inside base added edits xs m → (i : ℕ) → i < m → In base added edits (get_or xs i 0)
  source_inside h i l = h.all i l

pub ruleset summing = (sum_starts, sum_goes, sum_ends, source_inside)

-- ---- for callers

module _ (l : Trees) (plan : PlanRows) (m : ℕ) (d : DraftIn l plan m) where
  pub draft_inside : InsideIn l plan m
  draft_inside = record { few = d.few; all = λ i b. sits_in l (get_or (sources plan) i 0) (d.sits i b) }

  -- A draft whose names fit is a plan; one whose names do not fit passes 01's limit.
  module _ (r : Bool) (h : Summed l.records l.added_records l.edits (sources plan) m r) where
    names_say : r ≡ leb (name_bytes (fields_in l plan m)) 32768
    names_say = h.says l.pool l.request_pool (numbers plan) (members plan) d

    pub summed_plan : r ≡ true → PlanIn l plan m
    summed_plan e = draft_plan l plan m d (leb-true (name_bytes (fields_in l plan m)) 32768 (sym names_say ∙ e))

    pub summed_over : r ≡ false → leb (name_bytes (fields_in l plan m)) 32768 ≡ false
    summed_over e = sym names_say ∙ e
