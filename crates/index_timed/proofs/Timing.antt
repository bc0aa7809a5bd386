-- The loops count as the definitions do, and a fresh table is what they begin with. `search rounds`, `search timing`.
use Prim.Native.Nat.{ℕ, suc, ◌+◌, ◌*◌, ◌/◌, ◌≤◌}
use mathlib.Core.Path.{◌≡◌, refl, sym, ap, ◌∙◌}
use mathlib.Core.Bool.{Bool, true, false, not}
use mathlib.Core.List.{List}
use native.Mathlib.Omega.{arith}
use lib.ListN.{length}
use borrow.Author.Tests.{not-true, not-false}
use Rattle.paper.specs.Bytes.{turned}
use Rattle.paper.specs.Limits.{whole}
use Rattle.paper.specs.Lists.{id_at}
use Rattle.record.specs.Answers.{FoundSlot, Check}
use Rattle.std.specs.Prelude.{Ok, Err}
use Rattle.record.specs.declared.Refusal.{Refusal}
use Rattle.record.specs.Says.{slot_before}
use Rattle.record_limits.proofs.Within.{whole_most}
use Rattle.plan.specs.Table.{numbers, no_rows, TakenIn}
use Rattle.index_ids.specs.Chain.{lowest_below}
use Rattle.index_ids.specs.Ids.{is_id}
use Rattle.index_ids.specs.Path.{IndexedIn}
use Rattle.index_timed.specs.Timed.{counts, each_round, all_rounds, id_row, timed}
use Rattle.plan.specs.declared.PlanRows.{PlanRows}

-- ---- one round

module _ (is : List ℕ) (m : ℕ) (ids : List ℕ) (c : ℕ) where
  pub round_starts : c ≡ each_round is m ids c 0
  unfolding each_round
  round_starts = refl

  pub round_goes : (i v x y : ℕ) (w : FoundSlot) → x ≡ each_round is m ids c i → id_at ids i ≡ turned v → w ≡ slot_before (lowest_below (is_id is (turned v)) 0 m) → y ≡ counts w x → y ≡ each_round is m ids c (i + 1)
  unfolding each_round
  round_goes i v x y w h e ew ey = let z : i + 1 ≡ suc i = omega arith in rw (z, ey, ew, h, e)

  pub round_ends : (i n x : ℕ) → x ≡ each_round is m ids c i → n ≡ length ids / 4 → i ≤ n → n ≤ i → x ≡ each_round is m ids c (length ids / 4)
  round_ends i n x h e l g = let z : i ≡ length ids / 4 = omega arith in h ∙ ap (each_round is m ids c) z

-- ---- all rounds

module _ (is : List ℕ) (m : ℕ) (ids : List ℕ) where
  pub rounds_start : 0 ≡ all_rounds is m ids 0
  unfolding all_rounds
  rounds_start = refl

  pub rounds_go : (k x y : ℕ) → x ≡ all_rounds is m ids k → y ≡ each_round is m ids x (length ids / 4) → y ≡ all_rounds is m ids (k + 1)
  unfolding all_rounds
  rounds_go k x y h e = let z : k + 1 ≡ suc k = omega arith in rw (z, e, h)

  pub rounds_end : (k n x : ℕ) → x ≡ all_rounds is m ids k → k ≤ n → n ≤ k → x ≡ all_rounds is m ids n
  rounds_end k n x h l g = let z : k ≡ n = omega arith in h ∙ ap (all_rounds is m ids) z

pub ruleset rounds = (round_starts, round_goes, round_ends, rounds_start, rounds_go, rounds_end)

-- ---- from the bytes

module _ (s ids : List ℕ) (rounds : ℕ) (b : Bool) (eb : b ≡ whole 24 1024 s) where
  pub timed_unfit : not b ≡ true → 0 ≡ timed s ids rounds
  unfolding timed
  timed_unfit q = rw (← eb, not-true b q)

  module _ (n : ℕ) (q : not b ≡ false) (en : n ≡ length s / 24) where
    pub timed_few : n ≤ 1024
    timed_few = let l = whole_most 24 1024 s (sym eb ∙ not-false b q) in omega arith

    pub timed_bytes : n * 24 ≤ length s
    timed_bytes = omega arith

    module _ (zeros plan : PlanRows) (old index : List (List ℕ)) (ez : zeros ≡ no_rows) (t : TakenIn s n zeros plan) (r : Check) (x : IndexedIn (numbers plan) n 0 r old index) where
      same_row : numbers plan ≡ id_row s
      unfolding no_rows
      same_row = t.numbers_set ∙ rw (ez, en)

      pub timed_refused : (y : Refusal) → r ≡ Err y → 0 ≡ timed s ids rounds
      unfolding timed
      timed_refused y e = rw (← eb, not-false b q, ← same_row, ← en, ← x.answer, e)

      pub timed_done : (z : ℕ) → r ≡ (Ok tt) → z ≡ all_rounds (numbers plan) n ids rounds → z ≡ timed s ids rounds
      unfolding timed
      timed_done z e h = rw (← eb, not-false b q, ← same_row, ← en, ← x.answer, e) h

pub ruleset timing = (timed_unfit, timed_few, timed_bytes, timed_refused, timed_done)
