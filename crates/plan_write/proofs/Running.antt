-- Names that stand together: what a run holds so far, and what is left behind it. `search running`.
use Prim.Native.Nat.{ℕ, ◌+◌, ◌*◌, ◌-◌, ◌<◌, ◌≤◌}
use mathlib.Core.Path.{◌≡◌, refl, sym, ◌∙◌}
use mathlib.Core.Bool.{Bool, true, false, not, true≢false}
use mathlib.Core.Logic.{⊎_elim}
use mathlib.Core.List.{List, ◌++◌, append_assoc}
use native.Mathlib.Omega.{arith}
use borrow.Author.Tests.{leb-true, lt-ltb, le-ltb, eq-eqb, eqb-true, not-true, not-false}
use lib.Dec.{eqb}
use lib.ListN.{length, get_or, take, drop}
use lib.Seq.{take-add, drop-drop}
use Rattle.paper.specs.Bytes.{rec_at, name_of, in_pool, field_at}
use Rattle.paper.specs.Encode.{encode_names}
use Rattle.laws.proofs.Runs.{from_step}
use Rattle.tree.proofs.Filled.{lt_or_le}
use Rattle.record.specs.Trees.{Trees}
use Rattle.plan.specs.Plan.{source_field, source_in, Sits}
use Rattle.plan.specs.Table.{sources, numbers}
use Rattle.plan.proofs.Standing.{name_planned}
use Rattle.plan_write.specs.Run.{joined, Starts, field_of, names_left, Ran}
use Rattle.plan.specs.declared.PlanRows.{PlanRows}

-- ---- whether a name joins

module _ (records : List ℕ) (x end : ℕ) where
  pub joins_not : 1024 ≤ x → false ≡ joined records x end
  unfolding joined
  joins_not b = rw (le-ltb x 1024 b)

  pub joins_there : (n : ℕ) → x < 1024 → n ≡ (rec_at records x).name_at → eqb n end ≡ joined records x end
  unfolding joined
  joins_there n b e = rw (lt-ltb x 1024 b, e)

  pub joined_base : joined records x end ≡ true → x < 1024
  unfolding joined
  joined_base h = ⊎_elim (λ b. b) (λ b. absurd (true≢false (sym h ∙ rw (le-ltb x 1024 b)))) (lt_or_le x 1024)

  pub joined_there : joined records x end ≡ true → (rec_at records x).name_at ≡ end
  unfolding joined
  joined_there h = let b = joined_base h in eqb-true (rec_at records x).name_at end (rw (lt-ltb x 1024 b) at h)

  joined_first : x < 1024 → end ≡ (rec_at records x).name_at → joined records x end ≡ true
  unfolding joined
  joined_first b e = rw (lt-ltb x 1024 b, eq-eqb (rec_at records x).name_at end (sym e))

pub base_in : (records : List ℕ) (x : ℕ) → (x < 1024 → x * 24 + 24 ≤ length records) → x < 1024 → x * 24 + 24 ≤ length records
base_in records x h b = h b

-- Where a name starts is a number of 32 bits.
pub joins_small : (n end : ℕ) → n < 4294967296 → eqb n end ≡ true → end < 4294967296
joins_small n end b q = let e = eqb-true n end q in omega arith

pub joins_never : (end : ℕ) → false ≡ true → end < 4294967296
joins_never end q = absurd (true≢false (sym q))

pub ruleset joining = (joins_not, joins_there, base_in, joins_small, joins_never)

-- ---- a run

-- Two neighbouring parts of a pool are one.
parts : (pool : List ℕ) (start end n : ℕ) → start ≤ end → take (end - start) (drop start pool) ++ take n (drop end pool) ≡ take (end + n - start) (drop start pool)
parts pool start end n l =
    let d : start + (end - start) ≡ end = omega arith in
    let e : end + n - start ≡ end - start + n = omega arith in
    rw e (sym (take-add (end - start) n (drop start pool) ∙ rw (drop-drop (end - start) start pool, d)))

pub left_step : (l : Trees) (plan : PlanRows) (m i : ℕ) → i < m → names_left l plan m i ≡ (source_field l (get_or (sources plan) i 0)).name ++ names_left l plan m (i + 1)
unfolding encode_names
left_step l plan m i b = rw (from_step (field_of l plan) i m b, name_planned l (source_in (sources plan) (numbers plan) i))

pub record Running (l : Trees) (plan : PlanRows) (m i start end next : ℕ) : Type 0 where
  pub since : i ≤ next
  pub within : next ≤ m
  pub ordered : start ≤ end
  pub small : end < 4294967552
  pub inside : end ≤ length l.pool
  pub first : next ≡ i → end ≡ start
  pub bytes : names_left l plan m i ≡ take (end - start) (drop start l.pool) ++ names_left l plan m next

module _ (l : Trees) (x : ℕ) (s : Sits l x) (b : x < 1024) where
  pub base_there : x * 24 + 24 ≤ length l.records
  base_there = s.base_in b

  base_ends : (rec_at l.records x).name_at + (rec_at l.records x).name_len ≤ length l.pool
  unfolding in_pool
  base_ends = leb-true ((rec_at l.records x).name_at + (rec_at l.records x).name_len) (length l.pool) (s.base_named b)

  base_name : (source_field l x).name ≡ take (rec_at l.records x).name_len (drop (rec_at l.records x).name_at l.pool)
  unfolding source_field field_at name_of
  base_name = rw (lt-ltb x 1024 b)

module _ (l : Trees) (plan : PlanRows) (m i start : ℕ) (s : Starts l plan m i start) where
  pub run_starts : Running l plan m i start start i
  run_starts =
      let x = get_or (sources plan) i 0 in
      let e = base_ends l x (s.reads.sits i s.within) s.base in
      let t = s.there in
      let w = s.within in
      let a = s.small in
      let d : start - start ≡ 0 = omega arith in
      record { since = omega arith; within = omega arith; ordered = omega arith; small = omega arith; inside = omega arith; first = λ q. refl; bytes = rw d }

  module _ (end next : ℕ) (h : Running l plan m i start end next) where
    pub run_ends : m ≤ next → Ran l plan m i start end next
    run_ends b = let w = s.within in record { more = omega arith; within = h.within; ordered = h.ordered; inside = h.inside; bytes = h.bytes }

    module _ (b : next < m) where
      pub next_small : next < 1024
      next_small = let f = s.reads.few in omega arith

      module _ (k : ℕ) (ek : k ≡ get_or (sources plan) next 0) where
        sits_next : Sits l k
        sits_next = rw ek (s.reads.sits next b)

        pub next_there : (records : List ℕ) → records ≡ l.records → k < 1024 → k * 24 + 24 ≤ length records
        next_there records e = rw e sits_next.base_in

        pub run_breaks : (r : Bool) → r ≡ joined l.records k end → not r ≡ true → Ran l plan m i start end next
        run_breaks r j f = record { more = ⊎_elim (λ q. q) (λ q. absurd (true≢false (sym (again q) ∙ sym j ∙ not-true r f))) (lt_or_le i next); within = h.within; ordered = h.ordered; inside = h.inside; bytes = h.bytes }
          where
            again : next ≤ i → joined l.records k end ≡ true
            again q =
                let p = h.since in
                let e : next ≡ i = omega arith in
                let f : k ≡ get_or (sources plan) i 0 = ek ∙ rw e in
                joined_first l.records k end (rw f s.base) (h.first e ∙ s.there ∙ rw f)

        pub next_in : (records : List ℕ) → records ≡ l.records → (r : Bool) → r ≡ joined records k end → not r ≡ false → k * 24 + 24 ≤ length records
        next_in records e r q t = next_there records e (joined_base records k end (sym q ∙ not-false r t))

        module _ (r : Bool) (er : r ≡ joined l.records k end) (tr : not r ≡ false) (n : ℕ) (en : n ≡ (rec_at l.records k).name_len) where
          j : joined l.records k end ≡ true
          j = sym er ∙ not-false r tr

          run_room : end + n ≤ length l.pool
          run_room = let e = base_ends l k sits_next (joined_base l.records k end j) in let t = joined_there l.records k end j in omega arith

          pub run_goes : (r ≡ true → end < 4294967296) → n ≤ 255 → Running l plan m i start (end + n) (next + 1)
          run_goes f g =
              let a = f (not-false r tr) in
              let t = joined_there l.records k end j in
              let p = h.since in
              let o = h.ordered in
              let name = base_name l k sits_next (joined_base l.records k end j) in
              let whole : names_left l plan m next ≡ take n (drop end l.pool) ++ names_left l plan m (next + 1) = left_step l plan m next b ∙ rw (← ek, name, t, en) in
              record {
                since = omega arith;
                within = omega arith;
                ordered = omega arith;
                small = omega arith;
                inside = run_room;
                first = λ q. absurd (omega arith);
                bytes = h.bytes ∙ rw (whole, ← append_assoc (take (end - start) (drop start l.pool)) (take n (drop end l.pool)) (names_left l plan m (next + 1)), parts l.pool start end n o);
              }

pub ruleset running = (run_starts, run_ends, next_small, next_there, run_breaks, next_in, run_goes)
