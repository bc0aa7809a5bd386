-- The rebuild of siblings of the base: a dropped one is passed, another is planned with its inside, and the additions follow.
use mathlib.Core.Path.{◌≡◌, refl, sym, ap, ◌∙◌}
use mathlib.Core.Bool.{Bool, true, false, not, ◌&&◌}
use mathlib.Core.List.{List}
use mathlib.Core.Option.{Option, some}
use Prim.Native.Nat.{ℕ, suc, ◌+◌, ◌-◌, ◌*◌, ◌<◌, ◌≤◌}
use native.Mathlib.Nat.{add-zero}
use native.Mathlib.Omega.{arith}
use lib.Dec.{eqb}
use lib.ListN.{length, length-append}
use borrow.Author.Tests.{eqb-true}
use Rattle.paper.specs.Forest.{Forest, empty, node, size, siblings, levels, mapped, ◌then◌}
use Rattle.paper.specs.Field.{is_struct}
use Rattle.paper.specs.Bytes.{turned, rec_at, kind_at, kids_at}
use Rattle.paper.specs.Layout.{Part, before}
use Rattle.paper.specs.Gone.{dropped_member, outermost}
use Rattle.paper.specs.Rebuild.{Addition, arriving, rebuilt}
use Rattle.tree.specs.Read.{part, Standing}
use Rattle.tree.proofs.Steps.{part_none, part_in, part_full, no_deep, no_past, reads_inner, reads_rest, next_in}
use Rattle.plan.specs.Plan.{Source}
use Rattle.plan.specs.Table.{planned_at}
use Rattle.plan.proofs.Laying.{laid_last}
use Rattle.update_rebuild.specs.declared.Head.{Head}
use Rattle.update_rebuild.specs.declared.Place.{Place}
use Rattle.update_rebuild.specs.Answers.{Step}
use Rattle.std.specs.Prelude.{Some, None}
use Rattle.update_rebuild.specs.Sources.{base_source, parent, rebuilt_row, rebuilt_one, passed}
use Rattle.update_rebuild.specs.Planned.{Readable, Inside, Planned, HeadOf, StandsAt, closing, RowPlanned, OnePlanned}
use Rattle.update_rebuild.proofs.Onward.{went_whole, full_over, planned_none, Onward, onward_passes, onward_goes, onward_stops}
use Rattle.plan.specs.declared.PlanRows.{PlanRows}

-- ---- the end of a row

pub closing_open : (adds : List (Addition Source)) (q : Option ℕ) {b : Bool} {past lv i c v : ℕ} {plan plan' : PlanRows} {r : Step} → b ≡ true → Planned (arriving adds q) 0 past lv i c v plan r plan' → Planned (closing adds q b) 0 past lv i c v plan r plan'
unfolding closing
closing_open adds q e h = rw e h

pub closing_shut : (adds : List (Addition Source)) (q : Option ℕ) {b : Bool} {lv : ℕ} {here : Place} {plan : PlanRows} → b ≡ false → here.at ≤ 1024 → Planned (closing adds q b) 0 here.next lv here.at here.count here.visited plan (Some here) plan
unfolding closing
closing_shut adds q e l = rw e (planned_none l)

pub ruleset closes = (closing_open, closing_shut)

row_closes : (records dropped : List ℕ) (adds : List (Addition Source)) (q : Option ℕ) (b : Bool) → rebuilt_row records dropped adds q b empty ≡ closing adds q b
unfolding rebuilt_row mapped closing rebuilt
row_closes records dropped adds q b = refl

-- ---- what is passed

module _ (records dropped : List ℕ) where
  passed_none : (b : Bool) → passed records dropped b empty ≡ 0
  unfolding passed outermost
  passed_none b = refl

  passed_gone : (b : Bool) (k : ℕ) (m n : Forest ℕ) → dropped_member b dropped (turned (rec_at records k).id) ≡ true → passed records dropped b (node k m n) ≡ suc (passed records dropped b n)
  unfolding passed outermost
  passed_gone b k m n e = rw e

  passed_kept : (b : Bool) (k : ℕ) (m n : Forest ℕ) → dropped_member b dropped (turned (rec_at records k).id) ≡ false
      → passed records dropped b (node k m n) ≡ passed records dropped (is_struct (kind_at records k)) m + passed records dropped b n
  unfolding passed outermost
  passed_kept b k m n e = rw e (length-append (outermost (λ j. turned (rec_at records j).id) (kind_at records) dropped (is_struct (kind_at records k)) m) _)

  passed_few : (b : Bool) (t : Forest ℕ) → passed records dropped b t ≤ size t
  unfolding size
  passed_few b empty = rw (passed_none b) (omega arith)
  passed_few b (node k m n) = go (dropped_member b dropped (turned (rec_at records k).id)) refl (passed_few (is_struct (kind_at records k)) m) (passed_few b n)
    where
      go : (d : Bool) → dropped_member b dropped (turned (rec_at records k).id) ≡ d → passed records dropped (is_struct (kind_at records k)) m ≤ size m → passed records dropped b n ≤ size n
          → passed records dropped b (node k m n) ≤ suc (size m + size n)
      go true e em en = let y = passed_gone b k m n e in omega arith
      go false e em en = let y = passed_kept b k m n e in omega arith

  -- no more than the slots that are read
  passed_between : (b : Bool) (n lv c k : ℕ) → Readable records n lv c k → passed records dropped b (part 0 (kids_at records) n lv c k).trees + k ≤ (part 0 (kids_at records) n lv c k).next
  passed_between b n lv c k h = let f = part_full 0 (kids_at records) n lv c k h.read in let z = passed_few b (part 0 (kids_at records) n lv c k).trees in omega (arith, f.next)

-- ---- one record of a row

pub inside_stands : {records : List ℕ} {n lv k : ℕ} → Inside records n lv k → Standing 0 records n (lv - 1) k
inside_stands h = record { whole = h.inside.whole; small = h.inside.small; there = h.there; read = h.inside.read }

pub inside_few : {records : List ℕ} {n lv k : ℕ} → Inside records n lv k → k < 1024
inside_few h = omega (arith, h.there, h.inside.small)

pub inside_asked : {records : List ℕ} {n lv k : ℕ} {h : Head} → Inside records n lv k → HeadOf records k h → Readable records n (lv - 1) h.members (k + 1)
inside_asked i e = rw e.members i.inside

leaf_is : (b : Bool) (m : ℕ) → (not b && eqb m 0) ≡ true → (m ≡ 0) × (b ≡ false)
leaf_is true m e = absurd (let z : ◌≡◌ {A = ℕ} 0 1 = cc in omega arith)
leaf_is false m e = (eqb-true m 0 e, refl)

module _ (records dropped : List ℕ) (adds : List (Addition Source)) (n lv k : ℕ) (plan : PlanRows) (i c v : ℕ) where
  pub one_wide : (p₁ : PlanRows) → 1024 ≤ i → OnePlanned records dropped adds n lv k plan i c v None p₁
  unfolding rebuilt_one size
  one_wide p₁ e = record { by = record { over = λ l m. omega arith } }

  module _ (h : Head) (hh : HeadOf records k h) (r : Step) (p₁ : PlanRows) (p : RowPlanned records dropped adds n (lv - 1) h.members (k + 1) (parent h.under.q) h.under.opens plan (i + 1) r p₁) where
    inner : RowPlanned records dropped adds n (lv - 1) (kids_at records k) (k + 1) (some (turned (rec_at records k).id)) (is_struct (kind_at records k)) plan (i + 1) r p₁
    unfolding parent
    inner = rw (hh.members, hh.under, hh.opens) at p

    pub one_stops : (p₂ : PlanRows) → r ≡ None → OnePlanned records dropped adds n lv k plan i c v None p₂
    unfolding rebuilt_one size levels
    one_stops p₂ e = record { by = record { over = λ l m. (full_over inner e).over (omega arith) (omega arith) } }

    -- at most 1,024 are planned inside it, and 1,024 passed
    pub one_few : (w : Place) → Inside records n lv k → r ≡ Some w → w.visited ≤ 2048
    one_few w h e =
        let u = went_whole inner e in
        let z = passed_between records dropped (is_struct (kind_at records k)) n (lv - 1) (kids_at records k) (k + 1) h.inside in
        let f = part_full 0 (kids_at records) n (lv - 1) (kids_at records k) (k + 1) h.inside.read in
        omega (arith, u.visited, u.at, u.room, f.most h.inside.within, h.inside.small)

    -- its place is filled after those of its inside
    one_goes : (w : Place) (p₂ : PlanRows) → 0 < lv → r ≡ Some w → p₂ ≡ planned_at p₁ i k h.id w.count → OnePlanned records dropped adds n lv k plan i c v (Some (record { next = w.next; at = w.at; count = c + 1; visited = v + 1 + w.visited })) p₂
    unfolding rebuilt_one size siblings levels
    one_goes w p₂ l e ep =
        let u = went_whole inner e in
        rw (ep, hh.id)
        record {
          by = record {
            next = u.next;
            at = omega (arith, u.at);
            count = refl;
            visited = omega (arith, u.visited);
            low = omega (arith, u.low);
            room = u.room;
            laid = laid_last (base_source records k) _ i w.count plan p₁ (omega (arith, u.count)) u.laid;
          };
        }

    pub one_past : (w past : Place) (p₂ : PlanRows) → 0 < lv → r ≡ Some w → p₂ ≡ planned_at p₁ i k h.id w.count → StandsAt w.next w.at (c + 1) (v + 1 + w.visited) past
        → OnePlanned records dropped adds n lv k plan i c v (Some past) p₂
    one_past w past p₂ l e ep o = rw o.is (one_goes w p₂ l e ep)

  -- nothing comes to stand inside a leaf
  pub one_leaf : (h : Head) (g : Bool) (p₂ : PlanRows) → HeadOf records k h → g ≡ (not h.under.opens && eqb h.members 0) → g ≡ true → 0 < lv → i < 1024 → p₂ ≡ planned_at plan i k h.id 0 → OnePlanned records dropped adds n lv k plan i c v (Some (record { next = k + 1; at = i + 1; count = c + 1; visited = v + 1 })) p₂
  one_leaf h g p₂ hh eg et l m ep =
      let q = parent h.under.q in
      let e = leaf_is h.under.opens h.members (sym eg ∙ et) in
      rw (← (add-zero (v + 1)))
      (one_goes h hh _ plan
      (rw (part_none 0 (kids_at records) n (lv - 1) h.members (k + 1) e.0, row_closes records dropped adds q h.under.opens, passed_none records dropped h.under.opens) (closing_shut adds q {here = record { next = k + 1; at = i + 1; count = 0; visited = 0 }} e.1 (omega arith)))
      _ p₂ l refl ep)

-- ---- the loop

module _ (records dropped : List ℕ) (adds : List (Addition Source)) (q : Option ℕ) (b : Bool) where
  row_gone : (k : ℕ) (m n : Forest ℕ) → dropped_member b dropped (turned (rec_at records k).id) ≡ true → rebuilt_row records dropped adds q b (node k m n) ≡ rebuilt_row records dropped adds q b n
  unfolding rebuilt_row mapped rebuilt
  row_gone k m n e = rw e

  row_kept : (k : ℕ) (m n : Forest ℕ) → dropped_member b dropped (turned (rec_at records k).id) ≡ false
      → rebuilt_row records dropped adds q b (node k m n) ≡ node (base_source records k) (rebuilt_row records dropped adds (some (turned (rec_at records k).id)) (is_struct (kind_at records k)) m) empty then rebuilt_row records dropped adds q b n
  unfolding rebuilt_row mapped rebuilt ◌then◌
  row_kept k m n e = rw e

-- of `count` siblings some are left while fewer are passed
pub left_some : {passed count : ℕ} → passed < count → 0 < count - passed
left_some l = omega arith

pub left_less : (passed count : ℕ) → count - (passed + 1) ≡ count - passed - 1
left_less passed count = omega arith

-- whatever plans the rest, c trees from slot k on, gives G
pub record Rebuilding (records dropped : List ℕ) (adds : List (Addition Source)) (n lv : ℕ) (q : Option ℕ) (b : Bool) (G : Step → PlanRows → Type 0) (c k i d v : ℕ) (plan : PlanRows) : Type 0 where
  pub read : Readable records n lv c k
  pub on : Onward G (rebuilt_row records dropped adds q b (part 0 (kids_at records) n lv c k).trees) (passed records dropped b (part 0 (kids_at records) n lv c k).trees) (part 0 (kids_at records) n lv c k).next lv i d v plan
  pub seen : v ≤ i + k

module _ {records dropped : List ℕ} {adds : List (Addition Source)} {n lv : ℕ} {q : Option ℕ} {b : Bool} {G : Step → PlanRows → Type 0} {c k i d v : ℕ} {plan : PlanRows} (H : Rebuilding records dropped adds n lv q b G c k i d v plan) where
  abbrev rebuilt_trees : Forest ℕ → Forest Source
  rebuilt_trees t = rebuilt_row records dropped adds q b t

  -- the trees that the record at slot k holds, and the trees behind it
  abbrev held : Part
  held = part 0 (kids_at records) n (lv - 1) (kids_at records k) (k + 1)

  abbrev behind : ℕ → Part
  behind j = part 0 (kids_at records) n lv (c - 1) j

  pub rebuild_ends : {r : Step} {p₁ : PlanRows} → c ≤ 0 → Planned (closing adds q b) 0 k lv i d v plan r p₁ → G r p₁
  rebuild_ends l p = H.on.go _ _ (rw (part_none 0 (kids_at records) n lv c k (omega arith), row_closes records dropped adds q b, passed_none records dropped b) p)

  -- so few that one more, or an added tree, is counted too
  pub seen_few : v ≤ i + 1024
  seen_few = let r = H.read in omega (arith, H.seen, r.within, r.small)

  module _ (l : 0 < c) where
    -- the record that comes next is there, and its inside was read
    pub inside_reads : Inside records n lv k
    inside_reads =
        let r = H.read in
        let deep : lv ≡ 0 → ⊥ = no_deep 0 (kids_at records) n lv c k r.read (λ z. omega arith) in
        let past : n ≤ k → ⊥ = no_past 0 (kids_at records) n lv c k r.read (λ z. omega arith) in
        record {
          there = omega (arith, past);
          low = omega (arith, deep);
          most = r.levels;
          inside = record { whole = r.whole; small = r.small; within = omega (arith, past); levels = omega (arith, r.levels); read = reads_inner 0 (kids_at records) n lv c k r.read (kids_at records k) (λ z. omega arith) refl };
        }

    pub next_room : k * 24 + 24 ≤ length records
    next_room = let h = inside_reads in omega (arith, h.there, h.inside.whole)

    pub next_low : 1 ≤ lv
    next_low = inside_reads.low

    module _ (j : ℕ) (ej : j ≡ held.next) where
      rest_reads : Readable records n lv (c - 1) j
      rest_reads =
          let r = H.read in
          record {
            whole = r.whole;
            small = r.small;
            within = next_in 0 (kids_at records) n lv c k r.read (kids_at records k) (λ z. omega arith) refl j inside_reads.there ej;
            levels = r.levels;
            read = reads_rest 0 (kids_at records) n lv c k r.read (kids_at records k) (λ z. omega arith) refl j ej;
          }

      -- its inside ends behind it, and in the base
      pub held_past : k < j
      held_past = let f = part_full 0 (kids_at records) n (lv - 1) (kids_at records k) (k + 1) inside_reads.inside.read in omega (arith, f.next)

      pub held_few : j ≤ 1024
      held_few = let r = rest_reads in omega (arith, r.within, r.small)

      the_row : part 0 (kids_at records) n lv c k ≡ before k held (behind j)
      the_row = rw ej (part_in 0 (kids_at records) n lv c k H.read.read (kids_at records k) (λ z. omega arith) refl)

      pub rebuild_skips : {g : Bool} → g ≡ dropped_member b dropped (turned (rec_at records k).id) → g ≡ true → {w : Place} → StandsAt j i d (v + 1) w → {c' : ℕ} → c' ≡ c - 1 → Rebuilding records dropped adds n lv q b G c' w.next w.at w.count w.visited plan
      rebuild_skips eg et o ec =
          rw (o.is, ec)
          record {
            read = rest_reads;
            on = onward_passes H.on
                (ap (λ (z : Part). rebuilt_trees z.trees) the_row ∙ row_gone records dropped adds q b k held.trees (behind j).trees (sym eg ∙ et))
                (ap (λ (z : Part). passed records dropped b z.trees) the_row ∙ passed_gone records dropped b k held.trees (behind j).trees (sym eg ∙ et))
                (ap (λ (z : Part). z.next) the_row);
            seen = let z = held_past in omega (arith, H.seen);
          }

    module _ {g : Bool} (eg : g ≡ dropped_member b dropped (turned (rec_at records k).id)) (ef : g ≡ false) where
      kept : (j : ℕ) → j ≡ held.next → rebuilt_trees (part 0 (kids_at records) n lv c k).trees ≡ rebuilt_one records dropped adds n lv k then rebuilt_trees (behind j).trees
      unfolding rebuilt_one
      kept j ej = ap (λ (z : Part). rebuilt_trees z.trees) (the_row j ej) ∙ row_kept records dropped adds q b k held.trees (behind j).trees (sym eg ∙ ef)

      kept_passed : (j : ℕ) → j ≡ held.next → passed records dropped b (part 0 (kids_at records) n lv c k).trees ≡ passed records dropped (is_struct (kind_at records k)) held.trees + passed records dropped b (behind j).trees
      kept_passed j ej = ap (λ (z : Part). passed records dropped b z.trees) (the_row j ej) ∙ passed_kept records dropped b k held.trees (behind j).trees (sym eg ∙ ef)

      module _ {r : Step} {p₁ : PlanRows} (p : OnePlanned records dropped adds n lv k plan i d v r p₁) where
        pub rebuild_stops : r ≡ None → G None p₁
        rebuild_stops e = onward_stops H.on (rebuilt_one records dropped adds n lv k) (rebuilt_trees (behind held.next).trees) (kept held.next refl) (full_over p e)

        pub rebuild_goes : {w : Place} → r ≡ Some w → {c' : ℕ} → c' ≡ c - 1 → Rebuilding records dropped adds n lv q b G c' w.next w.at w.count w.visited p₁
        unfolding rebuilt_one size
        rebuild_goes {w} e ec =
            let u = went_whole p e in
            let z = passed_between records dropped (is_struct (kind_at records k)) n (lv - 1) (kids_at records k) (k + 1) inside_reads.inside in
            rw ec record {
              read = rest_reads w.next u.next;
              on = onward_goes H.on (kept w.next u.next) (kept_passed w.next u.next) (ap (λ (z : Part). z.next) (the_row w.next u.next)) u;
              seen = omega (arith, H.seen, u.at, u.visited, u.next);
            }
