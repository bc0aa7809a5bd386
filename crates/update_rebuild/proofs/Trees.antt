-- One added tree: its records stand in a row of the additions, and their ids count on.
use mathlib.Core.Path.{◌≡◌, refl, ap, ◌∙◌}
use mathlib.Core.Bool.{true}
use mathlib.Core.List.{List}
use Prim.Native.Nat.{ℕ, suc, ◌+◌, ◌-◌, ◌*◌, ◌<◌, ◌≤◌}
use native.Mathlib.Nat.{add-zero}
use native.Mathlib.Omega.{arith}
use lib.ListN.{length}
use Rattle.record.specs.declared.Refusal.{Refusal}
use Rattle.paper.specs.Forest.{Forest, empty, node, size, levels, mapped, preorder}
use Rattle.paper.specs.Bytes.{turned, kids_at, from}
use Rattle.paper.specs.Layout.{Part, row}
use Rattle.paper.specs.Rebuild.{fresh}
use Rattle.laws.proofs.Runs.{map_from}
use Rattle.laws.proofs.Taken.{Laid, row_take}
use Rattle.laws.proofs.Preorder.{size_mapped, siblings_mapped, levels_mapped, preorder_mapped, counts_mapped}
use Rattle.tree.specs.Says.{ended}
use Rattle.tree.specs.Answers.{Walked}
use Rattle.std.specs.Prelude.{Ok, Err, Some, None}
use Rattle.tree.specs.Read.{part, reads, itself}
use Rattle.tree.proofs.Filled.{ended_ok, ended_no, end_room}
use Rattle.tree.proofs.Depth.{row_is_low, row_reads_low}
use Rattle.tree.proofs.Steps.{part_is, part_full, was_read}
use Rattle.plan.specs.Plan.{Source, slot_of, bits_of}
use Rattle.update_rebuild.specs.declared.Place.{Place}
use Rattle.update_rebuild.specs.Sources.{added_source, added_tree}
use Rattle.update_rebuild.specs.Planned.{Planned, AddedIn, StandsAt}
use Rattle.plan.specs.declared.PlanRows.{PlanRows}

-- Ids in preorder are ids by the slot.
fresh_row : (kids id : ℕ → ℕ) (n c k : ℕ) (t : Forest ℕ) → Laid kids n k t → ((d : ℕ) → id (k + d) ≡ c + d) → fresh added_source c t ≡ mapped (λ j. added_source (id j) j) t
unfolding fresh mapped
fresh_row kids id n c k empty h e = refl
fresh_row kids id n c k (node j m u) h e =
    let first : id k ≡ c = rw (add-zero k, add-zero c) at (e 0) in
    rw (h.0, first, fresh_row kids id n (suc c) (suc k) m h.3 (λ d. let z : suc k + d ≡ k + suc d = omega arith in rw z (e (suc d) ∙ omega arith)), fresh_row kids id n (suc (c + size m)) (suc (k + size m)) u h.4 (λ d. let z : suc (k + size m) + d ≡ k + suc (size m + d) = omega arith in rw z (e (suc (size m + d)) ∙ omega arith)))

module _ (added : List ℕ) (n k id past lv i c v : ℕ) (plan : PlanRows) (w : Walked) (few : lv ≤ 16) (ew : w ≡ ended (row 1 (kids_at added) n lv 1 k)) (h : reads 1 (kids_at added) n 16 1 k ≡ true) where
  abbrev slots : Forest ℕ
  slots = (part 1 (kids_at added) n 16 1 k).trees

  abbrev source : ℕ → Source
  source j = added_source (turned id + (j - k)) j

  added_is : added_tree added n k id ≡ mapped source slots
  unfolding added_tree
  added_is = fresh_row (kids_at added) (λ j. turned id + (j - k)) n (turned id) k slots (row_take 1 (kids_at added) n 16 1 k _ (was_read 1 (kids_at added) n 16 1 k h)).took.laid (λ d. omega arith)

  -- a row that ends with fewer levels is the row
  tree_ends : (e : ℕ) → w ≡ Ok e → (levels slots ≤ lv) × (e - k ≡ size slots)
  tree_ends e ee =
      ended_ok _ (row 1 (kids_at added) n lv 1 k) w e ew ee λ p ep en.
      let low = row_is_low 1 (kids_at added) n lv 1 k p ep in
      let z = part_is 1 (kids_at added) n 16 1 k p (row_reads_low 1 (kids_at added) n lv 1 k 16 p ep (omega arith)) in
      let f = part_full 1 (kids_at added) n 16 1 k h in
      let a = ap (λ (q : Part). levels q.trees) z in
      let b = ap (λ (q : Part). q.next) z in
      (omega arith, omega (arith, f.next))

  pub tree_goes : (e : ℕ) (p₁ : PlanRows) → w ≡ Ok e → i ≤ 1024 → e - k ≤ 1024 - i → AddedIn (kids_at added) k (e - k) (turned id) plan i p₁ → (o : Place) → StandsAt past (i + (e - k)) (c + 1) (v + (e - k)) o
      → Planned (added_tree added n k id) 0 past lv i c v plan (Some o) p₁
  tree_goes e p₁ ee l m r o stands =
      let d = tree_ends e ee in
      let f = part_full 1 (kids_at added) n 16 1 k h in
      let q : preorder (mapped source slots) ≡ from source k (e - k) = preorder_mapped source slots ∙ rw (f.slots, ← d.1) (map_from source itself k (e - k)) in
      rw (added_is, stands.is)
      record {
        by = record {
          next = refl;
          at = rw (d.1, size_mapped source slots);
          count = rw (siblings_mapped source slots, f.trees);
          visited = let z = size_mapped source slots in omega (arith, d.1);
          low = rw (levels_mapped source slots) d.0;
          room = omega arith;
          laid = record {
            sources_set = r.sources_set ∙ rw (q, map_from slot_of source k (e - k));
            numbers_set = r.numbers_set ∙ rw (q, map_from bits_of source k (e - k));
            members_set = r.members_set ∙ rw (counts_mapped source slots, f.sizes, d.1);
          };
        };
      }

  pub tree_wide : (e : ℕ) (p₁ : PlanRows) → w ≡ Ok e → 1024 - i < e - k → Planned (added_tree added n k id) 0 past lv i c v plan None p₁
  tree_wide e p₁ ee l = rw added_is record { by = record { over = λ y z. let q = size_mapped source slots in omega (arith, tree_ends e ee) } }

  pub tree_deep : (t : Refusal) (p₁ : PlanRows) → w ≡ Err t → Planned (added_tree added n k id) 0 past lv i c v plan None p₁
  tree_deep t p₁ et =
      let p = part 1 (kids_at added) n 16 1 k in
      rw added_is
      record { by = record { over = λ y z. ended_no (row 1 (kids_at added) n lv 1 k) p w t (row_reads_low 1 (kids_at added) n 16 1 k lv p (was_read 1 (kids_at added) n 16 1 k h) (rw (levels_mapped source slots) at y)) ew et } }

-- the row that is asked for is there
module _ (added : List ℕ) (n k lv e : ℕ) (w : Walked) (ew : w ≡ ended (row 1 (kids_at added) n lv 1 k)) (ee : w ≡ Ok e) where
  pub tree_from : k ≤ e
  tree_from = (end_room 1 (kids_at added) n lv 1 k e w ew ee).0

  pub tree_few : k ≤ n → n ≤ 1024 → k + (e - k) ≤ 1024
  tree_few l m = let z = end_room 1 (kids_at added) n lv 1 k e w ew ee in let y = z.1 l in omega arith

  pub tree_whole : k ≤ n → n * 24 ≤ length added → (k + (e - k)) * 24 ≤ length added
  tree_whole l m = let z = end_room 1 (kids_at added) n lv 1 k e w ew ee in let y = z.1 l in omega arith

pub ruleset growing = (tree_from, tree_few, tree_whole, tree_goes, tree_wide, tree_deep)
