-- Trees laid into a plan: nothing, wherever that is, and one tree before another that is laid already.
use mathlib.Core.Path.{◌≡◌}
use mathlib.Core.List.{List, [], ◌∷◌, ◌++◌, map}
use Prim.Native.Nat.{ℕ, suc, ◌+◌}
use native.Mathlib.Omega.{arith}
use lib.ListN.{length, set, length-map}
use lib.Seq.{sets}
use Rattle.paper.specs.Forest.{Forest, empty, size, counts, preorder, ◌then◌}
use Rattle.laws.proofs.Preorder.{length_preorder, length_counts, preorder_then, counts_then}
use Rattle.laws.proofs.Runs.{sets_before, map_append}
use Rattle.plan.specs.Plan.{Source, slot_of, bits_of}
use Rattle.plan.specs.Table.{sources, numbers, members, LaidIn}
use Rattle.plan.specs.declared.PlanRows.{PlanRows}

-- Nothing is laid wherever that is.
pub moved : (i j : ℕ) (plan plan₁ : PlanRows) → LaidIn empty j plan plan₁ → LaidIn empty i plan plan₁
unfolding preorder counts
moved i j plan plan₁ h = record { sources_set = h.sources_set; numbers_set = h.numbers_set; members_set = h.members_set }

-- a run stored before another
runs : (xs ys l : List ℕ) (i j : ℕ) → j ≡ i + length xs → sets (sets l j ys) i xs ≡ sets l i (xs ++ ys)
runs [] ys l i j e = let q : j ≡ i = omega arith in rw q
runs (x ∷ xs) ys l i j e = rw (sets_before ys l i j x (omega arith)) (runs xs ys (set l i x) (suc i) j (omega arith))

pub laid_before : (t u : Forest Source) (i j : ℕ) (p p₁ p₂ : PlanRows) → j ≡ i + size t → LaidIn u j p p₁ → LaidIn t i p₁ p₂ → LaidIn (t then u) i p p₂
laid_before t u i j p p₁ p₂ e h g =
    let n = length_preorder t in
    let q = length-map (preorder t) slot_of in
    let q' = length-map (preorder t) bits_of in
    let c = length_counts t in
    record {
      sources_set = rw (g.sources_set, h.sources_set, preorder_then t u, map_append slot_of (preorder t) (preorder u)) (runs (map slot_of (preorder t)) (map slot_of (preorder u)) (sources p) i j (omega arith));
      numbers_set = rw (g.numbers_set, h.numbers_set, preorder_then t u, map_append bits_of (preorder t) (preorder u)) (runs (map bits_of (preorder t)) (map bits_of (preorder u)) (numbers p) i j (omega arith));
      members_set = rw (g.members_set, h.members_set, counts_then t u) (runs (counts t) (counts u) (members p) i j (omega arith));
    }
