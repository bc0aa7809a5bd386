-- Trees laid into a plan, one behind the other, and read back: a run of stores behind a run is one run, and counts tell the tree.
use Prim.Native.Nat.{ℕ, zero, suc, ◌+◌, ◌<◌, ◌≤◌}
use mathlib.Core.Path.{◌≡◌, refl, sym, ap, ◌∙◌}
use mathlib.Core.List.{List, [], ◌∷◌, ◌++◌, map}
use native.Mathlib.Nat.{zero-add}
use native.Mathlib.Numerals.{add-one}
use native.Mathlib.Omega.{arith}
use lib.ListN.{length, get_or, set, length-map, get_or-map}
use lib.Seq.{sets}
use Rattle.paper.specs.Answer.{Answer, ok}
use Rattle.paper.specs.Forest.{Forest, empty, node, size, siblings, levels, preorder, counts, mapped, ◌then◌}
use Rattle.paper.specs.Sound.{name_bytes}
use Rattle.paper.specs.Bytes.{kids_at, from}
use Rattle.paper.specs.Layout.{Part, roots}
use Rattle.laws.proofs.Lies.{slotted}
use Rattle.laws.proofs.Written.{siblings_size}
use Rattle.laws.proofs.Runs.{sets_append, sets_before, get_or_sets, map_append, map_from}
use Rattle.laws.proofs.Preorder.{length_preorder, length_counts, preorder_then, counts_then, preorder_mapped, counts_mapped}
use Rattle.laws.proofs.Counted.{counted, placed, roots_counted}
use Rattle.tree.specs.Read.{got, itself}
use Rattle.tree.proofs.Filled.{Full}
use Rattle.record.specs.Trees.{Trees}
use Rattle.plan.specs.Plan.{Source, slot_of, bits_of, planned_field, source_in, kids_in, plan_slots, plan_tree, plan_fields, Sits}
use Rattle.plan.specs.Draft.{Drawn}
use Rattle.plan.specs.Sources.{own_source}
use Rattle.plan.specs.Table.{sources, numbers, members, Roomy, PlanIn, DraftIn, fields_in, planned_at, LaidIn, CopiedIn}
use Rattle.plan.specs.declared.PlanRows.{PlanRows}

-- ---- laying

-- Nothing is laid.
pub laid_none : (i : ℕ) (plan : PlanRows) → LaidIn empty i plan plan
unfolding preorder counts
laid_none i plan = record { sources_set = refl; numbers_set = refl; members_set = refl }

-- Siblings behind siblings.
mapped_then : (f : Source → ℕ) (t u : Forest Source) (i j : ℕ) (l l₁ l₂ : List ℕ) → j ≡ i + size t → l₁ ≡ sets l i (map f (preorder t)) → l₂ ≡ sets l₁ j (map f (preorder u)) → l₂ ≡ sets l i (map f (preorder (t then u)))
mapped_then f t u i j l l₁ l₂ e h g =
    let p = length_preorder t in
    let q = length-map (preorder t) f in
    let d : j ≡ i + length (map f (preorder t)) = omega arith in
    g ∙ rw (h, d, preorder_then t u, map_append f (preorder t) (preorder u)) (sets_append (map f (preorder t)) (map f (preorder u)) l i)

pub laid_then : (t u : Forest Source) (i j : ℕ) (p p₁ p₂ : PlanRows) → j ≡ i + size t → LaidIn t i p p₁ → LaidIn u j p₁ p₂ → LaidIn (t then u) i p p₂
laid_then t u i j p p₁ p₂ e h g =
    let q = length_counts t in
    let d : j ≡ i + length (counts t) = omega arith in
    record {
      sources_set = mapped_then slot_of t u i j (sources p) (sources p₁) (sources p₂) e h.sources_set g.sources_set;
      numbers_set = mapped_then bits_of t u i j (numbers p) (numbers p₁) (numbers p₂) e h.numbers_set g.numbers_set;
      members_set = g.members_set ∙ rw (h.members_set, d, counts_then t u) (sets_append (counts t) (counts u) (members p) i);
    }

-- A record stored after its inside.
stored_last : (x : ℕ) (xs l l₁ : List ℕ) (i : ℕ) → l₁ ≡ sets l (i + 1) xs → set l₁ i x ≡ sets l i (x ∷ xs ++ [])
stored_last x xs l l₁ i h = rw (h, nil xs, add-one i) (sets_before xs l i (suc i) x (omega arith))
  where
    nil : (l : List ℕ) → l ++ [] ≡ l
    nil [] = refl
    nil (x ∷ l) = ap (λ r. x ∷ r) (nil l)

pub laid_last : (a : Source) (m : Forest Source) (i c : ℕ) (p p₁ : PlanRows) → c ≡ siblings m → LaidIn m (i + 1) p p₁ → LaidIn (node a m empty) i p (planned_at p₁ i a.slot a.id c)
unfolding preorder counts
laid_last a m i c p p₁ e h =
    record {
      sources_set = rw (map_append slot_of (preorder m) []) (stored_last a.slot (map slot_of (preorder m)) (sources p) (sources p₁) i h.sources_set);
      numbers_set = rw (map_append bits_of (preorder m) []) (stored_last a.id (map bits_of (preorder m)) (numbers p) (numbers p₁) i h.numbers_set);
      members_set = rw e (stored_last (siblings m) (counts m) (members p) (members p₁) i h.members_set);
    }

-- Records that stand in a row of a list, copied as they stand there.
pub copied_laid : (s : List ℕ) (p : Part) (n c k i d : ℕ) (plan plan' : PlanRows) → Full (kids_at s) n c k p → d ≡ size p.trees → CopiedIn s k d plan i plan' → LaidIn (mapped (own_source s) p.trees) i plan plan'
copied_laid s p n c k i d plan plan' u e h =
    let q : preorder (mapped (own_source s) p.trees) ≡ from (own_source s) k d = preorder_mapped (own_source s) p.trees ∙ rw (u.slots, ← e) (map_from (own_source s) itself k d) in
    record {
      sources_set = h.sources_set ∙ rw (q, map_from slot_of (own_source s) k d);
      numbers_set = h.numbers_set ∙ rw (q, map_from bits_of (own_source s) k d);
      members_set = h.members_set ∙ rw (counts_mapped (own_source s) p.trees, u.sizes, e);
    }

-- ---- sources that are there

module _ (l : Trees) where
  all_sit : (ss : List Source) (ts : List Source) → ((j : ℕ) → j < length ss → Sits l (get_or (map slot_of ss) j 0)) → ((j : ℕ) → j < length ts → Sits l (get_or (map slot_of ts) j 0)) → (j : ℕ) → j < length ss + length ts → Sits l (get_or (map slot_of (ss ++ ts)) j 0)
  all_sit [] ts h g j b = g j (omega arith)
  all_sit (s ∷ ss) ts h g zero b = h 0 (omega arith)
  all_sit (s ∷ ss) ts h g (suc j) b = all_sit ss ts (λ i c. h (suc i) (omega arith)) g j (omega arith)

  sits_in : (t : Forest Source) → Drawn l t → (j : ℕ) → j < length (preorder t) → Sits l (get_or (map slot_of (preorder t)) j 0)
  unfolding preorder
  sits_in empty h j b = absurd (omega arith)
  sits_in (node a m n) h zero b = h.0
  sits_in (node a m n) h (suc j) b =
      let q = length_append_of (preorder m) (preorder n) in
      all_sit (preorder m) (preorder n) (sits_in m h.1) (sits_in n h.2) j (omega arith)
    where
      length_append_of : (x y : List Source) → length (x ++ y) ≡ length x + length y
      length_append_of [] y = omega arith
      length_append_of (z ∷ x) y = let e = length_append_of x y in omega arith

  pub drawn_at : (t : Forest Source) → Drawn l t → (j : ℕ) → j < size t → Sits l (get_or (map slot_of (preorder t)) j 0)
  drawn_at t h j b = let e = length_preorder t in sits_in t h j (omega arith)

-- ---- what was laid is read back

module _ (t : Forest Source) (plan plan' : PlanRows) (m : ℕ) (room : Roomy plan) (h : LaidIn t 0 plan plan') (em : m ≡ size t) (few : m ≤ 1024) where
  laid_mapped : (f : Source → ℕ) (l l' : List ℕ) → length l ≡ 1024 → l' ≡ sets l 0 (map f (preorder t)) → (j : ℕ) → j < size t → get_or l' j 0 ≡ get_or (map f (preorder t)) j 0
  laid_mapped f l l' el e j b =
      let p = length_preorder t in
      let q = length-map (preorder t) f in
      rw e (ap (λ (z : ℕ). get_or (sets l 0 (map f (preorder t))) z 0) (sym (zero-add j)) ∙ get_or_sets (map f (preorder t)) l 0 j 0 (omega arith) (omega arith))

  laid_slot : (j : ℕ) → j < size t → get_or (sources plan') j 0 ≡ get_or (map slot_of (preorder t)) j 0
  laid_slot = laid_mapped slot_of (sources plan) (sources plan') room.sources_room h.sources_set

  laid_kid : (j : ℕ) → j < size t → kids_in (members plan') (0 + j) ≡ get_or (counts t) j 0
  laid_kid j b = let p = length_counts t in let q = room.members_room in rw h.members_set (get_or_sets (counts t) (members plan) 0 j 0 (omega arith) (omega arith))

  laid_source : (j : ℕ) → j < size t → source_in (sources plan') (numbers plan') (0 + j) ≡ get_or (preorder t) j (record { slot = 0; id = 0 })
  laid_source j b =
      let laid_id = laid_mapped bits_of (numbers plan) (numbers plan') room.numbers_room h.numbers_set j b in
      rw (zero-add j, laid_slot j b, laid_id, get_or-map slot_of (preorder t) j (record { slot = 0; id = 0 }), get_or-map bits_of (preorder t) j (record { slot = 0; id = 0 }))

  module _ (deep : levels t ≤ 16) where
    laid_roots : roots 4 (kids_in (members plan')) m m 0 ≡ ok (record { trees = slotted 0 t; next = m })
    laid_roots = let s = siblings_size t in roots_counted 4 (kids_in (members plan')) m t m 0 (omega arith) deep (omega arith) (counted (kids_in (members plan')) 0 t laid_kid)

    pub laid_fields : (l : Trees) → fields_in l plan' m ≡ mapped (planned_field l) t
    unfolding plan_fields plan_tree plan_slots
    laid_fields l =
        let f = source_in (sources plan') (numbers plan') in
        ap (λ (z : Answer Part). mapped (planned_field l) (mapped f (got z).trees)) laid_roots ∙ ap (mapped (planned_field l)) (placed f (record { slot = 0; id = 0 }) 0 t laid_source)

    pub laid_draft : (l : Trees) → Drawn l t → DraftIn l plan' m
    laid_draft l s = record { few = few; sits = λ i b. rw (laid_slot i (omega arith)) (drawn_at l t s i (omega arith)); shaped = rw laid_roots }

-- A draft whose name sum is within the limit is a plan.
pub draft_plan : (l : Trees) (plan : PlanRows) (m : ℕ) → DraftIn l plan m → name_bytes (fields_in l plan m) ≤ 32768 → PlanIn l plan m
draft_plan l plan m h e = record { few = h.few; sits = h.sits; shaped = h.shaped; sum = e }
