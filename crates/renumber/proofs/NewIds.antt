-- A plan with the new ids plans the paper's numbering of what it planned before: it has the same shape, and each new id is read
-- back at its place.
use mathlib.Core.Path.{◌≡◌, refl, sym, ap, ◌∙◌}
use mathlib.Core.Bool.{Bool, true, false, cond}
use mathlib.Core.List.{List, ◌∷◌, ◌++◌}
use Prim.Native.Nat.{ℕ, suc, ◌+◌, ◌≤◌, ◌<◌}
use native.Mathlib.Nat.{add-zero}
use native.Mathlib.Omega.{arith}
use lib.ListN.{length, get_or, get_or-append}
use lib.Seq.{sets, get_or-append-add}
use Rattle.paper.specs.declared.Kind.{Kind}
use Rattle.paper.specs.Forest.{Forest, empty, node, size, siblings, preorder, mapped}
use Rattle.paper.specs.Field.{Field, kind_of, with_id, is_map}
use Rattle.paper.specs.Bytes.{turned, field_at, kind_at}
use Rattle.paper.specs.Renumber.{inside_first, level, numbered}
use Rattle.laws.proofs.Natural.{numbered_mapped}
use Rattle.laws.proofs.Preorder.{preorder_mapped, mapped_mapped}
use Rattle.laws.proofs.Runs.{get_or_sets}
use Rattle.laws.proofs.Words.{turned_twice}
use Rattle.laws.proofs.Written.{siblings_size}
use Rattle.record.specs.Trees.{Trees}
use Rattle.plan.specs.Plan.{bits_of, kids_in, planned_field, plan_fields, Plan}
use Rattle.plan.specs.Draft.{Draft}
use Rattle.plan.proofs.Standing.{field_in, plan_is, draft_sum}
use Rattle.index_ids.specs.Ids.{id_in}
use Rattle.plan.specs.Walk.{trees_of}
use Rattle.plan.proofs.Walks.{Numbered, all_there, all_numbered}
use Rattle.renumber_id_reassigner.specs.Numbers.{numbered_source, new_ids}
use Rattle.renumber_id_reassigner.proofs.Numbering.{Counted, new_node, length_new}

-- ---- the counter

own_below : (b : Bool) (own next total : ℕ) (m n : Forest ℕ) (j : ℕ) → Counted b own next (siblings (node j m n)) (size (node j m n)) total → total < 4294967296 → (own < 4294967296) × (next + size m ≤ total)
unfolding siblings size
own_below false own next total m n j c f = let a = siblings_size n in let d = c.0 in let e = c.1 in (omega arith, omega arith)
own_below true own next total m n j c f = let d = c.0 in let e = c.1 in (omega arith, omega arith)

inside_counted : (b : Bool) (next : ℕ) (m : Forest ℕ) → Counted b next (inside_first b next m) (siblings m) (size m) (next + size m)
inside_counted false next m = (omega arith, omega arith)
inside_counted true next m = (refl, omega arith)

rest_counted : (b : Bool) (own next total : ℕ) (m n : Forest ℕ) (j : ℕ) → Counted b own next (siblings (node j m n)) (size (node j m n)) total
    → Counted b (cond b (next + size m) (suc own)) (cond b (suc (next + size m)) (next + size m)) (siblings n) (size n) total
unfolding siblings size
rest_counted false own next total m n j c = let d = c.0 in let e = c.1 in (omega arith, omega arith)
rest_counted true own next total m n j c = let d = c.0 in let e = c.1 in (omega arith, omega arith)

-- ---- what is read back

abbrev with_slot : ℕ → ℕ → ℕ × ℕ
with_slot i k = (i, k)

read_back : (new : List ℕ) (kind : ℕ → Kind) (k : ℕ) (b : Bool) (own next total : ℕ) (t : Forest ℕ) → Numbered k t → Counted b own next (siblings t) (size t) total → total < 4294967296
    → ((j : ℕ) → j < size t → get_or new (k + j) 0 ≡ get_or (new_ids kind b own next t) j 0) → level with_slot kind b own next t ≡ mapped (λ j. with_slot (id_in new j) j) t
unfolding level mapped size
read_back new kind k b own next total empty q c f h = refl
read_back new kind k b own next total (node j m u) q c f h =
    let d = is_map (kind j) in
    let A = new_ids kind d next (inside_first d next m) m in
    let B = new_ids kind b (cond b (next + size m) (suc own)) (cond b (suc (next + size m)) (next + size m)) u in
    let la = length_new kind d next (inside_first d next m) m in
    let g : (i : ℕ) → i < suc (size m + size u) → get_or new (k + i) 0 ≡ get_or (turned own ∷ (A ++ B)) i 0 = λ i l. h i l ∙ ap (λ (z : List ℕ). get_or z i 0) (new_node kind b own next j m u) in
    let o = own_below b own next total m u j c f in
    let o₁ = o.1 in
    let e : id_in new j ≡ own = rw q.0 (ap turned (ap (λ (z : ℕ). get_or new z 0) (sym (add-zero k)) ∙ g 0 (omega arith)) ∙ turned_twice own o.0) in
    rw (
      e,
      read_back new kind (suc k) d next (inside_first d next m) (next + size m) m q.1.0 (inside_counted d next m) (omega arith)
          (λ i l. let z : suc k + i ≡ k + suc i = omega arith in rw z (g (suc i) (omega arith) ∙ get_or-append A B 0 i (omega arith))),
      read_back new kind (suc k + size m) b (cond b (next + size m) (suc own)) (cond b (suc (next + size m)) (next + size m)) total u q.1.1 (rest_counted b own next total m u j c) f
          (λ i l. let z : suc k + size m + i ≡ k + suc (size m + i) = omega arith in rw z (g (suc (size m + i)) (omega arith) ∙ rw la at (get_or-append-add A B i 0))),
    )

-- The new ids of slots are those of the fields that stand there.
of_fields : (fld : ℕ → Field) (first : ℕ) (t : Forest ℕ) → new_ids (λ k. kind_of (fld k)) false first (first + siblings t) t ≡ preorder (numbered (λ i _. turned i) kind_of first (mapped fld t))
unfolding new_ids numbered
of_fields fld first t =
    sym (ap preorder (numbered_mapped fld bits_of numbered_source (λ i _. turned i) (λ i a. refl) kind_of first t) ∙ preorder_mapped bits_of (numbered numbered_source (λ k. kind_of (fld k)) first t))

-- ---- the plan

module _ (l : Trees) (xs old ks : List ℕ) (m : ℕ) (p : Plan l xs old ks m) (new : List ℕ) where
  pub new_plan : Plan l xs new ks m
  new_plan =
      let d : (is : List ℕ) → Draft l xs is ks m = λ is. record { few = p.few; sits = p.sits; shaped = p.shaped } in
      record { few = p.few; sits = p.sits; shaped = p.shaped; sum = rw (draft_sum l record { sources = xs; numbers = new; members = ks } m (d new), ← (draft_sum l record { sources = xs; numbers = old; members = ks } m (d old))) p.sum }

  pub new_fields : (records pool : List ℕ) (first : ℕ) (t : Forest ℕ) → mapped (field_at pool records) t ≡ plan_fields l xs old ks m → first + m < 4294967296 → length old ≡ 1024
      → new ≡ sets old 0 (new_ids (kind_at records) false first (first + siblings t) t) → plan_fields l xs new ks m ≡ numbered with_id kind_of first (plan_fields l xs old ks m)
  unfolding planned_field field_at numbered
  new_fields records pool first t et f lo e =
      let u = trees_of (kids_in ks) m in
      let fld = field_in l xs old in
      let few = p.few in
      let z = all_there (kids_in ks) m in
      let is_u = plan_is l xs old ks m p in
      let W = new_ids (λ k. kind_of (fld k)) false first (first + siblings u) u in
      let lw = length_new (λ k. kind_of (fld k)) false first (first + siblings u) u in
      let same : new_ids (kind_at records) false first (first + siblings t) t ≡ W = of_fields (field_at pool records) first t ∙ ap (λ (y : Forest Field). preorder (numbered (λ i _. turned i) kind_of first y)) (et ∙ is_u) ∙ sym (of_fields fld first u) in
      let back = read_back new (λ k. kind_of (fld k)) 0 false first (first + siblings u) (first + size u) u (all_numbered (kids_in ks) m) (omega arith, omega arith) (omega arith)
      (λ j b. rw (e, same) (get_or_sets W old 0 j 0 (omega arith) (omega arith))) in
      plan_is l xs new ks m new_plan
      ∙ sym (ap (mapped (λ (a : ℕ × ℕ). with_id a.0 (fld a.1))) back ∙ mapped_mapped (λ j. with_slot (id_in new j) j) (λ (a : ℕ × ℕ). with_id a.0 (fld a.1)) u)
      ∙ sym (ap (numbered with_id kind_of first) is_u ∙ numbered_mapped fld (λ (a : ℕ × ℕ). with_id a.0 (fld a.1)) with_slot with_id (λ i a. refl) kind_of first u)
