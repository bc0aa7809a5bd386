-- A marked plan, as fields: the base's records are as the edits leave them, and the added ones as they were.
use Prim.Native.Nat.{ℕ, suc, ◌+◌, ◌<◌, ◌≤◌}
use mathlib.Core.Path.{◌≡◌, refl, sym, ap, subst, ◌∙◌}
use mathlib.Core.Logic.{◌⊎◌, inl, inr}
use mathlib.Core.Bool.{Bool}
use mathlib.Core.List.{List, [], ◌∷◌, map, map-map}
use mathlib.Core.Option.{Option}
use native.Mathlib.Nat.{add-zero}
use native.Mathlib.Omega.{arith}
use borrow.Author.Tests.{lt-ltb}
use lib.ListN.{length, get_or, drop, length-map}
use lib.Seq.{sets, length-sets, drop-append_seam}
use Rattle.paper.specs.declared.Kind.{Kind}
use Rattle.paper.specs.Answer.{among}
use Rattle.paper.specs.Bytes.{turned, kind_at, field_at, from}
use Rattle.paper.specs.Decode.{fields}
use Rattle.paper.specs.Edits.{Edited, edit_fields, edited_tree}
use Rattle.paper.specs.Field.{Field, id_of, kind_of, with_id}
use Rattle.paper.specs.Forest.{Forest, empty, node, size, preorder, mapped}
use Rattle.paper.specs.Rebuild.{Addition, rebuilt}
use Rattle.laws.proofs.Edited.{edits_keep_id, edits_keep_kind}
use Rattle.laws.proofs.Natural.{mapped_all, rebuilt_mapped}
use Rattle.laws.proofs.Pointwise.{Each, All, each_more, each_mapped, mapped_same, rebuilt_same}
use Rattle.laws.proofs.Preorder.{length_preorder, preorder_mapped, counts_mapped, mapped_mapped}
use Rattle.laws.proofs.Runs.{get_or_sets, sets_front}
use Rattle.record.specs.Trees.{Trees}
use Rattle.plan.specs.Draft.{Drawn}
use Rattle.plan.specs.Plan.{Source, slot_of, bits_of, planned_field, Sits}
use Rattle.plan.specs.Sources.{own_source}
use Rattle.plan.specs.Table.{sources, numbers, LaidIn}
use Rattle.update_edits.specs.Marks.{marked, remarked, remark, Carries, RemarkedIn}
use Rattle.update_edits.proofs.Marking.{source_stays}
use Rattle.plan.specs.declared.PlanRows.{PlanRows}

-- ---- the table

-- What is read of a run of stores and stored again.
run_read : (g f : ℕ → ℕ) (xs : List ℕ) (k : ℕ) → ((j : ℕ) → j < length xs → g (k + j) ≡ f (get_or xs j 0)) → from g k (length xs) ≡ map f xs
unfolding from
run_read g f [] k h = refl
run_read g f (x ∷ xs) k h =
    let e : g k ≡ f x = ap g (sym (add-zero k)) ∙ h 0 (omega arith) in
    let r = run_read g f xs (suc k) (λ j l. let z : suc k + j ≡ k + suc j = omega arith in rw z (h (suc j) (omega arith))) in
    rw (e, r)

run_over : (xs ys l : List ℕ) → length ys ≡ length xs → length xs ≤ length l → sets (sets l 0 xs) 0 ys ≡ sets l 0 ys
run_over xs ys l e h =
    sets_front ys (sets l 0 xs) (let q = length-sets l 0 xs in omega arith)
    ∙ rw (sets_front xs l h, e, drop-append_seam xs (drop (length xs) l), ← e) (sym (sets_front ys l (omega arith)))

module _ (marks : List ℕ) (t : Forest Source) (m : ℕ) (plan p p' : PlanRows) where
  -- The records that were laid stand there with their marks.
  pub remarked_laid : m ≡ size t → m ≤ length (sources plan) → LaidIn t 0 plan p → RemarkedIn marks m p p' → LaidIn (mapped (remark marks) t) 0 plan p'
  remarked_laid em h d r =
      let ps = preorder t in
      let xs = map slot_of ps in
      let n : length xs ≡ m = length-map ps slot_of ∙ length_preorder t ∙ sym em in
      let g : ℕ → ℕ = λ i. remarked marks (get_or (sets (sources plan) 0 xs) i 0) in
      let e : from g 0 m ≡ map (remarked marks) xs = rw (← n) (run_read g (remarked marks) xs 0 (λ j l. ap (remarked marks) (get_or_sets xs (sources plan) 0 j 0 (omega arith) l))) in
      let w = length-map xs (remarked marks) in
      record {
        sources_set =
            r.sources_set ∙ rw (d.sources_set, e, run_over xs (map (remarked marks) xs) (sources plan) w (omega arith), preorder_mapped (remark marks) t)
            (ap (sets (sources plan) 0) (map-map (remarked marks) slot_of ps ∙ sym (map-map slot_of (remark marks) ps)));
        numbers_set = r.numbers_same ∙ d.numbers_set ∙ rw (preorder_mapped (remark marks) t) (ap (sets (numbers plan) 0) (sym (map-map bits_of (remark marks) ps)));
        members_set = r.members_same ∙ d.members_set ∙ rw (counts_mapped (remark marks) t);
      }

-- ---- the fields

own_id : (i : ℕ) (f : Field) → f.id ≡ i → with_id i f ≡ f
own_id i f e = rw (← e)

pub remark_added : (marks : List ℕ) (a : Source) → 1024 ≤ a.slot → remark marks a ≡ a
remark_added marks a h = ap (λ (x : ℕ). record { slot = x; id = a.id }) (sym (source_stays marks a.slot h))

module _ {l : Trees} {n : ℕ} {marks : List ℕ} {decided : List Edited} (C : Carries l n marks decided) (few : n ≤ 1024) where
  remarked_base : (s : ℕ) → s < n → remarked marks s ≡ marked marks s
  unfolding remarked
  remarked_base s i = rw (lt-ltb s 1024 (omega arith))

  -- A record of the base is its column as the edits leave it.
  pub remark_base : (s : ℕ) → s < n → planned_field l (remark marks (own_source l.records s)) ≡ edit_fields decided (field_at l.pool l.records s)
  unfolding planned_field field_at
  remark_base s i = rw (remarked_base s i, C.field s i) (own_id _ (edit_fields decided (field_at l.pool l.records s)) (edits_keep_id decided (field_at l.pool l.records s)))

  -- A source of the base, or one of the additions tree that is there.
  abbrev pub Sourced : Source → Type 0
  Sourced a = (a.slot < n) ⊎ ((1024 ≤ a.slot) × Sits l a.slot)

  remark_sits : (a : Source) → Sourced a → Sits l (remark marks a).slot
  remark_sits a (inl i) = rw (remarked_base a.slot i) (C.sits a.slot i)
  remark_sits a (inr h) = subst (λ (x : ℕ). Sits l x) (source_stays marks a.slot h.0) h.1

  pub remarked_drawn : (t : Forest Source) → Each Sourced t → Drawn l (mapped (remark marks) t)
  unfolding mapped
  remarked_drawn empty h = tt
  remarked_drawn (node a m u) h = (remark_sits a h.0, remarked_drawn m h.1, remarked_drawn u h.2)

-- ---- the rebuild

module _ {l : Trees} {n : ℕ} {marks : List ℕ} {decided : List Edited} (C : Carries l n marks decided) (few : n ≤ 1024) where
  abbrev as_edited : Source → Field
  as_edited a = planned_field l (remark marks a)

  abbrev asked_id : Source → ℕ
  asked_id a = turned a.id

  abbrev asked_kind : Source → Kind
  asked_kind a = kind_at l.records a.slot

  added_all : (ds : List ℕ) (adds : List (Addition Source)) → All (λ a. 1024 ≤ a.slot) asked_id asked_kind ds adds → mapped_all as_edited adds ≡ mapped_all (planned_field l) adds
  added_all ds [] h = refl
  added_all ds (a ∷ rest) h =
      rw (mapped_same as_edited (planned_field l) a.tree (each_more _ _ (λ b i. ap (planned_field l) (remark_added marks b i)) a.tree h.0), added_all ds rest h.1)

  -- Sources rebuilt and then marked are the paper's rebuild of the edited base.
  pub rebuilt_marked : (t : Forest ℕ) (ds ds' : List ℕ) (adds : List (Addition Source)) (q : Option ℕ) (open? : Bool)
      → Each (λ j. j < n) t → All (λ a. 1024 ≤ a.slot) asked_id asked_kind ds adds → ((x : ℕ) → among x ds ≡ among x ds')
      → mapped (planned_field l) (mapped (remark marks) (rebuilt asked_id asked_kind ds adds q open? (mapped (own_source l.records) t)))
      ≡ rebuilt id_of kind_of ds' (mapped_all (planned_field l) adds) q open? (edited_tree decided (fields l.pool l.records t))
  unfolding fields planned_field field_at
  rebuilt_marked t ds ds' adds q open? small late drops =
      let s = l.records in
      let own = own_source s in
      let fld = field_at l.pool s in
      let asked : Each (λ a. (asked_id a ≡ id_of (as_edited a)) × (asked_kind a ≡ kind_of (as_edited a))) (mapped own t)
      = each_mapped _ own t (each_more _ _ (λ k i. (refl, sym (ap kind_of (remark_base C few k i) ∙ edits_keep_kind decided (fld k)))) t small) in
      let there : mapped as_edited (mapped own t) ≡ mapped (edit_fields decided) (mapped fld t)
      = mapped_mapped own as_edited t ∙ mapped_same (λ k. as_edited (own k)) (λ k. edit_fields decided (fld k)) t (each_more _ _ (λ k i. remark_base C few k i) t small) ∙ sym (mapped_mapped fld (edit_fields decided) t) in
      mapped_mapped (remark marks) (planned_field l) _
      ∙ ap (mapped as_edited) (rebuilt_same asked_id (λ a. id_of (as_edited a)) asked_kind (λ a. kind_of (as_edited a)) ds ds' adds drops q open? (mapped own t) asked)
      ∙ sym (rebuilt_mapped as_edited id_of kind_of ds' adds q open? (mapped own t))
      ∙ rw (added_all ds adds late, there)
