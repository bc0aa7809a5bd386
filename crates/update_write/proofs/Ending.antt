-- The rebuilt tree is a plan where it fits: its sources are slots of the two trees that were read, as their marks leave them. Where it
-- does not fit it passes a limit. Then the index answers 7 to 9 of it, and the writer leaves its bytes.
use mathlib.Core.Path.{◌≡◌, refl, sym, ap, ◌∙◌}
use mathlib.Core.Logic.{inl, inr}
use mathlib.Core.Bool.{Bool, true, false, ◌&&◌}
use mathlib.Core.List.{List, [], ◌∷◌}
use mathlib.Core.Option.{none}
use Prim.Native.Nat.{ℕ, zero, suc, ◌+◌, ◌≤◌, ◌<◌}
use native.Mathlib.Nat.{zero-add}
use native.Mathlib.Omega.{arith}
use borrow.Author.Tests.{le-leb}
use lib.Dec.{leb}
use lib.ListN.{length, get_or}
use Rattle.paper.specs.Answer.{ok, ◌>>=◌}
use Rattle.paper.specs.Forest.{Forest, empty, node, size, siblings, levels, mapped}
use Rattle.paper.specs.Field.{Field, id_of, kind_of}
use Rattle.paper.specs.Bytes.{turned, kids_at, field_at, from}
use Rattle.paper.specs.Edits.{Edited}
use Rattle.paper.specs.Layout.{Part, roots}
use Rattle.paper.specs.Decode.{fields, decode}
use Rattle.paper.specs.Lists.{id_list}
use Rattle.paper.specs.Gone.{outermost}
use Rattle.paper.specs.Rebuild.{Addition, fresh}
use Rattle.paper.specs.Sound.{name_bytes, within, sound}
use Rattle.paper.specs.Outcome.{for_records, for_names, leaves}
use Rattle.record.specs.declared.Refusal.{Refusal}
use Rattle.record.specs.Answers.{Check, Changed}
use Rattle.std.specs.Prelude.{Ok, Err, Some, None}
use Rattle.record.specs.Says.{refusal_of, changes}
use Rattle.record.specs.Trees.{Trees}
use Rattle.record.proofs.Testing.{checked_ok, checked_refused, refuses}
use Rattle.laws.proofs.Basics.{unbind, ok_is}
use Rattle.laws.proofs.Fitting.{sized_slots}
use Rattle.laws.proofs.Preorder.{size_mapped, siblings_mapped, levels_mapped}
use Rattle.laws.proofs.Pointwise.{Each, each_more, each_mapped, each_slot, outermost_same, All, each_rebuilt}
use Rattle.laws.proofs.Natural.{outermost_mapped}
use Rattle.laws.proofs.RoundTrip.{length_pool}
use Rattle.laws.proofs.Taken as taken
use Rattle.tree.specs.Read.{part, got}
use Rattle.tree.specs.Says.{rooted}
use Rattle.tree.proofs.Steps.{was_read}
use Rattle.plan.specs.Plan.{Source, planned_field}
use Rattle.plan.specs.Draft.{Drawn}
use Rattle.plan.specs.Sources.{Summed}
use Rattle.plan_write.specs.Written.{Written}
use Rattle.plan.specs.Table.{sources, Roomy, PlanIn, DraftIn, InsideIn, fields_in}
use Rattle.plan.proofs.Laying.{laid_fields, laid_draft}
use Rattle.plan.proofs.Standing.{fields_size}
use Rattle.plan.proofs.Summing.{draft_inside, summed_plan, summed_over}
use Rattle.plan.proofs.Taking.{added_sits}
use Rattle.index_ids.specs.Table.{Fresh}
use Rattle.index.specs.Index.{Indexing}
use Rattle.update_dropped.specs.declared.Dropped.{Dropped}
use Rattle.update_dropped.specs.Set.{dropped_ids}
use Rattle.update_rebuild.specs.declared.Given.{Given}
use Rattle.update_rebuild.specs.declared.Place.{Place}
use Rattle.update_rebuild.specs.Answers.{Step}
use Rattle.update_rebuild.specs.Sources.{base_source, added_source, source_id, source_kind, added_tree, addition_at, additions, rebuilt_row, rebuilt_base, passed, passed_base}
use Rattle.update_rebuild.specs.Planned.{unders_in, firsts_in, starts_in, drops_in, additions_in, Based, fits, Rebuilds}
use Rattle.update_edits.specs.Marks.{remark, Unmarked, Carries}
use Rattle.update_edits.proofs.Marked.{Sourced, remarked_drawn, rebuilt_marked}
use Rattle.update_rebuild.proofs.Whole.{of_fits}
use Rattle.update_dropped.specs.Gathered.{row_ids, Gathered}
use Rattle.update_write.proofs.Verdict.{verdict_went, verdict_full}
use Rattle.update_write.specs.Ending.{sounded, limited_sounded, Rebuildable, rebuilt_tree, visited_in, Ends}
use Rattle.plan.specs.declared.PlanRows.{PlanRows}
use Rattle.update_rebuild.specs.declared.Decisions.{Decisions}

-- ---- sources

each_fresh : (P : Source → Type 0) (c : ℕ) (t : Forest ℕ) → Each (λ k. (i : ℕ) → P (added_source i k)) t → Each P (fresh added_source c t)
unfolding fresh
each_fresh P c empty h = tt
each_fresh P c (node k m n) h = (h.0 c, each_fresh P (suc c) m h.1, each_fresh P (suc (c + size m)) n h.2)

-- ---- the limits

and_and : (a b c : Bool) → (a && (b && c)) ≡ ((a && b) && c)
and_and true b c = refl
and_and false b c = refl

within_fits : (g : Source → Field) (t : Forest Source) → within (mapped g t) ≡ (fits t && leb (name_bytes (mapped g t)) 32768)
unfolding within fits
within_fits g t = rw (size_mapped g t, levels_mapped g t) (and_and (leb (size t) 1024) (leb (levels t) 16) (leb (name_bytes (mapped g t)) 32768))

module _ (l : Trees) (i : List ℕ) (given : Given) (c : ℕ) (decisions : Decisions) (marks : List ℕ) (plan : PlanRows) (index : List (List ℕ)) (out text : List ℕ) (h : Rebuildable l i given c decisions marks plan index out text) where
  abbrev Ending : Changed → List ℕ → List ℕ → Type 0
  Ending r out' text' = Ends l i given decisions marks out text r out' text'

  few : given.base ≤ 1024
  few = let e = h.base_count in let w = (sized_slots l.records l.pool h.base_limits).0 in omega arith

  -- a slot of the base, or one of the additions tree that is there
  abbrev Seated : Source → Type 0
  Seated = Sourced h.carries few

  read : (P : Type 0) → ((u : Part) → roots 0 (kids_at l.records) given.base given.base 0 ≡ ok u → fields l.pool l.records u.trees ≡ h.base → P) → P
  unfolding decode
  read P f =
      unbind _ _ h.base_read λ _ e₁ a₁. unbind _ _ a₁ λ _ e₂ a₂. unbind _ _ a₂ λ u e₃ a₃. unbind _ _ a₃ λ _ e₄ a₄.
      f u (rw h.base_count e₃) (ok_is a₄)

  based : Based l.records given.base c
  unfolding rooted fields
  based = read _ λ u e q.
      let n = h.base_count in
      let z : c ≡ siblings u.trees = h.root_count ∙ ap siblings (sym q) ∙ siblings_mapped _ u.trees in
      record { whole = omega arith; small = few; rooted = rw (e, z) (ap Ok (sym (zero-add (siblings u.trees)))) }

  base_slots_low : (u : Part) → roots 0 (kids_at l.records) given.base given.base 0 ≡ ok u → Each (λ j. j < given.base) u.trees
  base_slots_low u e = each_slot (kids_at l.records) given.base 0 u.trees (taken.roots_take 0 (kids_at l.records) given.base given.base 0 u e).laid

  base_seated : Each Seated (mapped (base_source l.records) (got (roots 0 (kids_at l.records) given.base given.base 0)).trees)
  base_seated = read _ λ u e q. rw e (each_mapped Seated (base_source l.records) u.trees (each_more _ _ (λ j k. inl k) u.trees (base_slots_low u e)))

  abbrev adds_from : (j k : ℕ) → List (Addition Source)
  adds_from = from (addition_at l.added_records given.added (unders_in decisions) (firsts_in decisions) (starts_in decisions))

  -- what holds of each added record holds of all that is added
  module _ (P : Source → Type 0) (f : (x : ℕ) → x < given.added → (i : ℕ) → P (added_source i x)) where
    each_added : (j : ℕ) → j < given.additions → Each P (added_tree l.added_records given.added (get_or (firsts_in decisions) j 0) (get_or (starts_in decisions) j 0))
    unfolding added_tree
    each_added j k =
        let b = l.added_records in
        let first = get_or (firsts_in decisions) j 0 in
        let e = was_read 1 (kids_at b) given.added 16 1 first (h.resolved.tree j k) in
        let u = (part 1 (kids_at b) given.added 16 1 first).trees in
        each_fresh P _ u (each_more _ _ f u (each_slot (kids_at b) given.added first u (taken.row_take 1 (kids_at b) given.added 16 1 first _ e).took.laid))

    all_added : (ds : List ℕ) (j k : ℕ) → j + k ≤ given.additions → All P source_id (source_kind l.records) ds (adds_from j k)
    unfolding from
    all_added ds j zero q = tt
    all_added ds j (suc k) q = (each_added j (omega arith), all_added ds (suc j) k (omega arith))

  added_seated : (x : ℕ) → x < given.added → (i : ℕ) → Seated (added_source i x)
  added_seated x y i =
      let n = h.added_count in
      let small = h.resolved.small in
      inr (omega arith, added_sits 1 l h.added h.added_read (omega arith) x (omega arith))

  module _ (held : Dropped) (g : Gathered (drops_in decisions) given.deletions held) where
    abbrev unmarked_tree : Forest Source
    unmarked_tree = rebuilt_base l.records given.base (dropped_ids held) (additions_in l.added_records given decisions)

    abbrev t : Forest Source
    t = mapped (remark marks) unmarked_tree

    drawn : Drawn l t
    unfolding rebuilt_base rebuilt_row additions
    drawn =
        remarked_drawn h.carries few unmarked_tree
        (each_rebuilt Seated source_id (source_kind l.records) (dropped_ids held) _ (all_added Seated added_seated (dropped_ids held) 0 given.additions (omega arith)) none true
        (mapped (base_source l.records) (got (roots 0 (kids_at l.records) given.base given.base 0)).trees) base_seated)

    pub rebuild_asks : Based l.records given.base c × Roomy plan × (given.edits ≡ 0 → Unmarked marks)
    rebuild_asks = (based, h.plan_room, h.unmarked)

    -- the planned tree is the paper's
    tree_is : (base : Forest Field) → decode 0 l.records l.pool ≡ ok base → (edits : List Edited) → Carries l given.base marks edits
        → mapped (planned_field l) t ≡ rebuilt_tree l given decisions edits base
    unfolding rebuilt_tree rebuilt_base rebuilt_row additions
    tree_is base e edits w =
        read _ λ u r q.
        rw r
        (rebuilt_marked w few u.trees (dropped_ids held) (row_ids (drops_in decisions) given.deletions) (additions_in l.added_records given decisions) none true
        (base_slots_low u r) (all_added (λ a. 1024 ≤ a.slot) (λ x y i. omega arith) (dropped_ids held) 0 given.additions (omega arith)) g.holds
        ∙ rw (q ∙ ok_is (sym h.base_read ∙ e)))

    -- the dropped members that are passed are the paper's
    passed_is : (base : Forest Field) → decode 0 l.records l.pool ≡ ok base
        → passed_base l.records given.base (dropped_ids held) ≡ length (outermost id_of kind_of (row_ids (drops_in decisions) given.deletions) true base)
    unfolding passed_base passed fields field_at
    passed_is base e =
        read _ λ u r q.
        rw r
        (ap length (outermost_same _ _ _ _ (dropped_ids held) (row_ids (drops_in decisions) given.deletions) g.holds true u.trees (each_more _ _ (λ j k. (refl, refl)) u.trees (base_slots_low u r)))
        ∙ sym (outermost_mapped (field_at l.pool l.records) id_of kind_of (row_ids (drops_in decisions) given.deletions) true u.trees)
        ∙ ap (λ (x : Forest Field). length (outermost id_of kind_of (row_ids (drops_in decisions) given.deletions) true x)) (q ∙ ok_is (sym h.base_read ∙ e)))

    over : within (mapped (planned_field l) t) ≡ false → Ending (Err (refusal_of 19 4 0)) out text
    unfolding limited_sounded ◌>>=◌
    over e = record { ends = λ base d edits w. refuses _ (refusal_of 19 4 0) (for_records out ∷ for_names text ∷ []) (rw (← (tree_is base d edits w), e)) }

    module _ (y : Step) (plan' : PlanRows) (v : Rebuilds t (passed_base l.records given.base (dropped_ids held)) given.base plan y plan') where
      pub full_stops : y ≡ None → Ending (Err (refusal_of 19 4 0)) out text
      full_stops d = over (within_fits (planned_field l) t ∙ rw (verdict_full given.base _ t y v.answer d))

      module _ (w : Place) (d : y ≡ Some w) where
        went : (fits t ≡ true) × (w.at ≡ size t) × (w.visited ≡ size t + passed_base l.records given.base (dropped_ids held))
        went = verdict_went given.base _ t y w v.answer d

        draft : DraftIn l plan' w.at
        draft =
            let f = of_fits t went.0 in
            let f₁ = f.1 in
            let e = went.1 in
            laid_draft t plan plan' w.at h.plan_room (v.laid went.0) e (omega arith) f.0 l drawn

        planned : fields_in l plan' w.at ≡ mapped (planned_field l) t
        planned =
            let f = of_fits t went.0 in
            let f₁ = f.1 in
            let e = went.1 in
            laid_fields t plan plan' w.at h.plan_room (v.laid went.0) e (omega arith) f.0 l

        pub names_asks : InsideIn l plan' w.at
        names_asks = draft_inside l plan' w.at draft

        module _ (z : Bool) (k : Summed l.records l.added_records l.edits (sources plan') w.at z) where
          pub names_stop : z ≡ false → Ending (Err (refusal_of 19 4 0)) out text
          names_stop q =
              let e = summed_over l plan' w.at draft z k q in
              over (within_fits (planned_field l) t ∙ rw went.0 (rw planned at e))

          module _ (q : z ≡ true) where
            pub the_plan : PlanIn l plan' w.at
            the_plan = summed_plan l plan' w.at draft z k q

            fitting : within (mapped (planned_field l) t) ≡ true
            fitting = let e = the_plan.sum in within_fits (planned_field l) t ∙ rw went.0 (ap (λ (x : Forest Field). leb (name_bytes x) 32768) (sym planned) ∙ le-leb _ 32768 e)

            pub test_asks : (table : List (List ℕ)) → Fresh table → PlanIn l plan' w.at × (Fresh table × (length i ≤ 256))
            test_asks table f = (the_plan, (f, h.few))

            pub write_asks : PlanIn l plan' w.at × (24576 ≤ length out) × (32768 ≤ length text)
            write_asks = (the_plan, h.records_room, h.names_room)

            pub records_fit : w.at < 4294967296
            records_fit = let f = the_plan.few in omega arith

            -- what the index says of the planned tree is said of the paper's
            limited_is : (base : Forest Field) → decode 0 l.records l.pool ≡ ok base → (edits : List Edited) → Carries l given.base marks edits → (last visited : ℕ)
                → limited_sounded (rebuilt_tree l given decisions edits base) (id_list i) last visited ≡ sounded (fields_in l plan' w.at) (id_list i) last visited
            unfolding limited_sounded ◌>>=◌
            limited_is base e edits v' last visited = rw (← (tree_is base e edits v'), fitting, planned)

            module _ (x : Check) (table index' : List (List ℕ)) (s : Indexing l plan' w.at 4 i x table index') where
              pub sound_stops : (f : Refusal) → x ≡ Err f → Ending (Err f) out text
              unfolding sounded ◌>>=◌
              sound_stops f o =
                  record { ends = λ base e edits v'. refuses _ f (for_records out ∷ for_names text ∷ []) (limited_is base e edits v' _ _ ∙ rw (checked_refused (sound 4 (fields_in l plan' w.at) (id_list i)) x f s.answer o)) }

              module _ (used : ℕ) (out' text' : List ℕ) (b : Written (fields_in l plan' w.at) out text used out' text') where
                pub names_fit : used < 4294967296
                names_fit = let e = b.bytes in let p = length_pool (fields_in l plan' w.at) in let f = the_plan.sum in omega arith

                pub all_written : x ≡ (Ok tt) → (bits : ℕ) → bits ≡ turned given.last
                    → Ending (Ok (record { records = w.at; names = used; last_id = bits; visited = w.visited })) out' text'
                unfolding sounded ◌>>=◌ changes leaves
                all_written o bits eb =
                    record {
                      ends = λ base e edits v'.
                          let z = checked_ok (sound 4 (fields_in l plan' w.at) (id_list i)) x s.answer o in
                          let n = fields_size plan' w.at the_plan.shaped l in
                          let many : w.visited ≡ visited_in given decisions base (rebuilt_tree l given decisions edits base) =
                          went.2 ∙ rw (passed_is base e, ← (tree_is base e edits v'), size_mapped (planned_field l) t) in
                          rw (limited_is base e edits v' (turned given.last) _, z) record { told = rw (b.bytes, n, eb, many); left = rw (b.rows, b.pool) refl };
                    }

pub ruleset ending = (full_stops, names_stop)
