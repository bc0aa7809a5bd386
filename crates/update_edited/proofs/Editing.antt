-- Edits one at a time: what is left of them, behind those that the marks carry, is the whole.
use Prim.Native.Nat.{ℕ, suc, ◌+◌, ◌-◌, ◌*◌, ◌<◌, ◌≤◌}
use mathlib.Core.Path.{◌≡◌, refl, sym, ap, subst, ◌∙◌}
use mathlib.Core.Bool.{true}
use mathlib.Core.List.{List, [], ◌∷◌, ◌++◌}
use native.Mathlib.Omega.{arith}
use native.Mathlib.Numerals.{add-one}
use lib.ListN.{length, get_or, set}
use Rattle.paper.specs.Answer.{Answer, ok, refused, ◌>>=◌, among}
use Rattle.paper.specs.Forest.{Forest}
use Rattle.paper.specs.Field.{Field, id_of, kind_of}
use Rattle.paper.specs.Rows.{look_name}
use Rattle.paper.specs.Bytes.{in_pool, from}
use Rattle.paper.specs.Decode.{fields}
use Rattle.paper.specs.Lists.{edit_in, edit_path, edit_of}
use Rattle.paper.specs.Edits.{Edit, Edited, edited_one, edited_all}
use Rattle.laws.proofs.Basics.{bind_is, bind_not}
use Rattle.laws.proofs.Fitting.{lowest_none}
use Rattle.laws.proofs.Going.{gone_same}
use Rattle.laws.proofs.Runs.{from_step, from_done, from_all}
use Rattle.record.specs.declared.Refusal.{Refusal}
use Rattle.record.specs.declared.Slot.{Slot}
use Rattle.record.specs.Answers.{Found, Check}
use Rattle.std.specs.Prelude.{Ok, Err}
use Rattle.record.specs.Says.{found_row}
use Rattle.record.specs.Trees.{Trees}
use Rattle.record_entries.specs.declared.PathList.TheVariants.{Edits}
use Rattle.plan.specs.Table.{sources, numbers, members, fields_in}
use Rattle.update_dropped.specs.declared.Dropped.{Dropped}
use Rattle.index_ids.specs.Table.{ups_in}
use Rattle.update_dropped.specs.Set.{dropped_ids}
use Rattle.update_dropped.specs.Gathered.{row_ids, Gathered}
use Rattle.update_gone.specs.Gone.{base_slots, Rises}
use Rattle.update_edits.specs.Answers as answers
use Rattle.update_edits.specs.Edit.{Lands, Named, change_of, edited_at, EditedBy, OneEdited}
use Rattle.update_edits.specs.Marks.{as_marked, Carries, marked_by}
use Rattle.update_edits.proofs.Deciding.{found_lands, edited_is}
use Rattle.update_edits.proofs.Carrying.{asks_none, parts_sit, carries_none, carries_more}
use Rattle.update_rebuild.specs.declared.Given.{Given}
use Rattle.update_rebuild.specs.Planned.{drops_in}
use Rattle.update_schema.proofs.Deleting.{entry_here}
use Rattle.update_schema.proofs.Rising.{base_tree, rises}
use Rattle.update_edited.specs.Editing.{Editable, all_edited, EditsLeft, EditsBy, EditsIn}
use Rattle.plan.specs.declared.PlanRows.{PlanRows}
use Rattle.update_rebuild.specs.declared.Decisions.{Decisions}

-- ---- edits ask of the dropped ids only which are among them

module _ (t : Forest Field) (ds ds' : List ℕ) (h : (x : ℕ) → among x ds ≡ among x ds') where
  one_same : (k : ℕ) (earlier : List Edited) (e : Edit) → edited_one t ds k earlier e ≡ edited_one t ds' k earlier e
  unfolding edited_one
  one_same k earlier e = rw (gone_same id_of kind_of ds ds' h true t)

  pub edits_same : (k : ℕ) (earlier : List Edited) (es : List Edit) → edited_all t ds k earlier es ≡ edited_all t ds' k earlier es
  unfolding edited_all ◌>>=◌
  edits_same k earlier [] = refl
  edits_same k earlier (e ∷ es) = rw (one_same k earlier e) (go (edited_one t ds' k earlier e) (λ d. edits_same (suc k) (earlier ++ (d ∷ [])) es))
    where
      go : (a : Answer Edited) → ((d : Edited) → edited_all t ds (suc k) (earlier ++ (d ∷ [])) es ≡ edited_all t ds' (suc k) (earlier ++ (d ∷ [])) es)
          → (a >>= λ d. edited_all t ds (suc k) (earlier ++ (d ∷ [])) es) ≡ (a >>= λ d. edited_all t ds' (suc k) (earlier ++ (d ∷ [])) es)
      go (ok d) f = f d
      go (refused n l p) f = refl

-- ---- the loop

module _ (l : Trees) (version n total : ℕ) (t : Forest Field) (ds : List ℕ) where
  abbrev asked : ℕ → Edit
  asked = edit_of version l.request_pool l.edits

  abbrev whole : Answer (List Edited)
  whole = edited_all t ds 0 [] (from asked 0 total)

  abbrev rest : ℕ → List Edited → Answer (List Edited)
  rest k earlier = edited_all t ds k earlier (from asked k (total - k))

  pub record Editing (k : ℕ) (marks : List ℕ) : Type 0 where
    pub earlier : List Edited
    pub carries : Carries l n marks earlier
    pub left : whole ≡ rest k earlier

  pub edit_starts : (marks : List ℕ) → Carries l n marks [] → Editing 0 marks
  edit_starts marks h =
      record { earlier = []; carries = h; left = sym (ap (edited_all t ds 0 []) (from_all asked total)) }

  none_left : (k : ℕ) (earlier : List Edited) → edited_all t ds k earlier [] ≡ ok earlier
  unfolding edited_all
  none_left k earlier = refl

  module _ (k : ℕ) (marks : List ℕ) (H : Editing k marks) where
    pub edit_ends : total ≤ k → EditsLeft l n marks whole
    edit_ends h =
        record {
          edits = H.earlier;
          is = H.left ∙ ap (edited_all t ds k H.earlier) (from_done asked k total h) ∙ none_left k H.earlier;
          carries = H.carries;
        }

    module _ (b : k < total) where
      abbrev decided : List Edited → Answer Edited
      decided earlier = edited_one t ds k earlier (asked k)

      here : (earlier : List Edited) → rest k earlier ≡ (decided earlier >>= λ d. rest (k + 1) (earlier ++ (d ∷ [])))
      unfolding edited_all
      here earlier = ap (edited_all t ds k earlier) (from_step asked k total b) ∙ rw (add-one k)

      module _ (r : answers.Editing) (a : (earlier : List Edited) → Carries l n marks earlier → EditedBy r (decided earlier) l.records n (asked k).change) where
        pub edit_stops : (x : Refusal) → r ≡ Err x → whole ≡ refused x.number x.list x.place
        edit_stops x q =
            let e : decided H.earlier ≡ refused x.number x.list x.place = rw q at (a H.earlier H.carries) in
            H.left ∙ here H.earlier ∙ bind_not _ _ x.number x.list x.place e

        pub edit_goes : (s : Slot) (marks' : List ℕ) → r ≡ Ok s
            → ((earlier : List Edited) → Carries l n marks earlier → s.0 < n → Carries l n marks' (earlier ++ (edited_at l.records s.0 (asked k).change ∷ [])))
            → Editing (k + 1) marks'
        edit_goes s marks' q f =
            let w : (s.0 < n) × (decided H.earlier ≡ ok (edited_at l.records s.0 (asked k).change)) = rw q at (a H.earlier H.carries) in
            record {
              earlier = H.earlier ++ (edited_at l.records s.0 (asked k).change ∷ []);
              carries = f H.earlier H.carries w.0;
              left = H.left ∙ here H.earlier ∙ bind_is _ _ (edited_at l.records s.0 (asked k).change) w.1;
            }

-- ---- what was tested gives each edit what it asks

module _ (l : Trees) (given : Given) (plan : PlanRows) (index : List (List ℕ)) (marks₀ : List ℕ) (h : Editable l given plan index marks₀) where
  abbrev n : ℕ
  n = given.base

  abbrev t : Forest Field
  t = fields_in l plan n

  abbrev xs : List ℕ
  xs = sources plan

  rises_here : Rises l.records n (ups_in index)
  rises_here = rises l xs (numbers plan) (members plan) n h.based (ups_in index) h.indexed.raised

  base_is : t ≡ fields l.pool l.records (base_slots l.records n)
  base_is = base_tree l xs (numbers plan) (members plan) n h.based

  pub named_here : (k : ℕ) → k < given.edits → Named l.request_pool l.edits k
  named_here k b =
      let e = entry_here Edits l.request_pool l.edits given.edits k h.edits_there b in
      let f = h.edits_there.few in
      record { few = omega arith; entry = e.0; named = e.1 }

  pub path_asks : (k : ℕ) → k < given.edits → (k * 16 + 16 ≤ length l.edits) × (edit_in (length l.request_pool) l.edits k ≡ true)
  path_asks k b = let e = named_here k b in (e.entry, e.named)

  -- no mark yet
  pub begins : Carries l n marks₀ []
  unfolding as_marked
  begins =
      let few = h.based.plan.few in
      let w = h.based.whole in
      rw h.unmarked
      (carries_none l n few (λ s b. parts_sit l s (omega arith) 0 (omega arith, lowest_none (in_pool (length l.pool) l.records) 0 n h.based.named s (omega arith) (omega arith)) (asks_none l)))

  module _ (k : ℕ) (b : k < given.edits) (p : List ℕ) (f : Found) (ef : f ≡ found_row (look_name t p)) where
    pub one_asks : Lands n f × Rises l.records n (ups_in index) × Named l.request_pool l.edits k
    one_asks = (found_lands rises_here l.pool given.version l.request_pool l.edits k p f (rw (← base_is) ef), rises_here, named_here k b)

    module _ (ds marks : List ℕ) (ep : p ≡ edit_path l.request_pool l.edits k) (H : Editing l given.version n given.edits t ds k marks) (r : answers.Editing) (o : OneEdited f l.records n (ups_in index) given.version l.request_pool l.edits k ds marks r) where
      -- what is decided of the edit is the paper's, whatever was carried before it
      one_says : (earlier : List Edited) → Carries l n marks earlier → EditedBy r (edited_one t ds k earlier (edit_of given.version l.request_pool l.edits k)) l.records n (change_of given.version l.request_pool l.edits k)
      one_says earlier c =
          rw base_is (edited_is rises_here l.pool given.version l.request_pool l.edits k ds marks earlier f r (rw (← base_is, ← ep) ef) c.told o)

      pub all_stop : (x : Refusal) → r ≡ Err x → all_edited l given plan ds ≡ refused x.number x.list x.place
      all_stop x q = edit_stops l given.version n given.edits t ds k marks H b r one_says x q

      pub all_go : (s : Slot) (marks' : List ℕ) → r ≡ Ok s → marks' ≡ set marks s.0 (marked_by l.edits k (get_or marks s.0 0)) → Editing l given.version n given.edits t ds (k + 1) marks'
      all_go s marks' q e =
          edit_goes l given.version n given.edits t ds k marks H b r one_says s marks' q (λ earlier c i. carries_more c rises_here given.version k s.0 i (named_here k b) marks' e)

      pub mark_asks : (s : Slot) → r ≡ Ok s → (s.0 < 1024) × (k < 64) × (k * 16 + 16 ≤ length l.edits)
      mark_asks s q =
          let few = h.based.plan.few in
          let i : s.0 < n = (rw q at (one_says H.earlier H.carries)).0 in
          let e = named_here k b in
          (omega arith, e.few, e.entry)

  pub all_begin : (ds : List ℕ) → Editing l given.version n given.edits t ds 0 marks₀
  all_begin ds = edit_starts l given.version n given.edits t ds marks₀ begins

  -- ---- behind the deletions

  pub none_asked : (decisions : Decisions) → given.edits ≡ 0 → EditsIn l given plan decisions (Ok tt) marks₀
  none_asked decisions e =
      let ds = row_ids (drops_in decisions) given.deletions in
      record { by = edit_ends l given.version n given.edits t ds 0 marks₀ (all_begin ds) (omega arith); unmarked = λ _. h.unmarked }

  pub behind : (decisions : Decisions) (drops : Dropped) (c : Check) (marks' : List ℕ) → (given.edits ≡ 0 → ⊥) → Gathered (drops_in decisions) given.deletions drops
      → EditsBy c (all_edited l given plan (dropped_ids drops)) l n marks' → EditsIn l given plan decisions c marks'
  behind decisions drops c marks' asked g a =
      record {
        by = subst (λ (z : Answer (List Edited)). EditsBy c z l n marks') (edits_same t (dropped_ids drops) (row_ids (drops_in decisions) given.deletions) g.holds 0 [] _) a;
        unmarked = λ e. absurd (asked e);
      }
