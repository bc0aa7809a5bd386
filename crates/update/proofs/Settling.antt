-- What was read is what the decisions ask, and they are the paper's `planned` behind the base's 7 to 9 and 10.
use mathlib.Core.Path.{◌≡◌, refl, sym, ap, ◌∙◌}
use mathlib.Core.Bool.{Bool, true, false}
use mathlib.Core.List.{List, []}
use mathlib.Core.Option.{none}
use Prim.Native.Nat.{ℕ, ◌≤◌}
use native.Mathlib.Omega.{arith}
use borrow.Author.Tests.{eq-eqb, ne_eqb}
use lib.Dec.{eqb}
use lib.ListN.{length}
use Rattle.paper.specs.Answer.{Answer, ok, refused, ◌>>=◌, lowest}
use Rattle.paper.specs.Forest.{Forest, siblings}
use Rattle.paper.specs.Field.{Field}
use Rattle.paper.specs.Bytes.{kids_at, ok_bytes, in_pool, slots, from}
use Rattle.paper.specs.Layout.{Part, roots}
use Rattle.paper.specs.Decode.{fields, decode}
use Rattle.paper.specs.Lists.{ok_deletion, ok_addition, path_in, ok_edit, edit_in, entries, entries_ok, path_of, parent_path, deletion_paths, addition_paths, edit_of, edit_list, id_list}
use Rattle.paper.specs.Edits.{Edited, edited_all}
use Rattle.paper.specs.Limits.{sized_update}
use Rattle.paper.specs.Update.{Plan, deleted, Placed, planned}
use Rattle.record.specs.Answers.{Check}
use Rattle.std.specs.Prelude.{Ok, Err}
use Rattle.record.specs.declared.Refusal.{Refusal}
use Rattle.record.specs.Says.{refusal_of}
use Rattle.record.specs.Trees.{Trees, Lists, stored_in, lent_in}
use Rattle.laws.proofs.Basics.{unbind, ok_is, fault_ok, bind_is}
use Rattle.laws.proofs.Own.{sound_distinct}
use Rattle.laws.proofs.Fitting.{sized_slots}
use Rattle.laws.proofs.Preorder.{siblings_mapped}
use Rattle.laws.proofs.Runs.{length_from}
use Rattle.record_entries.specs.declared.PathList.TheVariants.{Deletions, Additions, Edits}
use Rattle.record_limits.proofs.Within.{added_sized, identifiers_most, deletions_most, additions_most, edits_most}
use Rattle.tree.specs.Read.{part, reads}
use Rattle.tree.proofs.Roots.{roots_row}
use Rattle.tree.proofs.Steps.{part_is, reads_is}
use Rattle.plan.specs.Table.{fields_in}
use Rattle.update_edited.specs.Editing.{Editable, EditsLeft, EditsBy, EditsIn}
use Rattle.update_rebuild.specs.declared.Given.{Given}
use Rattle.update_rebuild.specs.Planned.{drops_in, unders_in, firsts_in, starts_in, DecisionsRoom}
use Rattle.update_request.specs.Opened.{Forests, both_trees, readable}
use Rattle.update_schema.specs.Answers.{Decided}
use Rattle.update_schema.specs.Base.{BasedIn, Entries}
use Rattle.update_dropped.specs.Gathered.{row_ids}
use Rattle.update_schema.specs.Additions.{ColumnsIn, parents_in, all_placed, Placings}
use Rattle.update_schema.specs.Changes.{changes, Asked, Decides, DecidesIn}
use Rattle.update.specs.Updating.{given_in, Decidable, planned_in, Settled, Settles}
use Rattle.plan.specs.declared.PlanRows.{PlanRows}
use Rattle.update_rebuild.specs.declared.Decisions.{Decisions}

-- ---- what was read

pub record Decoded (list : ℕ) (s pool : List ℕ) (t : Forest Field) : Type 0 where
  pub trees : Part
  pub read : roots list (kids_at s) (slots s) (slots s) 0 ≡ ok trees
  pub tree : fields pool s trees.trees ≡ t
  pub bytes : lowest (ok_bytes s) 0 (slots s) ≡ none
  pub named : lowest (in_pool (length pool) s) 0 (slots s) ≡ none

pub decode_parts : (list : ℕ) (s pool : List ℕ) (t : Forest Field) → decode list s pool ≡ ok t → Decoded list s pool t
unfolding decode
decode_parts list s pool t e =
    unbind _ _ e λ _ e₁ a₁. unbind _ _ a₁ λ _ e₂ a₂. unbind _ _ a₂ λ u e₃ a₃. unbind _ _ a₃ λ _ e₄ a₄.
    record { trees = u; read = e₃; tree = ok_is a₄; bytes = fault_ok 3 list _ e₁; named = fault_ok 4 list _ e₂ }

pub record Contents (l : Trees) (lists : Lists) (base added : Forest Field) : Type 0 where
  pub base_read : decode 0 l.records l.pool ≡ ok base
  pub added_read : decode 1 l.added_records l.request_pool ≡ ok added
  pub deletions : lowest (path_in (length l.request_pool) lists.deletions) 0 (entries 8 lists.deletions) ≡ none
  pub additions : lowest (path_in (length l.request_pool) lists.additions) 0 (entries 8 lists.additions) ≡ none
  pub edits : lowest (edit_in (length l.request_pool) l.edits) 0 (entries 16 l.edits) ≡ none

pathed : (list width : ℕ) (rule : List ℕ → ℕ → Bool) (inside : ℕ → List ℕ → ℕ → Bool) (s pool : List ℕ) {u : Unit {0}} → entries_ok list width rule inside s pool ≡ ok u → lowest (inside (length pool) s) 0 (entries width s) ≡ none
unfolding entries_ok
pathed list width rule inside s pool e = unbind _ _ e λ _ e₁ a₁. fault_ok 4 list _ a₁

pub contents : (l : Trees) (lists : Lists) (base added : Forest Field) → readable l lists ≡ ok (both_trees base added) → Contents l lists base added
unfolding readable
contents l lists base added e =
    unbind _ _ e λ t' e₁ a₁. unbind _ _ a₁ λ n' e₂ a₂. unbind _ _ a₂ λ _ e₃ a₃. unbind _ _ a₃ λ _ e₄ a₄. unbind _ _ a₄ λ _ e₅ a₅.
    let z : both_trees t' n' ≡ both_trees base added = ok_is a₅ in
    record {
      base_read = e₁ ∙ ap (λ (x : Forests). ok x.base) z;
      added_read = e₂ ∙ ap (λ (x : Forests). ok x.added) z;
      deletions = pathed 2 8 ok_deletion path_in lists.deletions l.request_pool e₃;
      additions = pathed 3 8 ok_addition path_in lists.additions l.request_pool e₄;
      edits = pathed 6 16 ok_edit edit_in l.edits l.request_pool e₅;
    }

-- ---- chains

chain_refused : {A B C : Type 0} (x : Answer A) (f : A → Answer B) (g : A → B → Answer C) (n l k : ℕ) → (x >>= f) ≡ refused n l k → (x >>= λ a. f a >>= λ b. g a b) ≡ refused n l k
unfolding ◌>>=◌
chain_refused (ok a) f g n l k e = rw e
chain_refused (refused i j q) f g n l k e = cc

chain_ok : {A B C : Type 0} (x : Answer A) (f : A → Answer B) (g : A → B → Answer C) (a : A) (b : B) → x ≡ ok a → (x >>= f) ≡ ok b → (x >>= λ a. f a >>= λ b. g a b) ≡ g a b
unfolding ◌>>=◌
chain_ok x f g a b e q = let z : f a ≡ ok b = rw e at q in rw (e, z)

-- ---- the decisions

abbrev plan_from : List ℕ → Placed → List Edited → Plan
plan_from ds a es = record { dropped = ds; parents = a.parents; last = a.last; edits = es }

module _ (l : Trees) (lists : Lists) (last version columns : ℕ) (plan : PlanRows) (index : List (List ℕ)) (decisions : Decisions) (marks : List ℕ) (h : Decidable l lists last columns plan index decisions marks) where
  abbrev n : ℕ
  n = slots l.records

  abbrev m : ℕ
  m = slots l.added_records

  abbrev d : ℕ
  d = entries 8 lists.deletions

  abbrev a : ℕ
  a = entries 8 lists.additions

  limits : sized_update (stored_in l 0) (lent_in l lists 0 0 0) ≡ true
  limits = h.passed.limits 0 0 0 0

  own : Contents l lists h.passed.base h.passed.added
  own = contents l lists h.passed.base h.passed.added h.passed.read

  -- the base that is read is the plan's
  base_is : (base : Forest Field) → decode 0 l.records l.pool ≡ ok base → fields_in l plan n ≡ base
  base_is base e = ok_is (sym h.tree ∙ e)

  roots_are : (base added : Forest Field) → readable l lists ≡ ok (both_trees base added) → siblings added ≡ columns
  roots_are base added e =
      let z : both_trees base added ≡ both_trees h.passed.base h.passed.added = ok_is (sym e ∙ h.passed.read) in
      ap (λ (w : Forests). siblings w.added) z ∙ sym h.count

  paths_are : length (addition_paths l.request_pool lists.additions) ≡ a
  unfolding addition_paths
  paths_are = length_from (parent_path l.request_pool lists.additions) 0 a

  module _ (g : Given) (eg : g ≡ given_in l lists last version) where
    pub count_stops : (decisions' : Decisions) → (columns ≡ g.additions → ⊥) → Settles l lists last version (Err (refusal_of 10 3 0)) decisions' marks
    unfolding planned ◌>>=◌
    count_stops decisions' other =
        record {
          accepted = λ base added e j z. absurd (let w : ◌≡◌ {A = ℕ} 0 1 = cc in omega arith);
          unmarked = λ _. h.unmarked;
          refusal = λ base added e w z.
              let f : refusal_of 10 3 0 ≡ w = cc in
              let o = contents l lists base added e in
              let k : eqb (siblings added) (length (addition_paths l.request_pool lists.additions)) ≡ false =
              rw (roots_are base added e, paths_are) (ne_eqb columns a (λ s. other (s ∙ sym (ap (λ (x : Given). x.additions) eg)))) in
              rw (← f, ← (base_is base o.base_read), h.is_sound, k);
        }

    module _ (same : columns ≡ g.additions) where
      all_there : columns ≡ a
      all_there = same ∙ ap (λ (x : Given). x.additions) eg

      the_base : BasedIn l plan n
      the_base =
          let p = decode_parts 0 l.records l.pool (fields_in l plan n) h.tree in
          record { plan = h.is_plan; trees = p.trees; read = p.read; tree = sym p.tree; whole = omega arith; bytes = p.bytes; named = p.named; own = sound_distinct 0 _ _ h.is_sound }

      added_few : m ≤ 1024
      added_few = (sized_slots l.added_records l.request_pool (added_sized _ _ true (sym limits) refl)).0

      deletion_entries : Entries Deletions l.request_pool lists.deletions d
      deletion_entries = let w = deletions_most _ _ true (sym limits) refl in record { whole = omega arith; few = omega arith; pathed = own.deletions }

      addition_entries : Entries Additions l.request_pool lists.additions a
      addition_entries = let w = additions_most _ _ true (sym limits) refl in record { whole = omega arith; few = omega arith; pathed = own.additions }

      edit_entries : Entries Edits l.request_pool l.edits (entries 16 l.edits)
      edit_entries = let w = edits_most _ _ true (sym limits) refl in record { whole = omega arith; few = omega arith; pathed = own.edits }

      -- the roots of the additions tree are a row of as many trees as there are entries
      row_is : (base added : Forest Field) → readable l lists ≡ ok (both_trees base added)
          → (reads 1 (kids_at l.added_records) m 16 a 0 ≡ true) × (fields l.request_pool l.added_records (part 1 (kids_at l.added_records) m 16 a 0).trees ≡ added)
      unfolding fields
      row_is base added e =
          let b = l.added_records in
          let o = contents l lists base added e in
          let p = decode_parts 1 b l.request_pool added o.added_read in
          let w = roots_row 1 (kids_at b) m m 0 p.trees (omega arith) (omega arith) p.read in
          let z : siblings p.trees.trees ≡ a = sym (siblings_mapped _ p.trees.trees) ∙ ap siblings p.tree ∙ roots_are base added e ∙ all_there in
          let w₀ = rw z at w.0 in
          (reads_is 1 (kids_at b) m 16 a 0 p.trees w₀, rw (part_is 1 (kids_at b) m 16 a 0 p.trees w₀) p.tree)

      the_columns : ColumnsIn l lists.additions (given_in l lists last version)
      the_columns =
          record {
            entries = addition_entries;
            whole = omega arith;
            small = added_few;
            read = (row_is h.passed.base h.passed.added h.passed.read).0;
            named = (decode_parts 1 l.added_records l.request_pool h.passed.added own.added_read).named;
          }

      pub decide_asks : Asked l lists g plan index × DecisionsRoom decisions
      decide_asks = (
        rw eg
            record {
              based = the_base;
              indexed = h.has_index;
              identifiers_few = identifiers_most _ _ true (sym limits) refl;
              deletions_there = deletion_entries;
              columns = the_columns;
              low = h.low;
            },
        h.room,
      )

      pub edits_ask : Editable l g plan index marks
      edits_ask = rw eg record { based = the_base; indexed = h.has_index; edits_there = edit_entries; few_drops = deletion_entries.few; unmarked = h.unmarked }

      -- the paper's plan is the decisions and the edits
      abbrev dropping : Forest Field → Answer (List ℕ)
      dropping base = deleted base (id_list lists.identifiers) 0 (from (path_of l.request_pool lists.deletions) 0 d)

      abbrev placing : Forest Field → List ℕ → Answer Placed
      placing base ds = all_placed base ds l.request_pool l.added_records lists.additions a m last

      abbrev editing : Forest Field → List ℕ → Answer (List Edited)
      editing base ds = edited_all base ds 0 [] (from (edit_of version l.request_pool l.edits) 0 (entries 16 l.edits))

      abbrev edited_plan : Forest Field → List ℕ → Placed → Answer Plan
      edited_plan base ds v = editing base ds >>= λ es. ok (plan_from ds v es)

      planned_is : (base added : Forest Field) → readable l lists ≡ ok (both_trees base added)
          → planned_in l lists last version base added ≡ (dropping base >>= λ ds. placing base ds >>= λ v. edited_plan base ds v)
      unfolding planned ◌>>=◌ deletion_paths all_placed addition_paths edit_list
      planned_is base added e =
          let o = contents l lists base added e in
          let k : eqb (siblings added) (length (from (parent_path l.request_pool lists.additions) 0 a)) ≡ true =
          rw (roots_are base added e, length_from (parent_path l.request_pool lists.additions) 0 a) (eq-eqb columns a all_there) in
          let s = rw (base_is base o.base_read) at h.is_sound in
          rw (s, k, (row_is base added e).1)

      module _ (y : Decided) (decisions' : Decisions) (v : DecidesIn l lists g plan y decisions') where
        at_tree : (base : Forest Field) → decode 0 l.records l.pool ≡ ok base
            → Decides base (id_list lists.identifiers) l.request_pool lists.deletions d l.added_records lists.additions a m last y
            (drops_in decisions') (unders_in decisions') (firsts_in decisions') (starts_in decisions')
        at_tree base e = rw (base_is base e) at (rw eg at v)

        pub changes_stop : (w : Refusal) → y ≡ Err w → Settles l lists last version (Err w) decisions' marks
        unfolding changes
        changes_stop w z =
            record {
              accepted = λ base added e j q. absurd (let x : ◌≡◌ {A = ℕ} 0 1 = cc in omega arith);
              unmarked = λ _. h.unmarked;
              refusal = λ base added e x q.
                  let f : w ≡ x = cc in
                  let o = contents l lists base added e in
                  let u = at_tree base o.base_read in
                  let p : changes base (id_list lists.identifiers) l.request_pool lists.deletions d l.added_records lists.additions a m last ≡ refused w.number w.list w.place = rw z at u.by in
                  rw (← f) (planned_is base added e ∙ chain_refused (dropping base) (placing base) (edited_plan base) w.number w.list w.place p);
            }

        module _ (j : ℕ) (z : y ≡ Ok j) where
          placings : (base : Forest Field) → decode 0 l.records l.pool ≡ ok base
              → Placings (changes base (id_list lists.identifiers) l.request_pool lists.deletions d l.added_records lists.additions a m last) l.request_pool l.added_records a m last j (unders_in decisions') (firsts_in decisions') (starts_in decisions')
          placings base e = rw z at (at_tree base e).by

          module _ (x : Check) (marks' : List ℕ) (b : EditsIn l g plan decisions' x marks') where
            -- behind the deletions and the additions, the plan is what the edits say
            planned_at : (base added : Forest Field) → readable l lists ≡ ok (both_trees base added)
                → planned_in l lists last version base added ≡ edited_plan base (row_ids (drops_in decisions') d) (record { parents = parents_in (unders_in decisions') a; last = j })
            unfolding changes
            planned_at base added e =
                let o = contents l lists base added e in
                planned_is base added e
                ∙ chain_ok (dropping base) (placing base) (edited_plan base) (row_ids (drops_in decisions') d) (record { parents = parents_in (unders_in decisions') a; last = j })
                ((at_tree base o.base_read).dropped j z) (placings base o.base_read).is

            edits_at : (base : Forest Field) → decode 0 l.records l.pool ≡ ok base → EditsBy x (editing base (row_ids (drops_in decisions') d)) l n marks'
            edits_at base e = rw (base_is base e) at (rw eg at b).by

            pub edits_stop : (w : Refusal) → x ≡ Err w → Settles l lists last version (Err w) decisions' marks'
            unfolding ◌>>=◌
            edits_stop w q =
                record {
                  accepted = λ base added e i r. absurd (let s : ◌≡◌ {A = ℕ} 0 1 = cc in omega arith);
                  unmarked = (rw eg at b).unmarked;
                  refusal = λ base added e f r.
                      let t : w ≡ f = cc in
                      let o = contents l lists base added e in
                      let p : editing base (row_ids (drops_in decisions') d) ≡ refused w.number w.list w.place = rw q at (edits_at base o.base_read) in
                      rw (← t) (planned_at base added e ∙ rw p);
                }

            pub all_settled : x ≡ (Ok tt) → Settles l lists last version (Ok j) decisions' marks'
            unfolding ◌>>=◌
            all_settled q =
                record {
                  accepted = λ base added e i r. let s : j ≡ i = cc in rw (← s) (settled base added e);
                  unmarked = (rw eg at b).unmarked;
                  refusal = λ base added e f r. absurd (let s : ◌≡◌ {A = ℕ} 0 1 = cc in omega arith);
                }
              where
                settled : (base added : Forest Field) → readable l lists ≡ ok (both_trees base added) → Settled l lists last version base added decisions' marks' j
                settled base added e =
                    let o = contents l lists base added e in
                    let p = placings base o.base_read in
                    let w : EditsLeft l n marks' (editing base (row_ids (drops_in decisions') d)) = rw q at (edits_at base o.base_read) in
                    let few_entries = addition_entries.few in
                    record {
                      edits = w.edits;
                      is = planned_at base added e ∙ bind_is _ _ w.edits w.is;
                      carries = w.carries;
                      most = p.most;
                      resolved = record { whole = omega arith; small = added_few; few = few_entries; under = p.under; first = p.first; tree = p.tree };
                      arrive = rw (row_is base added e).1 at (p.arrive l.pool l.records l.edits);
                    }
