-- The entry is 1 to 6, the base's 7 to 9, the paper's plan, and its rebuild: each step's answer is the paper's.
use mathlib.Core.Path.{◌≡◌, refl, sym, ap, ◌∙◌}
use mathlib.Core.Bool.{true}
use mathlib.Core.List.{List, [], ◌∷◌}
use mathlib.Core.Option.{none}
use Prim.Native.Nat.{ℕ, ◌≤◌, ◌<◌}
use native.Mathlib.Omega.{arith}
use borrow.Author.Tests.{not-false}
use lib.ListN.{length}
use Rattle.paper.specs.Answer.{Answer, ok, refused, ◌>>=◌}
use Rattle.paper.specs.Refusals.{roomy, limited, versioned, rebuilt_within}
use Rattle.paper.specs.Forest.{Forest, siblings}
use Rattle.paper.specs.Field.{Field, id_of, kind_of, with_id}
use Rattle.paper.specs.Bytes.{turned, slots}
use Rattle.paper.specs.Decode.{decode}
use Rattle.paper.specs.Lists.{ok_deletion, ok_addition, path_in, ok_edit, edit_in, entries, entries_ok, id_list}
use Rattle.paper.specs.Edits.{edited_tree}
use Rattle.paper.specs.Limits.{room, sized_update}
use Rattle.paper.specs.Promotions.{known_version}
use Rattle.paper.specs.Sound.{sound, within}
use Rattle.paper.specs.Update.{Schema, schema, planned}
use Rattle.paper.specs.Rebuild.{arrivals, rebuilt, carried_out, update}
use Rattle.paper.specs.Visited.{visited}
use Rattle.paper.specs.Entries.{Result, request_in, update_entry}
use Rattle.paper.specs.Outcome.{Buffer, for_records, for_names, Answers}
use Rattle.record.specs.Answers.{Check, Changed}
use Rattle.std.specs.Prelude.{Ok, Err}
use Rattle.record.specs.declared.Refusal.{Refusal}
use Rattle.record.specs.Says.{changes}
use Rattle.record.specs.Trees.{Trees, Lists, stored_in, lent_in}
use Rattle.record.proofs.Testing.{checked_ok, checked_refused, refuses}
use Rattle.laws.proofs.Basics.{unbind, ok_is, fault_if_ok}
use Rattle.laws.proofs.Fitting.{rooms_of}
use Rattle.laws.proofs.Visiting.{visited_is}
use Rattle.record_limits.proofs.Within.{update_sized, identifiers_most, deletions_most}
use Rattle.plan.specs.Table.{Roomy}
use Rattle.index_ids.specs.Table.{Fresh}
use Rattle.index.specs.Index.{Readable, BaseIndexed}
use Rattle.update_edits.specs.Marks.{Unmarked}
use Rattle.update_rebuild.specs.declared.Given.{Given}
use Rattle.update_rebuild.specs.Planned.{drops_in, unders_in, DecisionsRoom}
use Rattle.update_request.specs.Answers.{Opened}
use Rattle.update_request.specs.Opened.{Forests, both_trees, readable, opening, opened, Opens}
use Rattle.update_request.proofs.Opening.{open_refused}
use Rattle.update_schema.specs.Answers.{Decided}
use Rattle.update_dropped.specs.Gathered.{row_ids}
use Rattle.update_schema.specs.Additions.{parents_in}
use Rattle.update_write.specs.Ending.{sounded, limited_sounded, Rebuildable, rebuilt_tree, visited_in, Ends}
use Rattle.update.specs.Updating.{given_in, Passed, Decidable, Settled, Settles}
use Rattle.update.proofs.Settling.{Contents, contents}
use Rattle.plan.specs.declared.PlanRows.{PlanRows}
use Rattle.update_rebuild.specs.declared.Decisions.{Decisions}

abbrev result_of : ℕ → Schema → Result
result_of visits u = record { tree = u.tree; identifiers = []; last = turned u.last; visited = visits }

open_ok : (P : Type 0) (x : Answer Forests) (c k : ℕ) → Ok (c, k) ≡ opened x → ((base added : Forest Field) → x ≡ ok (both_trees base added) → c ≡ siblings base → k ≡ siblings added → P) → P
unfolding opened
open_ok P (ok v) c k e f =
    let z : (c, k) ≡ (siblings v.base, siblings v.added) = cc in
    f v.base v.added refl (ap (λ (w : ℕ × ℕ). w.0) z) (ap (λ (w : ℕ × ℕ). w.1) z)
open_ok P (refused n l q) c k e f = let z : ◌≡◌ {A = ℕ} 0 1 = cc in absurd (omega arith)

-- An end behind two tests is the end of their chain.
end_joined : {A B : Type 0} (x y : Answer (Unit {0})) (u : A) (f : A → Answer B) → ((x >>= λ _. y >>= λ _. ok u) >>= f) ≡ (x >>= λ _. y >>= λ _. f u)
unfolding ◌>>=◌
end_joined (ok e) (ok g) u f = refl
end_joined (ok e) (refused n l k) u f = refl
end_joined (refused n l k) y u f = refl

-- ---- what passed 1 to 6

module _ (l : Trees) (lists : Lists) (version rr rn : ℕ) (w : Opened) (o : Opens l lists version rr rn w) (roots columns : ℕ) (q : w ≡ Ok (roots, columns)) where
  record Through : Type 0 where
    pub passed : Passed l lists
    pub rooms : room rr rn ≡ true
    pub root_count : roots ≡ siblings passed.base
    pub column_count : columns ≡ siblings passed.added
    pub opens : (last : ℕ) → opening l lists last version rr rn ≡ ok (both_trees passed.base passed.added)

  through : Through
  unfolding opening sized_update ◌>>=◌
  through = open_ok _ (opening l lists 0 version rr rn) roots columns (sym q ∙ o.says 0) λ base added e er ec.
      unbind _ _ e λ _ e₁ a₁. unbind _ _ a₁ λ _ e₂ a₂. unbind (versioned (known_version version)) _ a₂ λ _ _ a₃.
      record {
        passed = record { base = base; added = added; limits = λ _ _ _ _. not-false _ (fault_if_ok 2 0 0 _ e₂); read = a₃ };
        rooms = not-false _ (fault_if_ok 1 0 0 _ e₁);
        root_count = er;
        column_count = ec;
        opens = λ last. e;
      }

  limits : sized_update (stored_in l 0) (lent_in l lists 0 0 0) ≡ true
  limits = through.passed.limits 0 0 0 0

  own : Contents l lists through.passed.base through.passed.added
  own = contents l lists through.passed.base through.passed.added through.passed.read

  -- how much is lent
  module _ (last : ℕ) (given : Given) (eg : (given ≡ given_in l lists last version) × (given.last < 4294967296)) (plan : PlanRows) where
    pub test_asks : (index : List (List ℕ)) → Roomy plan → Fresh index → Readable l given.base × ((length lists.identifiers ≤ 256) × (Roomy plan × Fresh index))
    test_asks index p i = (
      rw (eg.0) (record { limits = update_sized _ _ true (sym limits) refl; count = refl; decodes = rw own.base_read }),
      (identifiers_most _ _ true (sym limits) refl, (p, i)),
    )

    pub decide_asks : (x : Check) (plan' : PlanRows) (index : List (List ℕ)) → BaseIndexed l given.base lists.identifiers x plan plan' index → x ≡ (Ok tt)
        → (decisions : Decisions) → DecisionsRoom decisions → (marks : List ℕ) → Unmarked marks
        → Decidable l lists given.last columns plan' index decisions marks × (given ≡ given_in l lists given.last given.version)
    decide_asks x plan' index b₀ d decisions r marks u =
        let b : BaseIndexed l (slots l.records) lists.identifiers x plan plan' index = rw (eg.0) at b₀ in (
          record {
            passed = through.passed;
            count = through.column_count;
            low = eg.1;
            is_plan = b.planned;
            tree = b.tree;
            is_sound = checked_ok (sound 0 _ (id_list lists.identifiers)) x b.answer d;
            has_index = b.indexed d;
            room = r;
            unmarked = u;
          },
          rw (eg.0) refl,
        )

-- ---- the entry

module _ (l : Trees) (lists : Lists) (last version : ℕ) (out text : List ℕ) where
  abbrev entry : Answer Result
  entry = update_entry (stored_in l last) (lent_in l lists version (length out) (length text))

  abbrev open_first : Answer Forests
  open_first = opening l lists last version (length out) (length text)

  abbrev buffers : List (Buffer Result)
  buffers = for_records out ∷ for_names text ∷ []

  abbrev EndsSo : Changed → List ℕ → List ℕ → Type 0
  EndsSo r out' text' = Answers changes entry buffers r (out' ∷ text' ∷ [])

  -- what follows 6
  abbrev carried : ℕ → Forest Field → Forest Field → Answer Result
  carried g base added =
      update (schema base g) (request_in (lent_in l lists version 0 0) added)
      >>= λ u. ok (result_of (visited (schema base g) (request_in (lent_in l lists version 0 0) added)) u)

  entry_is : entry ≡ (open_first >>= λ v. carried (turned last) v.base v.added)
  unfolding update_entry opening readable ◌>>=◌
  entry_is =
      go (roomy (room (length out) (length text))) (limited (sized_update (stored_in l last) (lent_in l lists version (length out) (length text)))) (versioned (known_version version))
      (decode 0 l.records l.pool) (decode 1 l.added_records l.request_pool)
      (entries_ok 2 8 ok_deletion path_in lists.deletions l.request_pool) (entries_ok 3 8 ok_addition path_in lists.additions l.request_pool)
      (entries_ok 6 16 ok_edit edit_in l.edits l.request_pool) (carried (turned last))
    where
      go : (w z k : Answer (Unit {0})) (x y : Answer (Forest Field)) (u v s : Answer (Unit {0})) (f : Forest Field → Forest Field → Answer Result)
          → (w >>= λ _. z >>= λ _. k >>= λ _. x >>= λ t. y >>= λ n. u >>= λ _. v >>= λ _. s >>= λ _. f t n) ≡ ((w >>= λ _. z >>= λ _. k >>= λ _. x >>= λ t. y >>= λ n. u >>= λ _. v >>= λ _. s >>= λ _. ok (both_trees t n)) >>= λ t. f t.base t.added)
      go (refused n l p) z k x y u v s f = refl
      go (ok e) (refused n l p) k x y u v s f = refl
      go (ok e) (ok g) (refused n l p) x y u v s f = refl
      go (ok e) (ok g) (ok h) (refused n l p) y u v s f = refl
      go (ok e) (ok g) (ok h) (ok t) (refused n l p) u v s f = refl
      go (ok e) (ok g) (ok h) (ok t) (ok m) (refused n l p) v s f = refl
      go (ok e) (ok g) (ok h) (ok t) (ok m) (ok j) (refused n l p) s f = refl
      go (ok e) (ok g) (ok h) (ok t) (ok m) (ok j) (ok q) (refused n l p) f = refl
      go (ok e) (ok g) (ok h) (ok t) (ok m) (ok j) (ok q) (ok i) f = refl

  module _ (w : Opened) (o : Opens l lists version (length out) (length text) w) where
    pub open_stops : (y : Refusal) → w ≡ Err y → EndsSo (Err y) out text
    unfolding ◌>>=◌
    open_stops y q = refuses _ y buffers (entry_is ∙ rw (open_refused open_first w y (o.says last) q))

    module _ (roots columns : ℕ) (q : w ≡ Ok (roots, columns)) where
      abbrev opened_as : Through l lists version (length out) (length text) w o roots columns q
      opened_as = through l lists version (length out) (length text) w o roots columns q

      abbrev base : Forest Field
      base = opened_as.passed.base

      abbrev added : Forest Field
      added = opened_as.passed.added

      read_as : Contents l lists base added
      read_as = contents l lists base added opened_as.passed.read

      goes : entry ≡ carried (turned last) base added
      unfolding ◌>>=◌
      goes = entry_is ∙ rw (opened_as.opens last)

      module _ (given : Given) (eg : given ≡ given_in l lists (turned last) version) (x : Check) (plan plan' : PlanRows) (index : List (List ℕ)) (b₀ : BaseIndexed l given.base lists.identifiers x plan plan' index) where
        b : BaseIndexed l (slots l.records) lists.identifiers x plan plan' index
        b = rw eg at b₀

        pub test_stops : (y : Refusal) → x ≡ Err y → EndsSo (Err y) out text
        unfolding update planned ◌>>=◌
        test_stops y d =
            refuses _ y buffers
            (goes ∙ rw (ok_is (sym read_as.base_read ∙ b.tree), checked_refused (sound 0 _ (id_list lists.identifiers)) x y b.answer d))

        module _ (y : Decided) (decisions' : Decisions) (marks' : List ℕ) (v : Settles l lists given.last given.version y decisions' marks') where
          settles : Settles l lists (turned last) version y decisions' marks'
          settles = rw eg at v

          pub decide_stops : (f : Refusal) → y ≡ Err f → EndsSo (Err f) out text
          unfolding update ◌>>=◌
          decide_stops f z = refuses _ f buffers (goes ∙ rw (settles.refusal base added opened_as.passed.read f z))

          module _ (consumed : ℕ) (z : y ≡ Ok consumed) where
            the_plan : Settled l lists (turned last) version base added decisions' marks' consumed
            the_plan = settles.accepted base added opened_as.passed.read consumed z

            -- how much is lent, with the last id that was consumed
            abbrev counted : Given
            counted =
                record {
                  base = given.base;
                  added = given.added;
                  deletions = given.deletions;
                  additions = given.additions;
                  edits = given.edits;
                  last = consumed;
                  version = given.version;
                }

            counted_is : counted ≡ given_in l lists consumed version
            counted_is = rw eg refl

            pub write_asks : Rebuildable l lists.identifiers counted roots decisions' marks' plan' index out text
            write_asks =
                let w = rooms_of (length out) (length text) opened_as.rooms in
                let f = deletions_most _ _ true (sym (opened_as.passed.limits 0 0 0 0)) refl in
                rw counted_is
                record {
                  base = base;
                  added = added;
                  base_limits = update_sized _ _ true (sym (opened_as.passed.limits 0 0 0 0)) refl;
                  base_read = read_as.base_read;
                  added_read = read_as.added_read;
                  base_count = refl;
                  added_count = refl;
                  root_count = opened_as.root_count;
                  few = identifiers_most _ _ true (sym (opened_as.passed.limits 0 0 0 0)) refl;
                  few_drops = omega arith;
                  resolved = the_plan.resolved;
                  edits = the_plan.edits;
                  carries = the_plan.carries;
                  unmarked = settles.unmarked;
                  plan_room = b.roomy;
                  index_room = b.rooms;
                  records_room = w.0;
                  names_room = w.1;
                }

            abbrev paper_tree : Forest Field
            paper_tree =
                rebuilt id_of kind_of (row_ids (drops_in decisions') (entries 8 lists.deletions))
                (arrivals with_id (turned last) (parents_in (unders_in decisions') (entries 8 lists.additions)) added) none true (edited_tree the_plan.edits base)

            tree_is : rebuilt_tree l (given_in l lists consumed version) decisions' the_plan.edits base ≡ paper_tree
            unfolding rebuilt_tree
            tree_is = rw the_plan.arrive

            -- what is counted is what the paper says of base and request
            visits_are : visited_in (given_in l lists consumed version) decisions' base paper_tree ≡ visited (schema base (turned last)) (request_in (lent_in l lists version 0 0) added)
            visits_are = visited_is (schema base (turned last)) (request_in (lent_in l lists version 0 0) added) _ the_plan.is

            carried_is : carried (turned last) base added
                ≡ limited_sounded paper_tree (id_list lists.identifiers) (turned consumed) (visited_in (given_in l lists consumed version) decisions' base paper_tree)
            unfolding update carried_out limited_sounded sounded ◌>>=◌
            carried_is =
                rw (visits_are, the_plan.is)
                (end_joined (rebuilt_within (within paper_tree)) (sound 4 paper_tree (id_list lists.identifiers)) (record { tree = paper_tree; last = consumed }) (λ u. ok (result_of _ u)))

            pub all_written : (r : Changed) (out' text' : List ℕ) → Ends l lists.identifiers counted decisions' marks' out text r out' text' → EndsSo r out' text'
            all_written r out' text' n =
                rw (goes ∙ carried_is) (rw tree_is at ((rw counted_is at n).ends base read_as.base_read the_plan.edits the_plan.carries))
