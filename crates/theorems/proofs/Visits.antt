-- How many records an accepted update visits: by the laws of what the rebuild reaches and of what arrives. The dropped
-- members among them are at most as many as the deletions, because an id stands once in the base.
use Prim.Native.Nat.{ℕ, suc, ◌+◌, ◌*◌, ◌%◌, ◌≤◌}
use mathlib.Core.Path.{◌≡◌, refl, sym, ap, subst, ◌∙◌}
use mathlib.Core.Bool.{Bool, true, false, ◌&&◌, cond}
use mathlib.Core.List.{List, [], ◌∷◌, ◌++◌}
use native.Mathlib.Omega.{arith}
use lib.Dec.{eqb, leb}
use lib.ListN.{length, length-append}
use borrow.Author.Tests.{leb-true}
use Rattle.paper.specs.Answer.{Answer, ok, refused, ◌>>=◌, among}
use Rattle.paper.specs.Forest.{Forest, empty, node, size, levels}
use Rattle.paper.specs.Field.{Field, id_of, kind_of, is_struct}
use Rattle.paper.specs.Sound.{ids, name_bytes, within}
use Rattle.paper.specs.Gone.{dropped_member, outermost}
use Rattle.paper.specs.Update.{Request, Schema, Plan, Placed, deleted, placed_all, planned}
use Rattle.paper.specs.Rebuild.{arrivals, added, update}
use Rattle.paper.specs.Visited.{reached, arrived, visited}
use Rattle.paper.specs.Bytes.{slots, from}
use Rattle.paper.specs.Lists.{entries, path_of, deletion_paths, addition_paths}
use Rattle.paper.specs.Limits.{whole}
use Rattle.paper.specs.Lent.{Stored, Lent}
use Rattle.paper.specs.Entries.{Result, schema_in, request_in, update_entry, prune_entry, renumber_entry}
use Rattle.paper.specs.Outcome.{changed}
use Rattle.laws.specs.Fit.{Bytes}
use Rattle.laws.proofs.Basics.{unbind, ok_is}
use Rattle.laws.proofs.Runs.{length_from}
use Rattle.laws.proofs.Preorder.{length_preorder}
use Rattle.laws.proofs.RoundTrip.{both}
use Rattle.laws.proofs.Fitting.{sized_slots}
use Rattle.laws.proofs.Whole.{decode_size}
use Rattle.laws.proofs.Receiving.{all_stay}
use Rattle.laws.proofs.Visiting.{reached_few, reached_all, arrived_all, visited_is}
use Rattle.theorems.specs.Stored.{schema_of, request_of, BytesLent, to_store}
use Rattle.theorems.specs.Standing.{OfStored}
use Rattle.theorems.specs.Visits.{AnswerAndDropped, ReachedAndAdded, FewVisited, NoneVisited}
use Rattle.theorems.proofs.Counting.{tallies, tallies_append, tallies_among, tallies_distinct}
use Rattle.theorems.proofs.Opened.{open_update}
use Rattle.theorems.proofs.Storing.{of_stored}
use Rattle.theorems.proofs.Standing.{accepted, loads_added}

-- ---- over forests

pub visits_answer : (s : Schema) (q : Request) (p : Plan) (u : Schema) → planned s q ≡ ok p → update s q ≡ ok u
    → AnswerAndDropped (visited s q) s q p u
visits_answer s q p u e₁ e =
    let v = rw (← (accepted s q p u e₁ e).tree) at (visited_is s q p e₁) in
    omega arith

-- Each addition is received, so as many records arrive as are added. A plan is enough.
reaches_added : (s : Schema) (q : Request) (p : Plan) → planned s q ≡ ok p
    → visited s q ≡ length (reached id_of kind_of p.dropped true s.tree) + size q.added
unfolding visited
reaches_added s q p e =
    let a = arrived_all s.tree p.dropped (added s q p) (all_stay s q p e) in
    let l = loads_added s q p e in
    rw e (omega arith)

pub visits_added : (s : Schema) (q : Request) (p : Plan) (u : Schema) → planned s q ≡ ok p → update s q ≡ ok u
    → ReachedAndAdded (visited s q) s q p u
visits_added s q p u e₁ e = reaches_added s q p e₁

pub visits_few : (s : Schema) (q : Request) → visited s q ≤ size s.tree + size q.added
unfolding visited
visits_few s q = go (planned s q) refl
  where
    go : (a : Answer Plan) → planned s q ≡ a → visited s q ≤ size s.tree + size q.added
    go (ok p) e =
        let r = reaches_added s q p e in
        let f = reached_few id_of kind_of p.dropped true s.tree in
        omega arith
    go (refused n l k) e = rw e (omega arith)

-- Each has an id that is dropped, so they are at most as many as such ids stand in the tree.
outermost_met : (ds : List ℕ) (b : Bool) (t : Forest Field)
    → length (outermost id_of kind_of ds b t) ≤ tallies ds (ids t)
unfolding outermost ids
outermost_met ds b empty = omega arith
outermost_met ds b (node f m n) =
    let own = tallies_append ds (f.id ∷ []) (ids m ++ ids n) in
    let others = tallies_append ds (ids m) (ids n) in
    let r = go (dropped_member b ds f.id) refl (outermost id_of kind_of ds (is_struct f.kind) m)
    (outermost id_of kind_of ds b n) (outermost_met ds (is_struct f.kind) m) (outermost_met ds b n) in
    omega arith
  where
    go : (d : Bool) → dropped_member b ds f.id ≡ d → (om on : List Field) → length om ≤ tallies ds (ids m)
        → length on ≤ tallies ds (ids n)
        → length (cond d (f ∷ []) om ++ on) ≤ tallies ds (f.id ∷ []) + (tallies ds (ids m) + tallies ds (ids n))
    go true e om on hm hn =
        let met = tallies_among ds f.id (both b (among f.id ds) e).1 in
        omega arith
    go false e om on hm hn = let l = length-append om on in omega arith

-- A deletion drops one id.
deleted_many : (t : Forest Field) (identifiers : List ℕ) (k : ℕ) (paths : List (List ℕ)) (ds : List ℕ)
    → deleted t identifiers k paths ≡ ok ds → length ds ≡ length paths
unfolding deleted
deleted_many t i k [] ds e = ap length (sym (ok_is e))
deleted_many t i k (path ∷ paths) ds e =
    unbind _ _ e λ _ _ a₁. unbind _ _ a₁ λ _ _ a₂. unbind _ _ a₂ λ rest e₃ a₃.
    ap length (sym (ok_is a₃)) ∙ ap suc (deleted_many t i (suc k) paths rest e₃)

dropped_many : (s : Schema) (q : Request) (p : Plan) → planned s q ≡ ok p → length p.dropped ≡ length q.deletions
unfolding planned
dropped_many s q p e =
    unbind _ _ e λ _ _ a₁. unbind _ _ a₁ λ _ _ a₂. unbind _ _ a₂ λ ds e₃ a₃. unbind _ _ a₃ λ _ _ a₄.
    unbind _ _ a₄ λ _ _ a₅.
    ap (λ (p : Plan). length p.dropped) (sym (ok_is a₅)) ∙ deleted_many _ _ _ _ ds e₃

-- An id stands there once, so they are at most as many as the deletions.
pub visits_deletions : (s : Schema) (q : Request) (u : Schema) → update s q ≡ ok u
    → visited s q ≤ size u.tree + length q.deletions
unfolding update
visits_deletions s q u e =
    unbind _ _ e λ p e₁ _.
    let v = visits_answer s q p u e₁ e in
    let o = outermost_met p.dropped true s.tree in
    let l = tallies_distinct p.dropped (ids s.tree) (accepted s q p u e₁ e).distinct in
    let d = dropped_many s q p e₁ in
    omega arith

-- 19 lets no more through.
answer_few : (s : Schema) (q : Request) (u : Schema) → update s q ≡ ok u → size u.tree ≤ 1024
unfolding update within
answer_few s q u e =
    unbind _ _ e λ p e₁ _.
    let limits = (accepted s q p u e₁ e).limits in
    leb-true (size u.tree) 1024
    (both (leb (size u.tree) 1024) (leb (levels u.tree) 16 && leb (name_bytes u.tree) 32768) limits).0

nothing_planned : (s : Schema) (q : Request) (p : Plan) → planned s q ≡ ok p → q.deletions ≡ [] → q.additions ≡ []
    → (p.dropped ≡ []) × (p.parents ≡ [])
unfolding planned deleted placed_all
nothing_planned s q p e d a =
    unbind _ _ e λ _ _ a₁. unbind _ _ a₁ λ _ _ a₂. unbind _ _ a₂ λ ds e₃ a₃. unbind _ _ a₃ λ r e₄ a₄.
    unbind _ _ a₄ λ _ _ a₅.
    let e₃ = rw d at e₃ in
    let e₄ = rw a at e₄ in
    let is = ok_is a₅ in (
      sym (ap (λ (p : Plan). p.dropped) is) ∙ sym (ok_is e₃),
      sym (ap (λ (p : Plan). p.parents) is) ∙ sym (ap (λ (r : Placed). r.parents) (ok_is e₄)),
    )

-- Nothing is dropped, so the rebuild reaches all, and nothing arrives.
pub visits_all : (s : Schema) (q : Request) (u : Schema) → update s q ≡ ok u → q.deletions ≡ [] → q.additions ≡ []
    → visited s q ≡ size s.tree
unfolding update visited arrivals arrived
visits_all s q u e d a =
    unbind _ _ e λ p e₁ _.
    let n = nothing_planned s q p e₁ d a in
    let r = ap length (reached_all id_of kind_of true s.tree) ∙ length_preorder s.tree in
    rw (e₁, n.0, n.1) (omega arith)

-- ---- over bytes

-- 2 lets no more through.
whole_few : (item most : ℕ) (bytes : List ℕ) → whole item most bytes ≡ true → length bytes ≤ item * most
unfolding whole
whole_few item most bytes e =
    leb-true (length bytes) (item * most) (both (eqb (length bytes % item) 0) (leb (length bytes) (item * most)) e).1

deletions_many : (pool deletions : List ℕ) → length (deletion_paths pool deletions) ≡ entries 8 deletions
unfolding deletion_paths
deletions_many pool deletions = length_from (path_of pool deletions) 0 (entries 8 deletions)

module _ (s : Stored) (q : Lent) (r : Result) (e : update_entry s q ≡ ok r) where
  answered : r.visited ≡ visited (schema_of s) (request_of q)
  answered =
      let o = open_update s q r e in
      rw (o.base.decodes, o.new_decodes) (ap (λ (x : Result). x.visited) o.result)

  pub few_stored : FewVisited s q r
  few_stored =
      let o = open_update s q r e in
      let v = ap (λ (x : Result). x.visited) o.result in
      let f = visits_few (schema_in s o.tree) (request_in q o.new) in
      let k = decode_size 0 s.records s.pool o.tree o.base.decodes in
      let n = decode_size 1 q.added_records q.request_pool o.new o.new_decodes in
      let l = (sized_slots s.records s.pool o.base.sizes).0 in
      let m = (sized_slots q.added_records q.request_pool o.new_sizes).0 in
      let d = visits_deletions (schema_in s o.tree) (request_in q o.new) o.answer o.updates in
      let t = ap (λ (x : Result). size x.tree) o.result in
      let p = deletions_many q.request_pool q.deletions in
      let w = answer_few (schema_in s o.tree) (request_in q o.new) o.answer o.updates in
      let x = whole_few 8 64 q.deletions o.few_deletions in
      record {
        stored_and_added = omega arith;
        at_most = omega arith;
        answer_and_deletions = omega arith;
        within_limits = omega arith;
      }

  pub all_stored : q.deletions ≡ [] → q.additions ≡ [] → r.visited ≡ slots s.records
  unfolding deletion_paths addition_paths from
  all_stored d a =
      let o = open_update s q r e in
      let k = decode_size 0 s.records s.pool o.tree o.base.decodes in
      ap (λ (x : Result). x.visited) o.result ∙ visits_all _ _ o.answer o.updates (rw d) (rw a) ∙ k

-- What is said of `visited` of forests is said of the number that is answered.
pub of_visited : (s : Stored) (q : Lent) (r : Result) → Bytes s.records → BytesLent q → update_entry s q ≡ ok r
    → (so : ℕ → Schema → Request → Plan → Schema → Type 0)
    → ((s : Schema) (q : Request) (p : Plan) (u : Schema) → planned s q ≡ ok p → update s q ≡ ok u
    → so (visited s q) s q p u)
    → OfStored (so r.visited) s q r
of_visited s q r b a e so h =
    let o = of_stored s q r b a e (λ s q. so (visited s q) s q) h in
    let at : ℕ → Type 0 = λ n. so n (schema_of s) (request_of q) o.plan (schema_of (to_store r)) in
    record { plan = o.plan; plans = o.plans; holds = subst at (sym (answered s q r e)) o.holds }

-- ---- none

-- What is refused on the way tells 0.
then_none : {A : Type 0} (x : Answer A) (f : A → Answer Result) → ((a : A) → (changed (f a)).visited ≡ 0)
    → (changed (x >>= f)).visited ≡ 0
unfolding changed ◌>>=◌
then_none (ok a) f h = h a
then_none (refused n l p) f h = refl

pub none_visited : NoneVisited
unfolding changed prune_entry renumber_entry
none_visited =
    record {
      by_refusing = λ n l p. refl;
      by_pruning = λ s p sel full lr ln.
          then_none _ _ λ _. then_none _ _ λ _. then_none _ _ λ _. then_none _ _ λ _. refl;
      by_renumbering = λ s p i start lr ln li.
          then_none _ _ λ _. then_none _ _ λ _. then_none _ _ λ _. then_none _ _ λ _. refl;
    }
