-- Additions one at a time: what is left of them, behind the places in the row, is the whole.
use Prim.Native.Nat.{ℕ, suc, ◌+◌, ◌-◌, ◌<◌, ◌≤◌}
use mathlib.Core.Path.{◌≡◌, refl, sym, ap, ap₂, subst, ◌∙◌}
use mathlib.Core.Logic.{⊎_elim}
use mathlib.Core.Bool.{true}
use mathlib.Core.List.{List, [], ◌∷◌, ◌++◌, append-nil, append_assoc}
use mathlib.Core.Option.{Option}
use native.Mathlib.Nat.{eq-or-lt_of_le}
use native.Mathlib.Numerals.{add-one}
use native.Mathlib.Omega.{arith}
use lib.Dec.{eqb, ltb}
use lib.ListN.{length, get_or, set}
use lib.Seq.{get_or-set_same, get_or-set_other}
use Rattle.paper.specs.Answer.{Answer, ok, refused, ◌>>=◌, among, fault_if}
use Rattle.paper.specs.Forest.{Forest, empty, node, size, mapped}
use Rattle.paper.specs.Field.{Field, highest, with_id}
use Rattle.paper.specs.Rebuild.{Addition, fresh, arrivals}
use Rattle.paper.specs.Bytes.{turned, kids_at, field_at, in_pool, from}
use Rattle.paper.specs.Decode.{fields}
use Rattle.paper.specs.Layout.{Part, before, nothing, row}
use Rattle.paper.specs.Lists.{parent_path}
use Rattle.record_entries.specs.declared.PathList.TheVariants.{Additions}
use Rattle.paper.specs.Update.{placed, Placed, placed_all}
use Rattle.laws.proofs.Fitting.{lowest_none, size_mapped}
use Rattle.laws.proofs.Pointwise.{Each, each_more, each_slot}
use Rattle.laws.proofs.Taken.{row_take}
use Rattle.laws.proofs.Runs.{from_step, from_done, from_append, from_same}
use Rattle.record.specs.declared.Refusal.{Refusal}
use Rattle.tree.specs.Read.{part, reads, Standing}
use Rattle.tree.proofs.Reading.{row_in, row_none}
use Rattle.tree.proofs.Steps.{part_is, reads_is, part_in, part_full, no_past, reads_inner, reads_rest, was_read}
use Rattle.laws.proofs.Words.{turned_twice}
use Rattle.laws.proofs.Natural.{mapped_all}
use Rattle.laws.proofs.Basics.{bind_is, bind_not}
use Rattle.record.specs.Trees.{lent_trees}
use Rattle.plan.specs.Plan.{Source, planned_field}
use Rattle.update_rebuild.specs.Sources.{parent, added_source, added_tree, addition_at}
use Rattle.update_rebuild.specs.Sources as sources
use Rattle.update_rebuild.proofs.Paper.{fresh_fields}
use Rattle.update_schema.specs.declared.Spot.{Spot}
use Rattle.update_schema.specs.Answers.{Spotted}
use Rattle.std.specs.Prelude.{Ok, Err, None}
use Rattle.update_rebuild.specs.Answers.{Under}
use Rattle.update_rebuild.specs.Planned.{Word}
use Rattle.update_schema.specs.Base as given
use Rattle.update_schema.specs.Additions.{column_size, one_placed, Settled, OneSpotted, Columns, parents_in, all_placed, PlacesAll}
use Rattle.update_schema.proofs.Deleting.{entry_here}

-- ---- the row

parents_more : (us : List Under) (k : ℕ) (v : Under) → k < length us → parents_in (set us k v) (k + 1) ≡ parents_in us k ++ (parent v ∷ [])
unfolding parents_in from
parents_more us k v l =
    from_append (λ j. parent (get_or (set us k v) j None)) 0 k 1
    ∙ ap₂ (λ (a b : List (Option ℕ)). a ++ b)
    (from_same (λ j. parent (get_or (set us k v) j None)) (λ j. parent (get_or us j None)) 0 k (λ j h. ap parent (get_or-set_other us k j v None (λ e. omega arith))))
    (let z : 0 + k ≡ k = omega arith in rw z (ap (λ (y : Under). parent y ∷ []) (get_or-set_same us k v None l)))

-- what holds of the first k elements and of the new one holds of the first k + 1
stored : {A : Type 0} (d : A) (P : A → Type 0) (us : List A) (k : ℕ) (v : A) → k < length us → ((j : ℕ) → j < k → P (get_or us j d)) → P v → (j : ℕ) → j < k + 1 → P (get_or (set us k v) j d)
stored d P us k v l h p j b =
    ⊎_elim
    (λ e. subst P (sym (ap (λ (i : ℕ). get_or (set us k v) i d) e ∙ get_or-set_same us k v d l)) p)
    (λ c. subst P (sym (get_or-set_other us k j v d (λ e. omega arith))) (h j c))
    (eq-or-lt_of_le (omega arith))

-- ---- the paper's arrivals

adds_more : (s : List ℕ) (m : ℕ) (us : List Under) (fs st : List ℕ) (k : ℕ) (u : Under) (f a : ℕ) → k < length us → k < length fs → k < length st
    → from (addition_at s m (set us k u) (set fs k f) (set st k a)) 0 (k + 1) ≡ from (addition_at s m us fs st) 0 k ++ (record { parent = parent u; tree = added_tree s m f a } ∷ [])
unfolding from
adds_more s m us fs st k u f a lu lf ls =
    from_append (addition_at s m (set us k u) (set fs k f) (set st k a)) 0 k 1
    ∙ ap₂ (λ (x y : List (Addition Source)). x ++ y)
    (from_same (addition_at s m (set us k u) (set fs k f) (set st k a)) (addition_at s m us fs st) 0 k (λ j h. rw (get_or-set_other us k j u None (λ e. omega arith), get_or-set_other fs k j f 0 (λ e. omega arith), get_or-set_other st k j a 0 (λ e. omega arith))))
    (let z : 0 + k ≡ k = omega arith in rw (z, get_or-set_same us k u None lu, get_or-set_same fs k f 0 lf, get_or-set_same st k a 0 ls))

all_append : {A B : Type 0} (g : A → B) (xs ys : List (Addition A)) → mapped_all g (xs ++ ys) ≡ mapped_all g xs ++ mapped_all g ys
all_append g [] ys = refl
all_append g (x ∷ xs) ys = ap (λ (z : List (Addition _)). record { parent = x.parent; tree = mapped g x.tree } ∷ z) (all_append g xs ys)

arrivals_step : (end : ℕ) (q : Option ℕ) (qs : List (Option ℕ)) (f : Field) (m n : Forest Field) → arrivals with_id end (q ∷ qs) (node f m n) ≡ record { parent = q; tree = fresh with_id (suc end) (node f m empty) } ∷ arrivals with_id (suc (end + size m)) qs n
unfolding arrivals
arrivals_step end q qs f m n = refl

arrivals_none : (end : ℕ) (a : Forest Field) → arrivals with_id end [] a ≡ []
unfolding arrivals
arrivals_none end a = refl

-- ---- one addition of the paper

abbrev pub joined : Option ℕ → Placed → Placed
joined q r = record { parents = q ∷ r.parents; last = r.last }

pub placed_step : (t : Forest Field) (ds : List ℕ) (last k : ℕ) (p : Option (List ℕ)) (ps : List (Option (List ℕ))) (f : Field) (m n : Forest Field)
    → placed_all t ds last k (p ∷ ps) (node f m n) ≡ (one_placed t ds last k p f m >>= λ q. placed_all t ds (suc (last + size m)) (suc k) ps n >>= λ r. ok (joined q r))
unfolding placed_all one_placed ◌>>=◌
placed_step t ds last k p ps f m n = go (fault_if 13 3 k (among 46 f.name)) (fault_if 14 3 k (eqb f.flags 1)) (placed t ds k f.name p) (fault_if 18 3 k (ltb highest (suc (last + size m))))
  where
    go : (x y : Answer (Unit {0})) (z : Answer (Option ℕ)) (w : Answer (Unit {0})) → (x >>= λ _. y >>= λ _. z >>= λ q. w >>= λ _. placed_all t ds (suc (last + size m)) (suc k) ps n >>= λ r. ok (joined q r))
        ≡ ((x >>= λ _. y >>= λ _. z >>= λ q. w >>= λ _. ok q) >>= λ q. placed_all t ds (suc (last + size m)) (suc k) ps n >>= λ r. ok (joined q r))
    go (ok a) (ok b) (ok q) (ok d) = refl
    go (ok a) (ok b) (ok q) (refused i j s) = refl
    go (ok a) (ok b) (refused i j s) w = refl
    go (ok a) (refused i j s) z w = refl
    go (refused i j s) y z w = refl

none_left : (t : Forest Field) (ds : List ℕ) (last k : ℕ) (a : Forest Field) → placed_all t ds last k [] a ≡ ok (record { parents = []; last = last })
unfolding placed_all
none_left t ds last k a = refl

-- ---- the loop

abbrev rest : (t : Forest Field) (ds request added additions : List ℕ) (total m end k slot : ℕ) → Answer Placed
rest t ds request added additions total m end k slot = placed_all t ds end k (from (parent_path request additions) k (total - k)) (fields request added (part 1 (kids_at added) m 16 (total - k) slot).trees)

pub record Placing (t : Forest Field) (ds request added additions : List ℕ) (total m last k slot end : ℕ) (us : List Under) (fs st : List ℕ) : Type 0 where
  pub within : k ≤ total
  pub read : reads 1 (kids_at added) m 16 (total - k) slot ≡ true
  pub most : end < 4294967296
  pub under : (j : ℕ) → j < k → Word (get_or us j None)
  pub first : (j : ℕ) → j < k → get_or fs j 0 ≤ m
  pub tree : (j : ℕ) → j < k → reads 1 (kids_at added) m 16 1 (get_or fs j 0) ≡ true
  pub arrive : (pool base edits : List ℕ) (qs : List (Option ℕ)) → arrivals with_id last (parents_in us k ++ qs) (fields request added (part 1 (kids_at added) m 16 total 0).trees) ≡ mapped_all (planned_field (lent_trees base pool added request edits)) (from (addition_at added m us fs st) 0 k) ++ arrivals with_id end qs (fields request added (part 1 (kids_at added) m 16 (total - k) slot).trees)
  pub goes : (r : Placed) → rest t ds request added additions total m end k slot ≡ ok r → all_placed t ds request added additions total m last ≡ ok (record { parents = parents_in us k ++ r.parents; last = r.last })
  pub stops : (i j s : ℕ) → rest t ds request added additions total m end k slot ≡ refused i j s → all_placed t ds request added additions total m last ≡ refused i j s

pub place_starts : (t : Forest Field) (ds request added additions : List ℕ) (total m last : ℕ) (us : List Under) (fs st : List ℕ) → Columns request added additions total m → last < 4294967296 → Placing t ds request added additions total m last 0 0 last us fs st
unfolding parents_in from all_placed
place_starts t ds request added additions total m last us fs st h b =
    let z : total - 0 ≡ total = omega arith in
    record {
      within = omega arith;
      read = rw z h.read;
      most = b;
      under = λ j c. absurd (omega arith);
      first = λ j c. absurd (omega arith);
      tree = λ j c. absurd (omega arith);
      arrive = λ pool base edits qs. rw z;
      goes = λ r e. rw z at e;
      stops = λ i j s e. rw z at e;
    }

module _ (t : Forest Field) (ds request added additions : List ℕ) (total m last k slot end : ℕ) (us : List Under) (fs st : List ℕ) (H : Placing t ds request added additions total m last k slot end us fs st) where
  arrive_none : (pool base edits : List ℕ) → mapped_all (planned_field (lent_trees base pool added request edits)) (from (addition_at added m us fs st) 0 k) ++ arrivals with_id end [] (fields request added (part 1 (kids_at added) m 16 (total - k) slot).trees) ≡ mapped_all (planned_field (lent_trees base pool added request edits)) (from (addition_at added m us fs st) 0 k)
  arrive_none pool base edits = ap (λ (z : List (Addition Field)). mapped_all (planned_field (lent_trees base pool added request edits)) (from (addition_at added m us fs st) 0 k) ++ z) (arrivals_none end _) ∙ append-nil _

  pub place_ends : total ≤ k → PlacesAll t ds request added additions total m last (Ok end) us fs st
  unfolding sources.additions
  place_ends l =
      let w = H.within in
      let e : k ≡ total = omega arith in
      let z = H.goes (record { parents = []; last = end }) (ap (λ (y : List (Option (List ℕ))). placed_all t ds end k y (fields request added (part 1 (kids_at added) m 16 (total - k) slot).trees)) (from_done (parent_path request additions) k total l) ∙ none_left t ds end k _) in
      record { by = record { is = z ∙ rw (append-nil (parents_in us k), e); most = H.most; under = rw e at H.under; first = rw e at H.first; tree = rw e at H.tree; arrive = λ pool base edits. arrived pool base edits e l } }
    where
      arrived : (pool base edits : List ℕ) → k ≡ total → total ≤ k → mapped_all (planned_field (lent_trees base pool added request edits)) (sources.additions added m us fs st total) ≡ arrivals with_id last (parents_in us total) (fields request added (part 1 (kids_at added) m 16 total 0).trees)
      arrived pool base edits e l =
          sym (subst (λ (i : ℕ). arrivals with_id last (parents_in us i) (fields request added (part 1 (kids_at added) m 16 total 0).trees) ≡ mapped_all (planned_field (lent_trees base pool added request edits)) (from (addition_at added m us fs st) 0 i)) e (ap (λ (z : List (Option ℕ)). arrivals with_id last z (fields request added (part 1 (kids_at added) m 16 total 0).trees)) (sym (append-nil (parents_in us k))) ∙ H.arrive pool base edits [] ∙ arrive_none pool base edits))

  module _ (l : k < total) where
    pub column_here : Columns request added additions total m → Standing 1 added m 15 slot
    column_here h =
        let past : m ≤ slot → ⊥ = no_past 1 (kids_at added) m 16 (total - k) slot H.read (λ z. omega arith) in
        record { whole = h.whole; small = h.small; there = omega (arith, past); read = reads_inner 1 (kids_at added) m 16 (total - k) slot H.read (kids_at added slot) (λ z. omega arith) refl }

    pub addition_here : Columns request added additions total m → given.Addition request added additions k slot
    addition_here h =
        let c = column_here h in
        let th = c.there in
        let wh = c.whole in
        let ef = h.entries.few in
        let e = entry_here Additions request additions total k h.entries l in
        record { few = omega arith; entry = e.0; pathed = e.1; column = omega arith; named = lowest_none (in_pool (length request) added) 0 m h.named slot (omega arith) (omega arith) }

    abbrev inner : Part
    inner = part 1 (kids_at added) m 15 (kids_at added slot) (slot + 1)

    here : rest t ds request added additions total m end k slot
        ≡ (one_placed t ds end k (parent_path request additions k) (field_at request added slot) (fields request added inner.trees) >>= λ q. placed_all t ds (suc (end + size (fields request added inner.trees))) (suc k) (from (parent_path request additions) (k + 1) (total - (k + 1))) (fields request added (part 1 (kids_at added) m 16 (total - k - 1) inner.next).trees) >>= λ r. ok (joined q r))
    unfolding fields mapped
    here =
        ap₂ (λ (y : List (Option (List ℕ))) (z : Part). placed_all t ds end k y (fields request added z.trees)) (from_step (parent_path request additions) k total l) (part_in 1 (kids_at added) m 16 (total - k) slot H.read (kids_at added slot) (λ z. omega arith) refl)
        ∙ placed_step t ds end k (parent_path request additions k) (from (parent_path request additions) (k + 1) (total - (k + 1))) (field_at request added slot) (fields request added inner.trees) (fields request added (part 1 (kids_at added) m 16 (total - k - 1) inner.next).trees)

    pub place_stops : (r : Spotted) (x : Refusal) (us' : List Under) (fs' st' : List ℕ) → OneSpotted t ds request added additions m end k slot r → r ≡ Err x → PlacesAll t ds request added additions total m last (Err x) us' fs' st'
    place_stops r x us' fs' st' d q = let e = (rw q at d).by in record { by = H.stops x.number x.list x.place (here ∙ bind_not _ _ x.number x.list x.place e) }

    -- the column by itself was read too
    row_alone : slot < m → row 1 (kids_at added) m 16 1 slot ≡ ok (before slot inner (nothing inner.next))
    row_alone th =
        let ra = was_read 1 (kids_at added) m 15 (kids_at added slot) (slot + 1) (reads_inner 1 (kids_at added) m 16 (total - k) slot H.read (kids_at added slot) (λ z. omega arith) refl) in
        row_in 1 (kids_at added) m 16 1 slot (λ z. omega arith) (λ z. omega arith) th ∙ bind_is _ _ inner ra ∙ bind_is _ _ (nothing inner.next) (row_none 1 (kids_at added) m 16 0 inner.next refl)

    alone : slot < m → reads 1 (kids_at added) m 16 1 slot ≡ true
    alone th = reads_is 1 (kids_at added) m 16 1 slot (before slot inner (nothing inner.next)) (row_alone th)

    size_node : end + suc (size inner.trees) < 4294967296 → suc end + size (node slot inner.trees empty) ≤ 4294967296
    unfolding size
    size_node h = omega arith

    fields_node : (i : ℕ) (u : Forest ℕ) → fields request added (node i u empty) ≡ node (field_at request added i) (fields request added u) empty
    unfolding fields mapped
    fields_node i u = refl

    module _ (h : Columns request added additions total m) (s : Spot) (d : Settled (one_placed t ds end k (parent_path request additions k) (field_at request added slot) (fields request added inner.trees)) end slot (column_size added m slot) s) where
      next_is : inner.next ≡ s.next
      unfolding column_size
      next_is =
          let f = (part_full 1 (kids_at added) m 15 (kids_at added slot) (slot + 1) (column_here h).read).next in
          let e = d.next in
          omega arith

      end_is : suc (end + size (fields request added inner.trees)) ≡ s.last
      unfolding column_size fields
      end_is = let e = size_mapped (field_at request added) inner.trees in let f = d.end in omega arith

      left_is : total - k - 1 ≡ total - (k + 1)
      left_is = omega arith

      onward : (u : Answer Placed) → rest t ds request added additions total m s.last (k + 1) s.next ≡ u → rest t ds request added additions total m end k slot ≡ (u >>= λ r. ok (joined (parent s.under) r))
      onward u e =
          here ∙ bind_is _ _ (parent s.under) d.goes
          ∙ ap (λ (z : Answer Placed). z >>= λ r. ok (joined (parent s.under) r)) (rw (end_is, next_is, left_is, ← (add-one k)) e)

      spot_joined : (r : Placed) → k < length us → ◌≡◌ {A = Placed} (record { parents = parents_in us k ++ (parent s.under ∷ r.parents); last = r.last }) (record { parents = parents_in (set us k s.under) (k + 1) ++ r.parents; last = r.last })
      spot_joined r b = ap (λ (z : List (Option ℕ)). record { parents = z; last = r.last }) (sym (ap (λ (z : List (Option ℕ)). z ++ r.parents) (parents_more us k s.under b) ∙ append_assoc (parents_in us k) (parent s.under ∷ []) r.parents))

      -- its slots are below 1,024
      below : Each (λ k. k < 1024) (node slot inner.trees empty)
      below =
          let th = (column_here h).there in
          let small = h.small in
          each_more _ _ (λ k b. omega arith) (node slot inner.trees empty) (each_slot (kids_at added) m slot (node slot inner.trees empty) (row_take 1 (kids_at added) m 16 1 slot (before slot inner (nothing inner.next)) (row_alone th)).took.laid)

      -- the column, with its ids
      column_tree : (pool base edits : List ℕ) → mapped (planned_field (lent_trees base pool added request edits)) (added_tree added m slot s.start) ≡ fresh with_id (suc end) (node (field_at request added slot) (fields request added inner.trees) empty)
      unfolding added_tree column_size
      column_tree pool base edits =
          let th = (column_here h).there in
          let g = planned_field (lent_trees base pool added request edits) in
          let e = d.end in
          let b = d.most in
          let id : turned s.start ≡ suc end = ap turned d.start ∙ turned_twice (suc end) (omega arith) in
          let one : (part 1 (kids_at added) m 16 1 slot).trees ≡ node slot inner.trees empty = ap (λ (p : Part). p.trees) (part_is 1 (kids_at added) m 16 1 slot (before slot inner (nothing inner.next)) (row_alone th)) in
          ap₂ (λ (i : ℕ) (z : Forest ℕ). mapped g (fresh added_source i z)) id one ∙ fresh_fields (lent_trees base pool added request edits) (suc end) (node slot inner.trees empty) (size_node (omega arith)) below ∙ ap (fresh with_id (suc end)) (fields_node slot inner.trees)

      arrive_on : (pool base edits : List ℕ) (qs : List (Option ℕ)) → k < length us → k < length fs → k < length st
          → arrivals with_id last (parents_in (set us k s.under) (k + 1) ++ qs) (fields request added (part 1 (kids_at added) m 16 total 0).trees)
          ≡ mapped_all (planned_field (lent_trees base pool added request edits)) (from (addition_at added m (set us k s.under) (set fs k slot) (set st k s.start)) 0 (k + 1)) ++ arrivals with_id s.last qs (fields request added (part 1 (kids_at added) m 16 (total - (k + 1)) s.next).trees)
      unfolding fields mapped
      arrive_on pool base edits qs lu lf ls =
          let g = planned_field (lent_trees base pool added request edits) in
          let q = parent s.under in
          let old = mapped_all g (from (addition_at added m us fs st) 0 k) in
          ap (λ (z : List (Option ℕ)). arrivals with_id last z (fields request added (part 1 (kids_at added) m 16 total 0).trees)) (ap (λ (z : List (Option ℕ)). z ++ qs) (parents_more us k s.under lu) ∙ append_assoc (parents_in us k) (q ∷ []) qs)
          ∙ H.arrive pool base edits (q ∷ qs)
          ∙ ap (λ (z : Part). old ++ arrivals with_id end (q ∷ qs) (fields request added z.trees)) (part_in 1 (kids_at added) m 16 (total - k) slot H.read (kids_at added slot) (λ z. omega arith) refl)
          ∙ ap (λ (z : List (Addition Field)). old ++ z) (arrivals_step end q qs (field_at request added slot) (fields request added inner.trees) (fields request added (part 1 (kids_at added) m 16 (total - k - 1) inner.next).trees) ∙ rw (end_is, next_is, left_is, ← (column_tree pool base edits)))
          ∙ sym (append_assoc old (record { parent = q; tree = mapped g (added_tree added m slot s.start) } ∷ []) (arrivals with_id s.last qs (fields request added (part 1 (kids_at added) m 16 (total - (k + 1)) s.next).trees)))
          ∙ ap (λ (z : List (Addition Field)). z ++ arrivals with_id s.last qs (fields request added (part 1 (kids_at added) m 16 (total - (k + 1)) s.next).trees)) (sym (ap (mapped_all g) (adds_more added m us fs st k s.under slot s.start lu lf ls) ∙ all_append g (from (addition_at added m us fs st) 0 k) (record { parent = q; tree = added_tree added m slot s.start } ∷ [])))

      settled_goes : (length us ≡ 64) × (length fs ≡ 64) × (length st ≡ 64) → Placing t ds request added additions total m last (k + 1) s.next s.last (set us k s.under) (set fs k slot) (set st k s.start)
      settled_goes w =
          let ru = w.0 in
          let rf = w.1 in
          let rs = w.2 in
          let few = h.entries.few in
          let th = (column_here h).there in
          record {
            within = omega arith;
            read = rw (← left_is) (reads_rest 1 (kids_at added) m 16 (total - k) slot H.read (kids_at added slot) (λ z. omega arith) refl s.next (sym next_is));
            most = d.most;
            under = stored None Word us k s.under (omega arith) H.under d.under;
            first = stored 0 (λ v. v ≤ m) fs k slot (omega arith) H.first (omega arith);
            tree = stored 0 (λ v. reads 1 (kids_at added) m 16 1 v ≡ true) fs k slot (omega arith) H.tree (alone th);
            arrive = λ pool base edits qs. arrive_on pool base edits qs (omega arith) (omega arith) (omega arith);
            goes = λ r e. H.goes (joined (parent s.under) r) (onward (ok r) e ∙ bind_is (ok r) _ r refl) ∙ ap ok (spot_joined r (omega arith));
            stops = λ i j v e. H.stops i j v (onward (refused i j v) e ∙ bind_not (refused i j v) _ i j v refl);
          }

    pub place_goes : (r : Spotted) (s : Spot) (a : ℕ) → (length us ≡ 64) × (length fs ≡ 64) × (length st ≡ 64) → Columns request added additions total m → OneSpotted t ds request added additions m end k slot r → r ≡ Ok s → a ≡ s.start → Placing t ds request added additions total m last (k + 1) s.next s.last (set us k s.under) (set fs k slot) (set st k a)
    place_goes r s a w h d q e = rw e (settled_goes h s (rw q at d).by w)
