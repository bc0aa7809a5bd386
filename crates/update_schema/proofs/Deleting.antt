-- Deletions one at a time: what is left of them, behind the ids that stand in the row, is the whole.
use Prim.Native.Nat.{ℕ, suc, ◌+◌, ◌-◌, ◌*◌, ◌<◌, ◌≤◌}
use mathlib.Core.Path.{◌≡◌, refl, sym, ap, ap₂, ◌∙◌}
use mathlib.Core.Bool.{Bool, true, false}
use mathlib.Core.List.{List, [], ◌∷◌, ◌++◌, append-nil, append_assoc}
use mathlib.Core.Option.{Option, none, some}
use native.Mathlib.Omega.{arith}
use native.Mathlib.Numerals.{add-one}
use lib.ListN.{length, get_or, set}
use lib.Seq.{get_or-set_same, get_or-set_other}
use Rattle.paper.specs.Answer.{Answer, ok, refused, ◌>>=◌, among, fault_if, demand}
use Rattle.paper.specs.Forest.{Forest}
use Rattle.paper.specs.Field.{Field}
use Rattle.paper.specs.Rows.{Row, look_name}
use Rattle.paper.specs.Bytes.{turned, from}
use Rattle.paper.specs.Lists.{path_of}
use Rattle.record_entries.specs.declared.PathList.{PathList}
use Rattle.record_entries.specs.Rule.{width_of, inside_of}
use Rattle.record_entries.proofs.Entries.{entry_whole}
use Rattle.paper.specs.Update.{deleted}
use Rattle.laws.proofs.Fitting.{lowest_none}
use Rattle.laws.proofs.Words.{turned_twice}
use Rattle.laws.proofs.Runs.{from_step, from_done, from_all, from_append, from_same}
use Rattle.laws.proofs.Basics.{bind_is, bind_not}
use Rattle.record.specs.declared.FieldId.{FieldId}
use Rattle.record.specs.declared.Refusal.{Refusal}
use Rattle.record.specs.Answers.{Found}
use Rattle.std.specs.Prelude.{Ok, Err}
use Rattle.record.specs.Says.{found_row, refusal_of}
use Rattle.update_decide.specs.Answers.{Dropping}
use Rattle.update_decide.specs.Entry.{Known, dropped_id, drops, Deleted}
use Rattle.update_schema.specs.Base.{Entries}
use Rattle.update_dropped.specs.Gathered.{row_ids}
use Rattle.update_schema.specs.Deletions.{DropsAll}

-- ---- chains and answers

of_refused : (x : Answer ℕ) (f : Refusal) → Err f ≡ drops x → x ≡ refused f.number f.list f.place
unfolding drops
of_refused (ok i) f e = cc
of_refused (refused n l p) f e = let z : f ≡ refusal_of n l p = cc in rw z

id_refused : (x : FieldId) (n l p : ℕ) → Ok x ≡ drops (refused n l p) → ⊥
unfolding drops
id_refused x n l p e = let y : ◌≡◌ {A = ℕ} 0 1 = cc in omega arith

id_told : (x : FieldId) (i : ℕ) → Ok x ≡ drops (ok i) → x.0 ≡ turned i
unfolding drops
id_told x i e = let z : x ≡ record { 0 = turned i } = cc in rw z

-- ---- the row

ids_more : (bits : List ℕ) (k v : ℕ) → k < length bits → row_ids (set bits k v) (k + 1) ≡ row_ids bits k ++ (turned v ∷ [])
unfolding row_ids from
ids_more bits k v l =
    from_append (λ j. turned (get_or (set bits k v) j 0)) 0 k 1
    ∙ ap₂ (λ (a b : List ℕ). a ++ b)
    (from_same (λ j. turned (get_or (set bits k v) j 0)) (λ j. turned (get_or bits j 0)) 0 k (λ j h. ap turned (get_or-set_other bits k j v 0 (λ e. omega arith))))
    (let z : 0 + k ≡ k = omega arith in rw z (ap (λ (y : ℕ). turned y ∷ []) (get_or-set_same bits k v 0 l)))

-- ---- one deletion of the paper

deleted_step : (t : Forest Field) (ids : List ℕ) (k : ℕ) (p : List ℕ) (ps : List (List ℕ)) → deleted t ids k (p ∷ ps) ≡ (dropped_id (look_name t p) ids k >>= λ i. deleted t ids (suc k) ps >>= λ ds. ok (i ∷ ds))
unfolding deleted dropped_id ◌>>=◌
deleted_step t ids k p ps = go (look_name t p)
  where
    tested : (b : Bool) (i : ℕ) (d : Answer (List ℕ)) → (fault_if 12 2 k b >>= λ _. d >>= λ ds. ok (i ∷ ds)) ≡ ((fault_if 12 2 k b >>= λ _. ok i) >>= λ j. d >>= λ ds. ok (j ∷ ds))
    tested true i d = refl
    tested false i d = refl

    go : (o : Option Row) → (demand 11 2 k o >>= λ r. fault_if 12 2 k (among r.field.id ids) >>= λ _. deleted t ids (suc k) ps >>= λ ds. ok (r.field.id ∷ ds))
        ≡ ((demand 11 2 k o >>= λ r. fault_if 12 2 k (among r.field.id ids) >>= λ _. ok r.field.id) >>= λ i. deleted t ids (suc k) ps >>= λ ds. ok (i ∷ ds))
    go none = refl
    go (some r) = tested (among r.field.id ids) r.field.id (deleted t ids (suc k) ps)

-- what the answer of one deletion says of the paper's
one_dropped : (P : Type 0) (o : Option Row) (ids : List ℕ) (k : ℕ) (x : FieldId) → Known o → Ok x ≡ drops (dropped_id o ids k) → ((i : ℕ) → dropped_id o ids k ≡ ok i → turned x.0 ≡ i → P) → P
unfolding dropped_id ◌>>=◌ Known
one_dropped P none ids k x h e f = absurd (id_refused x _ _ _ e)
one_dropped P (some r) ids k x h e f = go (among r.field.id ids) refl e f
  where
    go : (b : Bool) → among r.field.id ids ≡ b → Ok x ≡ drops (fault_if 12 2 k b >>= λ _. ok r.field.id) → ((i : ℕ) → (fault_if 12 2 k b >>= λ _. ok r.field.id) ≡ ok i → turned x.0 ≡ i → P) → P
    go true q a g = absurd (id_refused x _ _ _ a)
    go false q a g = g r.field.id refl (ap turned (id_told x r.field.id a) ∙ turned_twice r.field.id h)

-- ---- the loop

pub entry_here : (list : PathList) (request entries : List ℕ) (total k : ℕ) → Entries list request entries total → k < total
    → (k * width_of list + width_of list ≤ length entries) × (inside_of list (length request) entries k ≡ true)
entry_here list request entries total k h l =
    (entry_whole list total k (length entries) h.whole l, lowest_none (inside_of list (length request) entries) 0 total h.pathed k (omega arith) (omega arith))

abbrev rest : (t : Forest Field) (ids request deletions : List ℕ) (total k : ℕ) → Answer (List ℕ)
rest t ids request deletions total k = deleted t ids k (from (path_of request deletions) k (total - k))

pub record Deleting (t : Forest Field) (ids request deletions : List ℕ) (total k : ℕ) (bits : List ℕ) : Type 0 where
  pub within : k ≤ total
  pub goes : (ds : List ℕ) → rest t ids request deletions total k ≡ ok ds → deleted t ids 0 (from (path_of request deletions) 0 total) ≡ ok (row_ids bits k ++ ds)
  pub stops : (n l p : ℕ) → rest t ids request deletions total k ≡ refused n l p → deleted t ids 0 (from (path_of request deletions) 0 total) ≡ refused n l p

pub delete_starts : (t : Forest Field) (ids request deletions : List ℕ) (total : ℕ) (bits : List ℕ) → Deleting t ids request deletions total 0 bits
unfolding row_ids from
delete_starts t ids request deletions total bits =
    let e = from_all (path_of request deletions) total in
    record { within = omega arith; goes = λ ds h. sym (ap (λ (z : List (List ℕ)). deleted t ids 0 z) e) ∙ h; stops = λ n l p h. sym (ap (λ (z : List (List ℕ)). deleted t ids 0 z) e) ∙ h }

none_left : (t : Forest Field) (ids : List ℕ) (k : ℕ) → deleted t ids k [] ≡ ok []
unfolding deleted
none_left t ids k = refl

module _ (t : Forest Field) (ids request deletions : List ℕ) (total k : ℕ) (bits : List ℕ) (H : Deleting t ids request deletions total k bits) where
  pub delete_ends : total ≤ k → DropsAll t ids request deletions total (Ok tt) bits
  delete_ends l =
      let w = H.within in
      let e : k ≡ total = omega arith in
      let z = H.goes [] (ap (λ (y : List (List ℕ)). deleted t ids k y) (from_done (path_of request deletions) k total l) ∙ none_left t ids k) in
      record { by = z ∙ rw (append-nil (row_ids bits k), e) }

  module _ (l : k < total) (f : Found) (r : Dropping) (p : List ℕ) (ep : p ≡ path_of request deletions k) (h : Known (look_name t p)) (ef : f ≡ found_row (look_name t p)) (d : Deleted f ids k r) where
    here : rest t ids request deletions total k ≡ (dropped_id (look_name t p) ids k >>= λ i. rest t ids request deletions total (k + 1) >>= λ ds. ok (i ∷ ds))
    here = ap (λ (y : List (List ℕ)). deleted t ids k y) (from_step (path_of request deletions) k total l) ∙ rw (← ep, add-one k) (deleted_step t ids k p (from (path_of request deletions) (suc k) (total - suc k)))

    pub delete_stops : (x : Refusal) (new : List ℕ) → r ≡ Err x → DropsAll t ids request deletions total (Err x) new
    delete_stops x new q =
        let e = of_refused (dropped_id (look_name t p) ids k) x (sym q ∙ d.says (look_name t p) h ef) in
        record { by = H.stops x.number x.list x.place (here ∙ bind_not (dropped_id (look_name t p) ids k) _ x.number x.list x.place e) }

    pub delete_goes : (x : FieldId) (v : ℕ) → r ≡ Ok x → v ≡ x.0 → k < length bits → Deleting t ids request deletions total (k + 1) (set bits k v)
    delete_goes x v q ev b =
        one_dropped _ (look_name t p) ids k x h (sym q ∙ d.says (look_name t p) h ef) λ i ei ex.
        let step : (u : Answer (List ℕ)) → rest t ids request deletions total (k + 1) ≡ u → rest t ids request deletions total k ≡ (u >>= λ ds. ok (i ∷ ds))
        = λ u e. here ∙ bind_is (dropped_id (look_name t p) ids k) _ i ei ∙ ap (λ (z : Answer (List ℕ)). z >>= λ ds. ok (i ∷ ds)) e in
        record {
          within = omega arith;
          goes = λ ds e. H.goes (i ∷ ds) (step (ok ds) e ∙ bind_is (ok ds) _ ds refl) ∙ ap ok (joined i ds (ap turned ev ∙ ex));
          stops = λ n j s e. H.stops n j s (step (refused n j s) e ∙ bind_not (refused n j s) _ n j s refl);
        }
      where
        joined : (i : ℕ) (ds : List ℕ) → turned v ≡ i → row_ids bits k ++ (i ∷ ds) ≡ row_ids (set bits k v) (k + 1) ++ ds
        joined i ds e = sym (ap (λ (z : List ℕ). z ++ ds) (ids_more bits k v b) ∙ append_assoc (row_ids bits k) (turned v ∷ []) ds ∙ rw e)
