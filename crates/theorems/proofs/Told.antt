-- Each refusal has a number from 1 to the last and a list from 0 to the last: every step of an entry gives one of
-- Refusals.antt.
use Prim.Native.Nat.{ℕ, zero, suc, ◌+◌, ◌≤◌}
use mathlib.Core.Path.{◌≡◌, refl, sym, ◌∙◌}
use mathlib.Core.Bool.{Bool, true, false, not, ◌&&◌, ◌||◌}
use mathlib.Core.List.{List, [], ◌∷◌, ◌++◌}
use mathlib.Core.Option.{Option, none, some}
use native.Mathlib.Omega.{arith}
use lib.Dec.{eqb, leb, ltb}
use lib.ListN.{length}
use Rattle.paper.specs.declared.Kind.{Kind}
use Rattle.paper.specs.declared.Kind.TheVariants.{Primitive, Structure, Listing, Mapping}
use Rattle.paper.specs.declared.Role.{Role}
use Rattle.paper.specs.Answer.{Answer, ok, refused, ◌>>=◌, fault, fault_if, demand, among, same, repeated}
use Rattle.paper.specs.Answer.{place_of, lowest}
use Rattle.paper.specs.Refusals.{last_refusal, last_list}
use Rattle.paper.specs.Forest.{Forest, empty, node, size, siblings}
use Rattle.paper.specs.declared.Role.TheVariants.{Member}
use Rattle.paper.specs.Field.{Field, id_of, kind_of, first, after, highest}
use Rattle.paper.specs.Rows.{Row, look_name, look_id}
use Rattle.paper.specs.Folded.{only, look_folded}
use Rattle.paper.specs.Sound.{misnamed, names, ids, identifies, sound, within}
use Rattle.paper.specs.Prune.{kept, pruned, tested, is_chosen, prune}
use Rattle.paper.specs.Renumber.{renumber}
use Rattle.paper.specs.Gone.{gone_columns}
use Rattle.paper.specs.Promotions.{known_version}
use Rattle.paper.specs.Edits.{Edit, Edited, remaining, forbidden, again, has_dot, no_step, edited_one, edited_all, edited_tree}
use Rattle.paper.specs.Update.{Request, Schema, Plan, receiver, root_taken, member_taken}
use Rattle.paper.specs.Update.{deleted, placed, placed_all, planned}
use Rattle.paper.specs.Rebuild.{rebuilt, added, carried_out, update}
use Rattle.paper.specs.Bytes.{turned, ok_bytes, in_pool, kids_at, slots}
use Rattle.paper.specs.Lists.{ok_deletion, ok_addition, path_in, ok_edit, edit_in, entries, entries_ok, id_list}
use Rattle.paper.specs.Layout.{Part, deep, row_with, row, roots}
use Rattle.paper.specs.Decode.{fields, decode}
use Rattle.paper.specs.Limits.{room, whole, sized, sized_ids, sized_update}
use Rattle.paper.specs.Lent.{Stored, Lent}
use Rattle.paper.specs.Outcome.{changed, searched}
use Rattle.paper.specs.Entries.{Result, update_entry, prune_entry, renumber_entry, read, find_name, find_id}
use Rattle.paper.specs.Entries.{find_parent, find_folded, find_ids}
use Rattle.laws.proofs.Basics.{refused≢ok}
use Rattle.laws.proofs.Rows.{matched}
use Rattle.theorems.specs.One.{Told, accepted, turned_down, RefusalsTold}

-- ---- steps

told_bind : {A B : Type 0} {x : Answer A} {f : A → Answer B} → Told x → ((a : A) → Told (f a))
    → Told (x >>= f)
unfolding ◌>>=◌
told_bind (accepted {a = a}) h = h a
told_bind (turned_down l g k) h = turned_down l g k

module _ (n l : ℕ) (low : 1 ≤ n) (high : n ≤ last_refusal) (list : l ≤ last_list) where
  told_fault : (o : Option ℕ) → Told (fault n l o)
  told_fault none = accepted
  told_fault (some p) = turned_down low high list

  told_if : (p : ℕ) (b : Bool) → Told (fault_if n l p b)
  told_if p false = accepted
  told_if p true = turned_down low high list

  told_demand : {A : Type 0} (p : ℕ) (o : Option A) → Told (demand n l p o)
  told_demand p none = turned_down low high list
  told_demand p (some a) = accepted

told_elim : {A : Type 0} (b : Bool) {x y : Answer A} → Told x → Told y
    → Told {A = A} (elim b [ true ↦ x | false ↦ y ])
told_elim true h k = h
told_elim false h k = k

-- ---- a tree

module _ (list : ℕ) (l : list ≤ last_list) (kids : ℕ → ℕ) (n : ℕ) where
  deep_told : (c k : ℕ) → Told (deep list c k)
  unfolding deep
  deep_told zero k = accepted
  deep_told (suc c) k = turned_down {number = 5} (omega arith) (omega arith) l

  row_with_told : (inner : ℕ → ℕ → Answer Part) → ((c k : ℕ) → Told (inner c k)) → (c k : ℕ)
      → Told (row_with list kids n inner c k)
  unfolding row_with
  row_with_told inner h zero k = accepted
  row_with_told inner h (suc c) k =
      told_elim (ltb k n)
      (told_bind (h (kids k) (suc k)) (λ a. told_bind (row_with_told inner h c a.next) (λ b. accepted)))
      (turned_down {number = 5} (omega arith) (omega arith) l)

  row_told : (lv c k : ℕ) → Told (row list kids n lv c k)
  unfolding row
  row_told zero c k = deep_told c k
  row_told (suc lv) c k = row_with_told (row list kids n lv) (row_told lv) c k

  roots_told : (most k : ℕ) → Told (roots list kids n most k)
  unfolding roots
  roots_told zero k = accepted
  roots_told (suc most) k =
      told_elim (ltb k n)
      (told_bind (row_told 15 (kids k) (suc k)) (λ a. told_bind (roots_told most a.next) (λ b. accepted)))
      accepted

-- From 1 and from 0 to the last.
abbrev Known : ℕ → ℕ → Type 0
Known n l = (1 ≤ n) × (n ≤ last_refusal) × (l ≤ last_list)

step : (n l : ℕ) → Known n l → (o : Option ℕ) → Told (fault n l o)
step n l h = told_fault n l h.0 h.1 h.2

test : (n l : ℕ) → Known n l → (p : ℕ) (b : Bool) → Told (fault_if n l p b)
test n l h = told_if n l h.0 h.1 h.2

asked : {A : Type 0} (n l : ℕ) → Known n l → (p : ℕ) (o : Option A) → Told (demand n l p o)
asked n l h = told_demand n l h.0 h.1 h.2

decode_told : (list : ℕ) → list ≤ last_list → (s p : List ℕ) → Told (decode list s p)
unfolding decode
decode_told list l s p =
    told_bind (step 3 list (omega arith, omega arith, l) (lowest (ok_bytes s) 0 (slots s))) λ _.
    told_bind (step 4 list (omega arith, omega arith, l) (lowest (in_pool (length p) s) 0 (slots s))) λ _.
    told_bind (roots_told list l (kids_at s) (slots s) (slots s) 0) λ t.
    told_bind (step 6 list (omega arith, omega arith, l) (misnamed Member 0 (fields p s t.trees))) λ _. accepted

entries_told : (list width : ℕ) → list ≤ last_list → (rule : List ℕ → ℕ → Bool) (inside : ℕ → List ℕ → ℕ → Bool)
    → (s p : List ℕ) → Told (entries_ok list width rule inside s p)
unfolding entries_ok
entries_told list width l rule inside s p =
    told_bind (step 3 list (omega arith, omega arith, l) (lowest (rule s) 0 (entries width s))) λ _.
    step 4 list (omega arith, omega arith, l) (lowest (inside (length p) s) 0 (entries width s))

sound_told : (list : ℕ) → list ≤ last_list → (t : Forest Field) (identifiers : List ℕ)
    → Told (sound list t identifiers)
unfolding sound
sound_told list l t identifiers =
    let broken = place_of (λ i. not (identifies (look_id t i))) 0 identifiers in
    told_bind (step 7 list (omega arith, omega arith, l) (repeated eqb [] 0 (ids t))) λ _.
    told_bind (step 8 list (omega arith, omega arith, l) (repeated same [] 0 (names [] t))) λ _.
    step 9 5 (omega arith, omega arith, omega arith) broken

-- ---- an update

deleted_told : (t : Forest Field) (identifiers : List ℕ) (k : ℕ) (ps : List (List ℕ))
    → Told (deleted t identifiers k ps)
unfolding deleted
deleted_told t identifiers k [] = accepted
deleted_told t identifiers k (p ∷ ps) =
    told_bind (asked 11 2 (omega arith, omega arith, omega arith) k (look_name t p)) λ r.
    told_bind (test 12 2 (omega arith, omega arith, omega arith) k (among r.field.id identifiers)) λ _.
    told_bind (deleted_told t identifiers (suc k) ps) λ ds. accepted

placed_told : (t : Forest Field) (ds : List ℕ) (k : ℕ) (x : List ℕ) (p : Option (List ℕ))
    → Told (placed t ds k x p)
unfolding placed
placed_told t ds k x none =
    told_bind (test 17 3 (omega arith, omega arith, omega arith) k (root_taken (look_name t x) ds)) λ _. accepted
placed_told t ds k x (some p) =
    told_bind (asked 15 3 (omega arith, omega arith, omega arith) k (look_name t p)) λ r.
    let to = receiver r.field r.inside r.field.kind in
    told_bind (asked 16 3 (omega arith, omega arith, omega arith) k to) λ s.
    told_bind (test 22 3 (omega arith, omega arith, omega arith) k (among s.id (gone_columns ds t))) λ _.
    let taken = not (among s.id ds) && member_taken s.members x ds in
    told_bind (test 17 3 (omega arith, omega arith, omega arith) k taken) λ _. accepted

placed_all_told : (t : Forest Field) (ds : List ℕ) (last k : ℕ) (ps : List (Option (List ℕ))) (a : Forest Field)
    → Told (placed_all t ds last k ps a)
unfolding placed_all
placed_all_told t ds last k [] a = accepted
placed_all_told t ds last k (p ∷ ps) empty = accepted
placed_all_told t ds last k (p ∷ ps) (node f m n) =
    let top = suc (last + size m) in
    told_bind (test 13 3 (omega arith, omega arith, omega arith) k (among 46 f.name)) λ _.
    told_bind (test 14 3 (omega arith, omega arith, omega arith) k (eqb f.flags 1)) λ _.
    told_bind (placed_told t ds k f.name p) λ q.
    told_bind (test 18 3 (omega arith, omega arith, omega arith) k (ltb highest top)) λ _.
    told_bind (placed_all_told t ds top (suc k) ps n) λ r. accepted

edited_one_told : (t : Forest Field) (ds : List ℕ) (k : ℕ) (earlier : List Edited) (x : Edit)
    → Told (edited_one t ds k earlier x)
unfolding edited_one
edited_one_told t ds k earlier x =
    let column = remaining (gone_columns ds t) (look_name t x.path) in
    told_bind (asked 23 6 (omega arith, omega arith, omega arith) k column) λ r.
    let no = forbidden x.change r.role || again x.change r.field.id earlier in
    told_bind (test 24 6 (omega arith, omega arith, omega arith) k no) λ _.
    told_bind (test 13 6 (omega arith, omega arith, omega arith) k (has_dot x.change)) λ _.
    told_bind (test 26 6 (omega arith, omega arith, omega arith) k (no_step x.change r.field)) λ _. accepted

edited_all_told : (t : Forest Field) (ds : List ℕ) (k : ℕ) (earlier : List Edited) (xs : List Edit)
    → Told (edited_all t ds k earlier xs)
unfolding edited_all
edited_all_told t ds k earlier [] = accepted
edited_all_told t ds k earlier (x ∷ xs) =
    told_bind (edited_one_told t ds k earlier x) λ e. edited_all_told t ds (suc k) (earlier ++ (e ∷ [])) xs

planned_told : (s : Schema) (q : Request) → Told (planned s q)
unfolding planned
planned_told s q =
    let equal = eqb (siblings q.added) (length q.additions) in
    told_bind (sound_told 0 (omega arith) s.tree q.identifiers) λ _.
    told_bind (test 10 3 (omega arith, omega arith, omega arith) 0 (not equal)) λ _.
    told_bind (deleted_told s.tree q.identifiers 0 q.deletions) λ ds.
    told_bind (placed_all_told s.tree ds s.last 0 q.additions q.added) λ a.
    told_bind (edited_all_told s.tree ds 0 [] q.edits) λ es. accepted

carried_out_told : (s : Schema) (q : Request) (p : Plan) → Told (carried_out s q p)
unfolding carried_out
carried_out_told s q p =
    let t = rebuilt id_of kind_of p.dropped (added s q p) none true (edited_tree p.edits s.tree) in
    told_bind (test 19 4 (omega arith, omega arith, omega arith) 0 (not (within t))) λ _.
    told_bind (sound_told 4 (omega arith) t q.identifiers) λ _. accepted

update_told : (s : Schema) (q : Request) → Told (update s q)
unfolding update
update_told s q = told_bind (planned_told s q) (carried_out_told s q)

-- ---- pruning and renumbering

kept_told : {A : Type 0} (slot : ℕ) (full picked : Bool) (k : Kind) (m y : Forest A)
    → Told (kept slot full picked k m y)
kept_told slot full false k m y = accepted
kept_told slot true true k m y = accepted
kept_told slot false true Primitive m y = accepted
kept_told slot false true Structure m y = accepted
kept_told slot false true Listing m y =
    turned_down {number = 20} {list = 0} (omega arith) (omega arith) (omega arith)
kept_told slot false true Mapping m y =
    turned_down {number = 20} {list = 0} (omega arith) (omega arith) (omega arith)

pruned_told : {A : Type 0} (picks : A → Bool) (kind : A → Kind) (full : Bool) (r : Role) (slot : ℕ) (t : Forest A)
    → Told (pruned picks kind full r slot t)
pruned_told picks kind full r slot empty = accepted
pruned_told picks kind full r slot (node a m n) =
    told_bind (pruned_told picks kind full (first (kind a)) (suc slot) m) λ y.
    told_bind (kept_told slot full (tested r (picks a)) (kind a) m y) λ k.
    told_bind (pruned_told picks kind full (after r) (suc (slot + size m)) n) λ rest. accepted

prune_told : (t : Forest Field) (sel : List ℕ) (full : Bool) → Told (prune t sel full)
unfolding prune
prune_told t sel full =
    told_bind (sound_told 0 (omega arith) t []) λ _. pruned_told (is_chosen sel) kind_of full Member 0 t

renumber_told : (t : Forest Field) (identifiers : List ℕ) (start : ℕ) → Told (renumber t identifiers start)
unfolding renumber
renumber_told t identifiers start =
    told_bind (sound_told 0 (omega arith) t identifiers) λ _.
    told_bind (test 18 0 (omega arith, omega arith, omega arith) 0 (ltb highest (start + size t))) λ _. accepted

-- ---- the entries

-- 1 and 2.
room_told : (b : Bool) → Told (fault_if 1 0 0 (not b))
room_told b = test 1 0 (omega arith, omega arith, omega arith) 0 (not b)

size_told : (b : Bool) → Told (fault_if 2 0 0 (not b))
size_told b = test 2 0 (omega arith, omega arith, omega arith) 0 (not b)

update_entry_told : (s : Stored) (q : Lent) → Told (update_entry s q)
unfolding update_entry
update_entry_told s q =
    told_bind (room_told (room q.room_records q.room_names)) λ _.
    told_bind (size_told (sized_update s q)) λ _.
    told_bind (test 25 0 (omega arith, omega arith, omega arith) 0 (not (known_version q.version))) λ _.
    told_bind (decode_told 0 (omega arith) s.records s.pool) λ t.
    told_bind (decode_told 1 (omega arith) q.added_records q.request_pool) λ n.
    told_bind (entries_told 2 8 (omega arith) ok_deletion path_in q.deletions q.request_pool) λ _.
    told_bind (entries_told 3 8 (omega arith) ok_addition path_in q.additions q.request_pool) λ _.
    told_bind (entries_told 6 16 (omega arith) ok_edit edit_in q.edits q.request_pool) λ _.
    told_bind (update_told _ _) λ u. accepted

prune_entry_told : (s p sel : List ℕ) (full : Bool) (lr ln : ℕ) → Told (prune_entry s p sel full lr ln)
unfolding prune_entry
prune_entry_told s p sel full lr ln =
    told_bind (room_told (room lr ln)) λ _.
    told_bind (size_told (sized_ids 1024 s p sel)) λ _.
    told_bind (decode_told 0 (omega arith) s p) λ t.
    told_bind (prune_told t (id_list sel) full) λ u. accepted

renumber_entry_told : (s p i : List ℕ) (start lr ln li : ℕ) → Told (renumber_entry s p i start lr ln li)
unfolding renumber_entry
renumber_entry_told s p i start lr ln li =
    told_bind (room_told (room lr ln && leb (length i) li)) λ _.
    told_bind (size_told (sized_ids 64 s p i)) λ _.
    told_bind (decode_told 0 (omega arith) s p) λ t.
    told_bind (renumber_told t (id_list i) (turned start)) λ u. accepted

read_told : (s p : List ℕ) → Told (read s p)
unfolding read
read_told s p =
    told_bind (size_told (sized s p)) λ _.
    told_bind (decode_told 0 (omega arith) s p) λ t.
    told_bind (sound_told 0 (omega arith) t []) λ _. accepted

find_name_told : (s p x : List ℕ) → Told (find_name s p x)
unfolding find_name
find_name_told s p x = told_bind (read_told s p) λ t. accepted

find_id_told : (s p : List ℕ) (i : ℕ) → Told (find_id s p i)
unfolding find_id
find_id_told s p i = told_bind (read_told s p) λ t. accepted

find_parent_told : (s p : List ℕ) (i : ℕ) → Told (find_parent s p i)
unfolding find_parent
find_parent_told s p i = told_bind (read_told s p) λ t. accepted

only_told : (s : List Row) → Told (only s)
only_told [] = accepted
only_told (r ∷ []) = accepted
only_told (r ∷ q ∷ s) = turned_down {number = 21} {list = 0} (omega arith) (omega arith) (omega arith)

find_folded_told : (s p x : List ℕ) → Told (find_folded s p x)
unfolding find_folded look_folded
find_folded_told s p x = told_bind (read_told s p) λ t. only_told (matched t x)

find_ids_told : (s p i : List ℕ) (room : ℕ) → Told (find_ids s p i room)
unfolding find_ids
find_ids_told s p i room =
    told_bind (room_told (leb (length i) room)) λ _.
    told_bind (size_told (whole 4 1024 i)) λ _.
    told_bind (read_told s p) λ t. accepted

pub refusals_told : RefusalsTold
refusals_told =
    record {
      update = update_entry_told;
      prune = prune_entry_told;
      renumber = renumber_entry_told;
      name_look_up = find_name_told;
      id_look_up = find_id_told;
      parent_look_up = find_parent_told;
      folded_look_up = find_folded_told;
      ids_look_up = find_ids_told;
    }

-- So 0 is said of an acceptance alone, by whatever tells a refusal's number.
none_told : {R : Type 0} (number : Answer R → ℕ) → ((n l p : ℕ) → number (refused n l p) ≡ n)
    → (a : Answer R) (n l p : ℕ) → Told a → number a ≡ 0 → a ≡ refused n l p → ⊥
none_told number own (ok r) n l p h e q = refused≢ok (sym q)
none_told number own (refused m l p) n l' p' (turned_down low high list) e q =
    let z : m ≡ 0 = sym (own m l p) ∙ e in omega arith

pub none_accepted : (a : Answer Result) (n l p : ℕ) → Told a → (changed a).refusal ≡ 0 → a ≡ refused n l p → ⊥
unfolding changed
none_accepted = none_told (λ a. (changed a).refusal) (λ n l p. refl)

pub none_searched : (a : Answer (List (Option Row))) (n l p : ℕ) → Told a → (searched a).refusal ≡ 0
    → a ≡ refused n l p → ⊥
unfolding searched
none_searched = none_told (λ a. (searched a).refusal) (λ n l p. refl)
