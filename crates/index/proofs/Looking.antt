-- A chain finds the lowest slot that has the id or the full name, and the rows' slots are in that order: so the look-ups of the code are
-- the paper's.
use mathlib.Core.Path.{◌≡◌, refl, sym, ap, subst, ◌∙◌}
use mathlib.Core.Bool.{Bool, true, not}
use mathlib.Core.List.{List, []}
use mathlib.Core.Option.{Option, none, some}
use Prim.Native.Nat.{ℕ, zero, suc, ◌-◌, ◌<◌, ◌≤◌}
use native.Mathlib.Omega.{arith}
use borrow.Author.Tests.{not-true}
use lib.ListN.{get_or}
use Rattle.paper.specs.declared.Kind.{Kind}
use Rattle.paper.specs.declared.Role.TheVariants.{Member}
use Rattle.paper.specs.Answer.{find, or_else, place_of, same, among}
use Rattle.paper.specs.Bytes.{turned}
use Rattle.paper.specs.Forest.{Forest, mapped}
use Rattle.paper.specs.Field.{Field}
use Rattle.paper.specs.Rows.{Row, top, rows, entered, look_id, look_name, look_parent, look_some, parent_of}
use Rattle.record.specs.declared.Slot.{Slot}
use Rattle.record.specs.Answers.{FoundSlot, Found}
use Rattle.std.specs.Prelude.{Some, None}
use Rattle.record.specs.Says.{found_row, slot_before}
use Rattle.laws.proofs.Words.{turned_twice}
use Rattle.record.specs.Trees.{Trees}
use Rattle.plan.specs.Plan.{kids_in, planned_field, plan_fields, Plan}
use Rattle.plan.specs.Table.{numbers}
use Rattle.plan.proofs.Standing.{field_in, field_id, plan_is}
use Rattle.index_ids.specs.Chain.{Below, held, lowest_below}
use Rattle.index_ids.specs.Ids.{is_id}
use Rattle.index_ids.specs.Table.{ups_in}
use Rattle.index_ids.proofs.Chains.{found_within, found_below_room}
use Rattle.index_ids.proofs.Repeats.{slot_at, found_below}
use Rattle.plan.specs.Walk.{walk, trees_of}
use Rattle.index_names.specs.Full.{fulls, ups, full_at}
use Rattle.plan.specs.Named.{name_in, kind_in}
use Rattle.index_names.specs.Told.{Raised}
use Rattle.index_full_names.specs.Names.{is_full}
use Rattle.index_names.proofs.Rising.{Climbs, climbs}
use Rattle.index_names.proofs.Rows.{Rel, none_found, found_at, parent_at, line_nearest, id_row, full_row}
use Rattle.plan.proofs.Walks.{all_there, all_numbered}
use Rattle.index_names.proofs.Telling.{fulls_are}
use Rattle.index_turns.specs.Turn.{left_at}
use Rattle.index_turns.proofs.Fitting.{left_in}
use Rattle.index_short_names.specs.Seek.{Sighting, seek_in, outcome, sighting}
use Rattle.std.specs.ControlFlow.{break_value}
use Rattle.laws.proofs.Basics.{none≢some}
use Rattle.index_short_names.proofs.Entered as short
use Rattle.index_short_names.proofs.Entered.{short_rel, dotless, found_in}
use Rattle.index.specs.Index.{Falling, at_slot, found_slot, ById, ByParent, short_slot}
use Rattle.plan.specs.declared.PlanRows.{PlanRows}

-- ---- places: `search placing`

held_before : (at : ℕ) → held (slot_before at) ≡ slot_at at
unfolding slot_before
held_before zero = refl
held_before (suc k) = refl

pub slot_small : (w : FoundSlot) (s : Slot) → Below w → w ≡ Some s → s.0 < 1024
slot_small w s b e = b.small s e

-- A slot and its id, as an answer.
module _ (is : List ℕ) (w : FoundSlot) where
  pub nothing_at : w ≡ None → None ≡ found_slot is (held w)
  unfolding found_slot
  nothing_at e = rw e

  pub slot_found : (s : Slot) (r : Found) → w ≡ Some s → r ≡ at_slot (turned (get_or is s.0 0)) s.0 → r ≡ found_slot is (held w)
  unfolding found_slot
  slot_found s r h e = rw h e

pub at_is : (id slot : ℕ) → id < 4294967296 → Some ((record { 0 = id }), (record { 0 = slot })) ≡ at_slot (turned id) slot
at_is id slot l = rw (turned_twice id l)

pub ruleset placing = (slot_small, nothing_at, slot_found, at_is)

-- ---- the rows of a plan

module _ (l : Trees) (xs is ks : List ℕ) (m : ℕ) (p : Plan l xs is ks m) where
  abbrev fld : ℕ → Field
  fld k = field_in l xs is k

  abbrev places : Forest ℕ
  places = trees_of (kids_in ks) m

  rel_slot : {us : List ℕ} {O : Option Row} {o : Option ℕ} → Rel fld us O o → found_row O ≡ found_slot is o
  unfolding found_row found_slot
  rel_slot none_found = refl
  rel_slot (found_at {k = k} h) = rw (h.slot, h.field, field_id l xs is k)

  -- ---- by id

  module _ (i : ℕ) (w : FoundSlot) (e : w ≡ slot_before (lowest_below (is_id is i) 0 m)) where
    id_found : (us : List ℕ) → Climbs us 0 places → Rel fld us (look_id (plan_fields l xs is ks m) i) (held w)
    id_found us c = rw (e, held_before (lowest_below (is_id is i) 0 m)) (id_row l xs is ks m p us c i)

    by_id : found_row (look_id (plan_fields l xs is ks m) i) ≡ found_slot is (held w)
    by_id = rel_slot (id_found (ups 0 places) (climbs (kids_in ks) m (ups 0 places) (λ _ _. refl)))

    -- ---- by parent

    module _ (us : List ℕ) (rs : Raised ks m us) where
      id_raised : Rel fld us (look_id (plan_fields l xs is ks m) i) (held w)
      id_raised = id_found us (climbs (kids_in ks) m us rs.above)

      no_id : w ≡ None → None ≡ found_row (look_parent (plan_fields l xs is ks m) i)
      unfolding look_parent found_row
      no_id z = go (look_id (plan_fields l xs is ks m) i) (subst (λ (v : FoundSlot). Rel fld us (look_id (plan_fields l xs is ks m) i) (held v)) z id_raised)
        where
          go : (O : Option Row) → Rel fld us O none → None ≡ found_row (look_some (plan_fields l xs is ks m) (parent_of O))
          go (some _) x'' = elim x'' [ ]
          go none none_found = refl

      parent_is : (k : ℕ) → held w ≡ some k → parent_of (look_id (plan_fields l xs is ks m) i) ≡ parent_at fld (get_or us k 0)
      parent_is k z = go (look_id (plan_fields l xs is ks m) i) (subst (Rel fld us (look_id (plan_fields l xs is ks m) i)) z id_raised)
        where
          go : (O : Option Row) → Rel fld us O (some k) → parent_of O ≡ parent_at fld (get_or us k 0)
          go none x' = elim x' [ ]
          go (some r) (found_at h) = line_nearest fld us h.above

      module _ (u : ℕ) (s : Slot) (h : w ≡ Some s) (eu : u ≡ get_or us s.0 0) where
        parent_at_place : parent_of (look_id (plan_fields l xs is ks m) i) ≡ parent_at fld u
        parent_at_place = parent_is s.0 (ap held h) ∙ ap (parent_at fld) (sym eu)

        no_parent : u ≡ 0 → None ≡ found_row (look_parent (plan_fields l xs is ks m) i)
        unfolding look_parent found_row
        no_parent z = rw (parent_at_place, z)

        the_parent : (r : Found) → (u ≡ 0 → ⊥) → r ≡ found_row (look_id (plan_fields l xs is ks m) (turned (get_or is (u - 1) 0))) → r ≡ found_row (look_parent (plan_fields l xs is ks m) i)
        unfolding look_parent
        the_parent r z e =
            let y : u ≡ suc (u - 1) = omega arith in
            e ∙ sym (ap (λ (o : Option ℕ). found_row (look_some (plan_fields l xs is ks m) o)) (parent_at_place ∙ ap (parent_at fld) y ∙ ap some (field_id l xs is (u - 1))))

  -- ---- by name: `search named`

  module _ (us : List ℕ) (rs : Raised ks m us) (x : List ℕ) where
    abbrev named_row : Option Row
    named_row = find (λ r. same r.full x) (rows top (plan_fields l xs is ks m))

    abbrev short_row : Option Row
    short_row = find (λ r. same r.short x) (entered [] top (plan_fields l xs is ks m))

    full_found : (w : FoundSlot) → w ≡ slot_before (lowest_below (is_full l xs us x) 0 m) → Rel fld us named_row (held w)
    full_found w e =
        let q : place_of (λ y. same y x) 0 (fulls (name_in l xs) [] places) ≡ held w =
        ap (place_of (λ y. same y x) 0) (sym (fulls_are (name_in l xs) (kids_in ks) m us rs.above)) ∙ sym (ap held e ∙ held_before _ ∙ found_below (λ y. same y x) (full_at (name_in l xs) us) m) in
        rw (← q) (full_row l xs is ks m p us (climbs (kids_in ks) m us rs.above) (λ y. same y x))

    rel_first : {O : Option Row} (k : ℕ) (O' : Option Row) → Rel fld us O (some k) → found_row (or_else O O') ≡ found_slot is (some k)
    unfolding found_row found_slot
    rel_first k O' (found_at h) = rw (h.slot, h.field, field_id l xs is k)

    rel_none : {O : Option Row} → Rel fld us O none → O ≡ none
    rel_none none_found = refl

    parts : ◌≡◌ {A = (ℕ → List ℕ) × (ℕ → Kind)} (λ k. (fld k).name, λ k. (fld k).kind) (name_in l xs, kind_in l xs)
    unfolding name_in kind_in planned_field
    parts = refl

    short_found : short.Rel fld short_row (short_slot l xs ks m x)
    short_found =
        rw (plan_is l xs is ks m p)
        (subst (λ (s : (ℕ → List ℕ) × (ℕ → Kind)). short.Rel fld (find (λ r. same r.short x) (entered [] top (mapped fld places))) (seek_in s.0 s.1 Member (some x) none places)) parts
        (short_rel fld x places top [] none (all_numbered (kids_in ks) m) short.none_found))

    module _ (w : FoundSlot) (e : w ≡ slot_before (lowest_below (is_full l xs us x) 0 m)) where
      pub by_full : (r : Found) (s : Slot) → w ≡ Some s → r ≡ found_slot is (held w) → r ≡ found_row (look_name (plan_fields l xs is ks m) x)
      unfolding look_name
      by_full r s h er =
          er ∙ ap (λ (v : FoundSlot). found_slot is (held v)) h ∙ sym (rel_first s.0 short_row (subst (λ (v : FoundSlot). Rel fld us named_row (held v)) h (full_found w e)))

      no_full : w ≡ None → named_row ≡ none
      no_full h = rel_none (subst (λ (v : FoundSlot). Rel fld us named_row (held v)) h (full_found w e))

      pub by_short : (r : Found) → w ≡ None → r ≡ found_slot is (short_slot l xs ks m x) → r ≡ found_row (look_name (plan_fields l xs is ks m) x)
      unfolding look_name found_row found_slot
      by_short r h er = er ∙ rw (no_full h) (sym (go short_row (short_slot l xs ks m x) short_found))
        where
          go : (O : Option Row) (o : Option ℕ) → short.Rel fld O o → found_row O ≡ found_slot is o
          go none (some k) x3 = elim x3 [ ]
          go (some r) none x4 = elim x4 [ ]
          go none none short.none_found = refl
          go (some r) (some k) (short.found_at f g) = rw (f, g, field_id l xs is k)

      pub by_root : w ≡ None → (b : Bool) → b ≡ among 46 x → not b ≡ true → None ≡ found_row (look_name (plan_fields l xs is ks m) x)
      unfolding found_slot
      by_root h b eb t =
          let none_full : find (λ r. same r.full x) (rows top (mapped fld places)) ≡ none = rw (plan_is l xs is ks m p) at (no_full h) in
          by_short None h (ap (found_slot is) (sym (subst (λ (s : (ℕ → List ℕ) × (ℕ → Kind)). seek_in s.0 s.1 Member (some x) none places ≡ none) parts (dotless fld x places top (sym eb ∙ not-true b t) refl none_full))))

pub ruleset named = (found_below_room, by_full, by_short, by_root)

-- ---- by id and by parent, whatever the plan draws on: `search looks`

module _ (plan : PlanRows) (m i : ℕ) (w : FoundSlot) (e : w ≡ slot_before (lowest_below (is_id (numbers plan) (turned i)) 0 m)) where
  pub finds_id : (r : Found) → r ≡ found_slot (numbers plan) (held w) → ById plan m i r
  finds_id r h = record { finds = λ l p. h ∙ sym (by_id l _ _ _ m p (turned i) w e) }

  module _ (index : List (List ℕ)) where
    pub finds_no_id : w ≡ None → ByParent plan index m i None
    finds_no_id z = record { finds = λ l p rs. no_id l _ _ _ m p (turned i) w e _ rs z }

    module _ (s : Slot) (h : w ≡ Some s) (u : ℕ) (eu : u ≡ get_or (ups_in index) s.0 0) where
      pub finds_no_parent : u ≡ 0 → ByParent plan index m i None
      finds_no_parent z = record { finds = λ l p rs. no_parent l _ _ _ m p (turned i) w e _ rs u s h eu z }

      module _ (z : u ≡ 0 → ⊥) where
        pub finds_parent : (r : Found) → ById plan m (get_or (numbers plan) (u - 1) 0) r → ByParent plan index m i r
        finds_parent r b = record { finds = λ l p rs. the_parent l _ _ _ m p (turned i) w e _ rs u s h eu r z (b.finds l p) }

        pub parent_small : m ≤ 1024 → Falling m (ups_in index) → u - 1 < 1024
        parent_small q f = let x = found_within _ m w e s h in let y = f.falls s.0 x in omega arith

pub ruleset looks = (slot_small, found_below_room, finds_id, finds_no_id, finds_no_parent, finds_parent, parent_small)

-- ---- the walk for a short name: `search shorts`

module _ (l : Trees) (xs : List ℕ) (kids : ℕ → ℕ) (m : ℕ) (x : List ℕ) (w : Sighting) (ew : w ≡ sighting (name_in l xs) (kind_in l xs) Member (left_at x 0) none (walk kids m 16 m 0)) (f : FoundSlot) (ef : f ≡ break_value w) where
  abbrev short_in : Option ℕ
  short_in = seek_in (name_in l xs) (kind_in l xs) Member (some x) none (trees_of kids m)

  broken : (o : Option ℕ) (n : ℕ) → held (break_value (outcome o n)) ≡ o
  unfolding outcome
  broken none n = refl
  broken (some k) n = refl

  walked : held f ≡ short_in
  unfolding sighting
  walked = let z : w ≡ outcome short_in (walk kids m 16 m 0).next = rw (left_in x 0 (omega arith)) at ew in ap held ef ∙ ap (λ (v : Sighting). held (break_value v)) z ∙ broken short_in _

  pub short_told : (is : List ℕ) (r : Found) → r ≡ found_slot is (held f) → r ≡ found_slot is short_in
  short_told is r h = h ∙ ap (found_slot is) walked

  pub short_below : m ≤ 1024 → Below f
  short_below h =
      record {
        small = λ s q.
            let z = found_in (name_in l xs) (kind_in l xs) m s.0 (trees_of kids m) 0 Member (some x) none (all_numbered kids m) (omega (arith, all_there kids m))
            (λ e. absurd (none≢some e)) (sym walked ∙ ap held q) in
            omega arith;
      }

pub ruleset shorts = (short_told, short_below)
