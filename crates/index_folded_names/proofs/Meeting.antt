-- The walk that forgets case: each turn of the loop over siblings leaves what is to be answered to the rest of the row.
use mathlib.Core.Path.{◌≡◌, refl, sym, ap, ◌∙◌}
use mathlib.Core.Bool.{Bool, true, false, not, ◌&&◌, cond, true≢false}
use mathlib.Core.Logic.{◌⊎◌, inl, inr}
use mathlib.Core.List.{List, [], ◌∷◌, ◌++◌, append-nil}
use mathlib.Core.Option.{Option, none, some}
use Prim.Native.Nat.{ℕ, ◌+◌, ◌-◌, ◌<◌, ◌≤◌}
use native.Mathlib.Omega.{arith}
use borrow.Author.Tests.{eqb-true, eqb-false, not-true}
use lib.Dec.{eqb}
use lib.ListN.{length, drop, length-drop}
use Rattle.paper.specs.declared.Kind.{Kind}
use Rattle.paper.specs.declared.Role.{Role}
use Rattle.paper.specs.Answer.{same}
use Rattle.paper.specs.Forest.{Forest, empty, node}
use Rattle.paper.specs.Field.{first, after}
use Rattle.paper.specs.Folded.{folded}
use Rattle.paper.specs.Layout.{Part, nothing}
use Rattle.paper.specs.Rows.{skipped}
use Rattle.laws.proofs.Basics.{none≢some, some_is}
use Rattle.laws.proofs.Folding.{folded_length}
use Rattle.laws.proofs.RoundTrip.{both}
use Rattle.plan.specs.Walk.{walk}
use Rattle.plan.proofs.Walks.{walk_none, walk_deep, walk_past, walk_in, filled}
use Rattle.record.specs.declared.Slot.{Slot}
use Rattle.record.proofs.Comparing.{same_apart}
use Rattle.record.specs.Trees.{Trees}
use Rattle.plan.specs.Named.{names_in, kinds_in}
use Rattle.record.specs.Answers.{FoundSlot}
use Rattle.std.specs.Prelude.{Some, None}
use Rattle.std.specs.Option.{is_some, option_or}
use Rattle.std.proofs.Common.{Continue, Break}
use Rattle.index_ids.specs.Chain.{held}
use Rattle.index_turns.specs.declared.Fit.{Fit}
use Rattle.index_turns.specs.declared.Inside.{Inside}
use Rattle.index_turns.specs.Turn.{spelt, left_is, left_at, fits, fit_number, inside, own, own_slot, Entered}
use Rattle.index_turns.proofs.Fitting.{left_in, left_out, left_inside, mine}
use Rattle.index_folded_names.specs.Met.{Met, matched, met, meeting}
use Rattle.plan.specs.declared.PlanRows.{PlanRows}

-- The two halves of a step, where case is forgotten.
pub own_met : (nm x : List ℕ) (pos k : ℕ) (f : Fit) → pos ≤ length x → fit_number f ≡ fits (spelt true nm) (drop pos (spelt true x)) → (me : FoundSlot) → me ≡ own_slot (fit_number f) k → held me ≡ own (left_at (folded x) pos) (folded nm) k
unfolding spelt
own_met nm x pos k f q ef me em = mine nm x pos (fit_number f) true q ef k me em

pub left_met : (l : Trees) (plan : PlanRows) (x : List ℕ) (pos k : ℕ) (f : Fit) → pos ≤ length x → fit_number f ≡ fits (spelt true (names_in l plan k)) (drop pos (spelt true x)) → (short : Bool) (role : Role) (i : Inside) → Entered l plan short role (fit_number f) x pos k i → left_at (folded x) i.pos ≡ inside (short && skipped role (kinds_in l plan k)) (left_at (folded x) pos) (folded (names_in l plan k))
unfolding spelt
left_met l plan x pos k f q ef short role i ei = left_inside (names_in l plan k) x pos (fit_number f) true q ef (short && skipped role (kinds_in l plan k)) i.pos ei.goes

pub missed : (m pos : ℕ) (nm y x : List ℕ) → nm ≡ y → (eqb m 0 && not (eqb (length nm) (length x - pos))) ≡ (eqb m 0 && not (eqb (length y) (length x - pos)))
missed m pos nm y x e = rw e

-- ---- matches behind matches

twice_is : (j next : Slot) (one : FoundSlot) → ◌≡◌ {A = Met} (Break j) (Continue (next, one)) → ⊥
twice_is j next one e = let z : ◌≡◌ {A = ℕ} 0 1 = cc in omega arith

pub met_twice : (a b : List ℕ) (one : FoundSlot) (n n' : ℕ) (j : Slot) → met one a n ≡ Break j → met one (a ++ b) n' ≡ Break j
unfolding met
met_twice [] b one n n' j e = absurd (twice_is j (record { 0 = n }) one (sym e))
met_twice (k ∷ a) b None n n' j e = met_twice a b (Some (record { 0 = k })) n n' j e
met_twice (k ∷ a) b (Some i) n n' j e = e

pub met_past : (a b : List ℕ) (one : FoundSlot) (n n' : ℕ) (j : Slot) (i : FoundSlot) → met one a n ≡ Continue (j, i) → (met one (a ++ b) n' ≡ met i b n') × (j.0 ≡ n)
unfolding met
met_past [] b one n n' j i e =
    let z : ◌≡◌ {A = Slot × FoundSlot} (record { 0 = n }, one) (j, i) = cc in
    (ap (λ (v : Slot × FoundSlot). met v.1 b n') z, sym (ap (λ (v : Slot × FoundSlot). v.0.0) z))
met_past (k ∷ a) b None n n' j i e = met_past a b (Some (record { 0 = k })) n n' j i e
met_past (k ∷ a) b (Some f) n n' j i e = absurd (twice_is (record { 0 = k }) j i e)

-- ---- a record's own match

held_is : (v : FoundSlot) (k : ℕ) → held v ≡ some k → v ≡ Some (record { 0 = k })
held_is None k e = absurd (none≢some e)
held_is (Some s) k e = ap (λ (i : ℕ). Some (record { 0 = i })) (some_is e)

held_none : (v : FoundSlot) → held v ≡ none → v ≡ None
held_none None e = refl
held_none (Some s) e = absurd (none≢some (sym e))

module _ (k : ℕ) (one me : FoundSlot) (rest : List ℕ) (n : ℕ) where
  own_twice : (b : Bool) → held me ≡ cond b (some k) none → is_some one ≡ true → is_some me ≡ true → met one (cond b (k ∷ rest) rest) n ≡ Break (record { 0 = k })
  unfolding met
  own_twice true e l h = go one l
    where
      go : (i : FoundSlot) → is_some i ≡ true → met i (k ∷ rest) n ≡ Break (record { 0 = k })
      go None l = absurd (true≢false (sym l))
      go (Some s) l = refl
  own_twice false e l h = absurd (true≢false (sym h ∙ ap is_some (held_none me e)))

  own_on : (b : Bool) → held me ≡ cond b (some k) none → (is_some one && is_some me) ≡ false → met one (cond b (k ∷ rest) rest) n ≡ met (option_or one me) rest n
  unfolding met
  own_on true e h = rw (held_is me k e) (go one (rw (held_is me k e) at h))
    where
      go : (i : FoundSlot) → (is_some i && true) ≡ false → met i (k ∷ rest) n ≡ met (option_or i (Some (record { 0 = k }))) rest n
      go None h = refl
      go (Some s) h = absurd (true≢false h)
  own_on false e h = rw (held_none me e) (go one)
    where
      go : (i : FoundSlot) → met i rest n ≡ met (option_or i None) rest n
      go None = refl
      go (Some s) = refl

-- ---- nothing left to look for

module _ (name : ℕ → List ℕ) (kind : ℕ → Kind) (short : Bool) where
  pub matched_nothing : (f : Forest ℕ) (role : Role) → matched name kind short role none f ≡ []
  unfolding matched
  matched_nothing empty role = refl
  matched_nothing (node k f g) role =
      rw (in_nothing (short && skipped role (kind k)), matched_nothing f (first (kind k)), matched_nothing g (after role))
    where
      in_nothing : (b : Bool) → inside b none (name k) ≡ none
      in_nothing true = refl
      in_nothing false = refl

  nothing_met : (role : Role) (left : Option (List ℕ)) (one : FoundSlot) (p : Part) (k : ℕ) → p ≡ nothing k → Continue ((record { 0 = k }), one) ≡ meeting name kind short role left one p
  unfolding matched met meeting
  nothing_met role left one p k e = rw e

  -- ---- the loop over the siblings; W is the whole answer

  module _ (kids : ℕ → ℕ) (x : List ℕ) (n lv c k : ℕ) (role : Role) (pos : ℕ) (one : FoundSlot) where
    meet_out : (j : ℕ) → length x < pos → j ≡ (walk kids n lv c k).next → Continue ((record { 0 = j }), one) ≡ meeting name kind short role (left_at (folded x) pos) one (walk kids n lv c k)
    unfolding meeting met
    meet_out j l ej = rw (left_out (folded x) pos (omega (arith, folded_length x)), matched_nothing (walk kids n lv c k).trees role, ej)

    meet_deep : lv ≡ 0 → Continue ((record { 0 = k }), one) ≡ meeting name kind short role (left_at (folded x) pos) one (walk kids n lv c k)
    meet_deep e = nothing_met role (left_at (folded x) pos) one (walk kids n lv c k) k (walk_deep kids n lv c k e)

    module _ (W : Met) (eW : W ≡ meeting name kind short role (left_at (folded x) pos) one (walk kids n lv c k)) where
      -- where nothing can match, the levels are at their end, or the slots are
      pub leave_over : (j : ℕ) → (length x < pos) ⊎ (((pos ≤ length x) × (lv ≡ 0)) ⊎ ((pos ≤ length x) × (lv ≡ 0 → ⊥) × (n ≤ k))) → j ≡ (walk kids n lv c k).next → Continue ((record { 0 = j }), one) ≡ W
      leave_over j (inl l) ej = meet_out j l ej ∙ sym eW
      leave_over j (inr (inl e)) ej = rw (ej ∙ ap (λ (p : Part). p.next) (walk_deep kids n lv c k e.1)) (meet_deep e.1) ∙ sym eW
      leave_over j (inr (inr l)) ej = rw (ej ∙ ap (λ (p : Part). p.next) (walk_past kids n lv c k l.2)) (nothing_met role (left_at (folded x) pos) one (walk kids n lv c k) k (walk_past kids n lv c k l.2)) ∙ sym eW

      pub leave_done : c ≤ 0 → Continue ((record { 0 = k }), one) ≡ W
      leave_done l = nothing_met role (left_at (folded x) pos) one (walk kids n lv c k) k (walk_none kids n lv c k (omega arith)) ∙ sym eW

      module _ (el : lv ≡ 0 → ⊥) (ec : 0 < c) (l : k < n) where
        abbrev inside_part : Part
        inside_part = walk kids n (lv - 1) (kids k) (k + 1)

        abbrev rest : Part
        rest = walk kids n lv (c - 1) inside_part.next

        abbrev inner : List ℕ
        inner = matched name kind short (first (kind k)) (inside (short && skipped role (kind k)) (left_at (folded x) pos) (name k)) inside_part.trees

        abbrev others : List ℕ
        others = matched name kind short (after role) (left_at (folded x) pos) rest.trees

        whole : W ≡ met one (cond (left_is (left_at (folded x) pos) (name k)) (k ∷ (inner ++ others)) (inner ++ others)) rest.next
        unfolding meeting matched
        whole = eW ∙ ap (meeting name kind short role (left_at (folded x) pos) one) (walk_in kids n lv c k (kids k) el (λ z. omega arith) l refl)

        -- A record without members whose name is not as long as what is left.
        pub turn_miss : (nm : List ℕ) (m : ℕ) (y : Bool) (nr : Role) → name k ≡ folded nm → m ≡ kids k → pos ≤ length x → y ≡ (eqb m 0 && not (eqb (length nm) (length x - pos))) → y ≡ true → nr ≡ after role → W ≡ meeting name kind short nr (left_at (folded x) pos) one (walk kids n lv (c - 1) (k + 1))
        unfolding meeting matched
        turn_miss nm m y nr ek em q ey t en =
            let h = both (eqb m 0) (not (eqb (length nm) (length x - pos))) (sym ey ∙ t) in
            let d : length (folded nm) ≡ length (drop pos (folded x)) → ⊥ =
            λ z. eqb-false (length nm) (length x - pos) (not-true _ h.1) (sym (folded_length nm) ∙ z ∙ length-drop pos (folded x) ∙ ap (λ (v : ℕ). v - pos) (folded_length x)) in
            let e : inside_part ≡ nothing (k + 1) = walk_none kids n (lv - 1) (kids k) (k + 1) (sym em ∙ eqb-true m 0 h.0) in
            let f : left_is (left_at (folded x) pos) (name k) ≡ false =
            ap (λ (o : Option (List ℕ)). left_is o (name k)) (left_in (folded x) pos (omega (arith, folded_length x))) ∙ ap (λ (v : List ℕ). same v (drop pos (folded x))) ek ∙ sym (same_apart (folded nm) (drop pos (folded x)) d) in
            whole ∙ rw (f, e, en)

        module _ (me : FoundSlot) (two : Bool) (em : held me ≡ own (left_at (folded x) pos) (name k) k) (eb : two ≡ (is_some one && is_some me)) where
          -- A second match.
          pub turn_twice : two ≡ true → Break (record { 0 = k }) ≡ W
          turn_twice q =
              let h = both (is_some one) (is_some me) (sym eb ∙ q) in
              sym (whole ∙ own_twice k one me (inner ++ others) rest.next (left_is (left_at (folded x) pos) (name k)) em h.0 h.1)

          module _ (i : FoundSlot) (q : two ≡ false) (ei : i ≡ option_or one me) where
            onward : W ≡ met i (inner ++ others) rest.next
            onward = whole ∙ rw ei (own_on k one me (inner ++ others) rest.next (left_is (left_at (folded x) pos) (name k)) em (sym eb ∙ q))

            -- Nothing is inside a leaf.
            pub turn_leaf : (m : ℕ) (nr : Role) → m ≡ kids k → m ≡ 0 → nr ≡ after role → W ≡ meeting name kind short nr (left_at (folded x) pos) i (walk kids n lv (c - 1) (k + 1))
            unfolding meeting matched
            turn_leaf m nr ek z en =
                let e : inside_part ≡ nothing (k + 1) = walk_none kids n (lv - 1) (kids k) (k + 1) (sym ek ∙ z) in
                onward ∙ rw (e, en)

            -- The last of a row: what is inside it is all that is left.
            pub turn_down : (m : ℕ) → m ≡ kids k → (rl : Role) (deep : ℕ) → rl ≡ first (kind k) → left_at (folded x) deep ≡ inside (short && skipped role (kind k)) (left_at (folded x) pos) (name k) → c ≡ 1 → W ≡ meeting name kind short rl (left_at (folded x) deep) i (walk kids n (lv - 1) m (k + 1))
            unfolding meeting matched
            turn_down m ek rl deep er ed e1 =
                let e : rest ≡ nothing inside_part.next = walk_none kids n lv (c - 1) inside_part.next (omega arith) in
                onward ∙ rw (e, append-nil inner, ek, er, ed)

            module _ (m : ℕ) (ek : m ≡ kids k) (rl : Role) (deep : ℕ) (er : rl ≡ first (kind k)) (ed : left_at (folded x) deep ≡ inside (short && skipped role (kind k)) (left_at (folded x) pos) (name k)) (w : Met) (ew : w ≡ meeting name kind short rl (left_at (folded x) deep) i (walk kids n (lv - 1) m (k + 1))) where
              inner_met : w ≡ met i inner inside_part.next
              unfolding meeting
              inner_met = ew ∙ rw (ek, er, ed)

              pub turn_in : (j : Slot) → w ≡ Break j → Break j ≡ W
              turn_in j e = sym (onward ∙ met_twice inner others i inside_part.next rest.next j (sym inner_met ∙ e))

              -- The walk goes on behind the record.
              pub turn_further : (j : Slot) (v : FoundSlot) → w ≡ Continue (j, v) → k < j.0
              turn_further j v e =
                  let z = met_past inner others i inside_part.next rest.next j v (sym inner_met ∙ e) in
                  let y = (filled kids n (lv - 1) (kids k) (k + 1) (omega arith)).count in
                  omega (arith, z.1)

              pub turn_on : (j : Slot) (v : FoundSlot) (nr : Role) → w ≡ Continue (j, v) → nr ≡ after role → W ≡ meeting name kind short nr (left_at (folded x) pos) v (walk kids n lv (c - 1) j.0)
              unfolding meeting
              turn_on j v nr e en =
                  let z = met_past inner others i inside_part.next rest.next j v (sym inner_met ∙ e) in
                  onward ∙ z.0 ∙ rw (z.1, en)
