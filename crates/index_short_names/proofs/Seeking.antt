-- The walk that looks for a short name: each turn of the loop over siblings leaves what is to be answered to the rest of the row.
use mathlib.Core.Path.{◌≡◌, refl, sym, ap, ◌∙◌}
use mathlib.Core.Bool.{Bool, true, false, cond}
use mathlib.Core.List.{List}
use mathlib.Core.Option.{Option, none, some}
use Prim.Native.Nat.{ℕ, ◌+◌, ◌-◌, ◌<◌, ◌≤◌}
use native.Mathlib.Omega.{arith}
use lib.ListN.{length, drop}
use Rattle.paper.specs.declared.Kind.{Kind}
use Rattle.paper.specs.declared.Role.{Role}
use Rattle.paper.specs.Answer.{or_else}
use Rattle.paper.specs.Forest.{Forest, empty, node}
use Rattle.paper.specs.Field.{first, after}
use Rattle.paper.specs.Layout.{Part, nothing, before}
use Rattle.paper.specs.Rows.{skipped, late}
use Rattle.laws.proofs.Basics.{none≢some, or_else_none}
use Rattle.plan.specs.Walk.{walk}
use Rattle.plan.proofs.Walks.{walk_none, walk_deep, walk_past, walk_in}
use Rattle.record.specs.declared.Slot.{Slot}
use Rattle.record.specs.Trees.{Trees}
use Rattle.plan.specs.Named.{names_in, kinds_in}
use Rattle.record.specs.Answers.{FoundSlot}
use Rattle.std.specs.Prelude.{Some, None}
use Rattle.std.specs.Option.{is_some, option_or}
use Rattle.std.proofs.Common.{Continue, Break}
use Rattle.index_ids.specs.Chain.{held}
use Rattle.index_turns.specs.declared.Fit.{Fit}
use Rattle.index_turns.specs.declared.Inside.{Inside}
use Rattle.index_turns.specs.Turn.{spelt, left_is, left_at, fits, fit_number, inside, own, own_slot, Entered}
use Rattle.index_turns.proofs.Fitting.{left_out, left_inside, mine}
use Rattle.index_short_names.specs.declared.Turn.{Turn}
use Rattle.index_short_names.specs.Seek.{Sighting, Turned, seek_in, outcome, sighting}
use Rattle.plan.specs.declared.PlanRows.{PlanRows}

-- ---- slots that wait

held_or : (x y : FoundSlot) → held (option_or x y) ≡ or_else (held x) (held y)
held_or None y = refl
held_or (Some s) y = refl

-- ---- the walk

pub past_is : (o : Option ℕ) (m : ℕ) (j : Slot) → Continue j ≡ outcome o m → (o ≡ none) × (j.0 ≡ m)
unfolding outcome
past_is none m j e = let z : j ≡ record { 0 = m } = cc in (refl, ap (λ (x : Slot). x.0) z)
past_is (some k) m j e = absurd (let z : ◌≡◌ {A = ℕ} 0 1 = cc in omega arith)

pub found_is : (o : Option ℕ) (m : ℕ) (j : Slot) → Break j ≡ outcome o m → o ≡ some j.0
unfolding outcome
found_is none m j e = absurd (let z : ◌≡◌ {A = ℕ} 0 1 = cc in omega arith)
found_is (some k) m j e = let z : j ≡ record { 0 = k } = cc in ap some (sym (ap (λ (x : Slot). x.0) z))

-- The step, from its two halves.
pub turned : (l : Trees) (plan : PlanRows) (role : Role) (x : List ℕ) (pos k : ℕ) (f : Fit) (me : FoundSlot) (i : Inside) → pos ≤ length x → fit_number f ≡ fits (spelt false (names_in l plan k)) (drop pos (spelt false x)) → Entered l plan true role (fit_number f) x pos k i → me ≡ own_slot (fit_number f) k → Turned (names_in l plan) (kinds_in l plan) role x pos k (record { role = i.role; pos = i.pos; me = me })
unfolding spelt
turned l plan role x pos k f me i q ef ei em =
    record {
      members = ei.members;
      left = left_inside (names_in l plan k) x pos (fit_number f) false q ef (skipped role (kinds_in l plan k)) i.pos ei.goes;
      mine = mine (names_in l plan k) x pos (fit_number f) false q ef k me em;
    }

module _ (name : ℕ → List ℕ) (kind : ℕ → Kind) where
  -- with nothing left to look for, only what waits is found
  pub seek_nothing : (f : Forest ℕ) (role : Role) (wait : Option ℕ) → seek_in name kind role none wait f ≡ wait
  unfolding seek_in
  seek_nothing empty role wait = refl
  seek_nothing (node k f g) role wait =
      rw (in_nothing (skipped role (kind k)), seek_nothing f (first (kind k)) none, or_else_none wait, seek_nothing g (after role) wait) (both (late role))
    where
      in_nothing : (b : Bool) → inside b none (name k) ≡ none
      in_nothing true = refl
      in_nothing false = refl

      both : (b : Bool) → cond b wait wait ≡ wait
      both true = refl
      both false = refl

  module _ (role : Role) (left : Option (List ℕ)) (wait : Option ℕ) (k : ℕ) (f g : Forest ℕ) where
    abbrev inner : Option ℕ
    inner = seek_in name kind (first (kind k)) (inside (skipped role (kind k)) left (name k)) none f

    node_found : (j : ℕ) → inner ≡ some j → seek_in name kind role left wait (node k f g) ≡ some j
    unfolding seek_in
    node_found j e = rw e

    node_waits : inner ≡ none → late role ≡ true → seek_in name kind role left wait (node k f g) ≡ seek_in name kind (after role) left (or_else wait (own left (name k) k)) g
    unfolding seek_in
    node_waits e l = rw (e, l)

    node_own : inner ≡ none → late role ≡ false → own left (name k) k ≡ some k → seek_in name kind role left wait (node k f g) ≡ some k
    unfolding seek_in
    node_own e l q = rw (e, l, q)

    node_on : inner ≡ none → late role ≡ false → own left (name k) k ≡ none → seek_in name kind role left wait (node k f g) ≡ seek_in name kind (after role) left wait g
    unfolding seek_in
    node_on e l q = rw (e, l, q)

nothing_sighted : (name : ℕ → List ℕ) (kind : ℕ → Kind) (role : Role) (left : Option (List ℕ)) (wait : Option ℕ) (p : Part) (k : ℕ) (r : Sighting) → p ≡ nothing k → r ≡ outcome wait k → r ≡ sighting name kind role left wait p
unfolding seek_in sighting
nothing_sighted name kind role left wait p k r e h = rw e h

module _ (name : ℕ → List ℕ) (kind : ℕ → Kind) (kids : ℕ → ℕ) (x : List ℕ) (n lv c k : ℕ) (role : Role) (pos : ℕ) (wait : FoundSlot) where
  pub seek_out : (r : Sighting) (j : ℕ) → length x < pos → j ≡ (walk kids n lv c k).next → r ≡ outcome (held wait) j → r ≡ sighting name kind role (left_at x pos) (held wait) (walk kids n lv c k)
  unfolding sighting
  seek_out r j l ej e = rw (left_out x pos l, seek_nothing name kind (walk kids n lv c k).trees role (held wait), ← ej) e

  pub seek_deep : (r : Sighting) → lv ≡ 0 → r ≡ outcome (held wait) k → r ≡ sighting name kind role (left_at x pos) (held wait) (walk kids n lv c k)
  seek_deep r e h = nothing_sighted name kind role (left_at x pos) (held wait) (walk kids n lv c k) k r (walk_deep kids n lv c k e) h

  -- leaving the loop; W is the whole answer
  module _ (W r : Sighting) (eW : W ≡ sighting name kind role (left_at x pos) (held wait) (walk kids n lv c k)) (er : r ≡ outcome (held wait) k) where
    pub leave_past : n ≤ k → r ≡ W
    leave_past l = nothing_sighted name kind role (left_at x pos) (held wait) (walk kids n lv c k) k r (walk_past kids n lv c k l) er ∙ sym eW

    pub leave_done : c ≤ 0 → r ≡ W
    leave_done l = nothing_sighted name kind role (left_at x pos) (held wait) (walk kids n lv c k) k r (walk_none kids n lv c k (omega arith)) er ∙ sym eW

  module _ (m li : ℕ) (t : Turn) (w : Sighting) (el : lv ≡ 0 → ⊥) (ec : 0 < c) (l : k < n) (em : m ≡ kids k) (ei : li ≡ lv - 1) (et : Turned name kind role x pos k t)
      (es : w ≡ sighting name kind t.role (left_at x t.pos) (held None) (walk kids n li m (k + 1))) where
    ew : w ≡ sighting name kind t.role (left_at x t.pos) (held None) (walk kids n (lv - 1) m (k + 1))
    ew = es ∙ rw ei

    abbrev inside_part : Part
    inside_part = walk kids n (lv - 1) m (k + 1)

    abbrev rest : Part
    rest = walk kids n lv (c - 1) (walk kids n (lv - 1) m (k + 1)).next

    whole : walk kids n lv c k ≡ before k inside_part rest
    whole = walk_in kids n lv c k m el (λ z. omega arith) l em

    inner_is : inner name kind role (left_at x pos) (held wait) k inside_part.trees rest.trees ≡ seek_in name kind t.role (left_at x t.pos) none inside_part.trees
    inner_is = rw (et.members, et.left)

    passed : (j : Slot) → w ≡ Continue j → (inner name kind role (left_at x pos) (held wait) k inside_part.trees rest.trees ≡ none) × (j.0 ≡ inside_part.next)
    unfolding sighting outcome
    passed j e = let z = past_is _ _ j (sym e ∙ ew) in (inner_is ∙ z.0, z.1)

    seek_found : (j : Slot) → w ≡ Break j → Break j ≡ sighting name kind role (left_at x pos) (held wait) (walk kids n lv c k)
    unfolding sighting outcome
    seek_found j e =
        let z = found_is _ _ j (sym e ∙ ew) in
        rw (whole, node_found name kind role (left_at x pos) (held wait) k inside_part.trees rest.trees j.0 (inner_is ∙ z))

    seek_waits : (j : Slot) (nr : Role) → w ≡ Continue j → late role ≡ true → nr ≡ after role → sighting name kind nr (left_at x pos) (or_else (held wait) (held t.me)) (walk kids n lv (c - 1) j.0) ≡ sighting name kind role (left_at x pos) (held wait) (walk kids n lv c k)
    unfolding sighting outcome
    seek_waits j nr q lt en =
        let z = passed j q in
        rw (z.1, en, et.mine) (sym (rw (whole, node_waits name kind role (left_at x pos) (held wait) k inside_part.trees rest.trees z.0 lt)))

    seek_own : (j : Slot) → w ≡ Continue j → late role ≡ false → is_some t.me ≡ true → Break (record { 0 = k }) ≡ sighting name kind role (left_at x pos) (held wait) (walk kids n lv c k)
    unfolding sighting outcome
    seek_own j q lt p =
        let z = passed j q in
        rw (whole, node_own name kind role (left_at x pos) (held wait) k inside_part.trees rest.trees z.0 lt (sym et.mine ∙ yes))
      where
        go : (v : FoundSlot) (b : Bool) → is_some v ≡ true → held v ≡ cond b (some k) none → held v ≡ some k
        go None b q e = absurd (let z : ◌≡◌ {A = ℕ} 0 1 = cc in omega arith)
        go (Some v) true q e = e
        go (Some v) false q e = absurd (none≢some (sym e))

        yes : held t.me ≡ some k
        yes = go t.me (left_is (left_at x pos) (name k)) p et.mine

    seek_on : (j : Slot) (nr : Role) → w ≡ Continue j → late role ≡ false → is_some t.me ≡ false → nr ≡ after role → sighting name kind nr (left_at x pos) (or_else (held wait) (held t.me)) (walk kids n lv (c - 1) j.0) ≡ sighting name kind role (left_at x pos) (held wait) (walk kids n lv c k)
    unfolding sighting outcome
    seek_on j nr q lt p en =
        let z = passed j q in
        rw (z.1, en, none_mine, or_else_none (held wait)) (sym (rw (whole, node_on name kind role (left_at x pos) (held wait) k inside_part.trees rest.trees z.0 lt (sym et.mine ∙ none_mine))))
      where
        go : (v : FoundSlot) → is_some v ≡ false → held v ≡ none
        go None q = refl
        go (Some v) q = absurd (let z : ◌≡◌ {A = ℕ} 0 1 = cc in omega arith)

        none_mine : held t.me ≡ none
        none_mine = go t.me p

    -- as the loop over the siblings asks them; W is the whole answer, b whether the record waits
    module _ (W : Sighting) (eW : W ≡ sighting name kind role (left_at x pos) (held wait) (walk kids n lv c k)) where
      pub turn_found : (j : Slot) → w ≡ Break j → Break j ≡ W
      turn_found j e = seek_found j e ∙ sym eW

      pub turn_own : (j : Slot) (b : Bool) → w ≡ Continue j → b ≡ late role → b ≡ false → is_some t.me ≡ true → Break (record { 0 = k }) ≡ W
      turn_own j b e eb q h = seek_own j e (sym eb ∙ q) h ∙ sym eW

      -- `s` siblings are left
      pub turn_on : (j : Slot) (v : FoundSlot) (nr : Role) (b : Bool) (s : ℕ) → w ≡ Continue j → b ≡ late role → (b ≡ false → is_some t.me ≡ false) → v ≡ option_or wait t.me → nr ≡ after role → s ≡ c - 1 → W ≡ sighting name kind nr (left_at x pos) (held v) (walk kids n lv s j.0)
      turn_on j v nr b s e eb q ev en es = rw (ev, held_or wait t.me, es) (go b eb q)
        where
          go : (b : Bool) → b ≡ late role → (b ≡ false → is_some t.me ≡ false) → W ≡ sighting name kind nr (left_at x pos) (or_else (held wait) (held t.me)) (walk kids n lv (c - 1) j.0)
          go true f h = eW ∙ sym (seek_waits j nr e (sym f) en)
          go false f h = eW ∙ sym (seek_on j nr e (sym f) (h refl) en)

pub ruleset seeking = (seek_out, seek_deep, leave_past, leave_done)
