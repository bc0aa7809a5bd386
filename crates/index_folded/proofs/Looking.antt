-- What the walks met is what the paper keeps, so the answer is the paper's. `search telling`, `search looking`, `search finding`.
use mathlib.Core.Path.{◌≡◌, refl, sym, ap, subst, ◌∙◌}
use mathlib.Core.Bool.{Bool, true, false, not, cond, true≢false}
use mathlib.Core.List.{List, [], ◌∷◌}
use mathlib.Core.Option.{some}
use Prim.Native.Nat.{ℕ, ◌<◌, ◌≤◌}
use native.Mathlib.Omega.{arith}
use borrow.Author.Tests.{not-true, not-false}
use Rattle.paper.specs.declared.Kind.{Kind}
use Rattle.paper.specs.declared.Role.TheVariants.{Member}
use Rattle.paper.specs.Answer.{◌>>=◌, among}
use Rattle.paper.specs.Entries.{read, find_folded}
use Rattle.paper.specs.Field.{Field}
use Rattle.paper.specs.Folded.{folded, matching, or_short, only, look_folded}
use Rattle.paper.specs.Forest.{Forest, mapped}
use Rattle.paper.specs.Rows.{Row, top, rows}
use Rattle.laws.proofs.Folding.{folded_dots}
use Rattle.record.specs.declared.Slot.{Slot}
use Rattle.record.specs.declared.Refusal.{Refusal}
use Rattle.record.specs.Answers.{Check, Found, FoundSlot, Sought}
use Rattle.std.specs.Prelude.{Ok, Err, Some, None}
use Rattle.std.proofs.Common.{Continue, Break}
use Rattle.record.specs.Says.{found_row, looked}
use Rattle.record.proofs.Testing.{refused_as}
use Rattle.record.specs.Trees.{Trees, alone}
use Rattle.plan.specs.Named.{name_in, kind_in}
use Rattle.plan.specs.Plan.{planned_field, kids_in, plan_fields, Plan}
use Rattle.plan.specs.Table.{fields_in}
use Rattle.plan.specs.Walk.{walk, trees_of}
use Rattle.plan.proofs.Standing.{field_in, field_id, plan_is, plan_sources}
use Rattle.plan.proofs.Walks.{all_there, all_numbered}
use Rattle.index_ids.specs.Chain.{Below, held}
use Rattle.index_turns.specs.Turn.{left_at}
use Rattle.index_turns.proofs.Fitting.{left_in}
use Rattle.index.specs.Index.{found_slot}
use Rattle.index.proofs.Opening.{Opened, reading}
use Rattle.index_folded_names.specs.Met.{Met, matched, met, meeting}
use Rattle.index_folded_names.proofs.Matching.{At, done, more, matching_at, All, matched_below, dotless}
use Rattle.index_folded.specs.Told.{is_none, Small, told}
use Rattle.plan.specs.declared.PlanRows.{PlanRows}

-- ---- one function's answer

pub small_second : (w : Met) (k : Slot) → Small w → w ≡ Break k → k.0 < 1024
small_second w k h e = subst Small e h

pub small_one : (w : Met) (p : Slot × FoundSlot) → Small w → w ≡ Continue p → Below p.1
small_one w p h e = subst Small e h

pub tell_second : (ids : List ℕ) (w : Met) (k : Slot) → w ≡ Break k → Err (record { number = 21; list = 0; place = k.0 }) ≡ told ids w
unfolding told
tell_second ids w k e = rw e

pub tell_one : (ids : List ℕ) (w : Met) (p : Slot × FoundSlot) (f : Found) → w ≡ Continue p → f ≡ found_slot ids (held p.1) → Ok f ≡ told ids w
unfolding told
tell_one ids w p f e h = rw (e, h)

pub ruleset telling = (small_second, small_one, tell_second, tell_one)

-- ---- lists of matches

none_is : (ks : List ℕ) (n : ℕ) → is_none (met None ks n) ≡ true → ks ≡ []
unfolding met
none_is [] n e = refl
none_is (k ∷ []) n e = absurd (true≢false (sym e))
none_is (k ∷ j ∷ ks) n e = absurd (true≢false (sym e))

below_one : (k : ℕ) → k < 1024 → Below (Some (record { 0 = k }))
below_one k l = record { small = λ t z. let y : record { 0 = k } ≡ t = cc in subst (λ (v : Slot). v.0 < 1024) y l }

small_met : (ks : List ℕ) (b n : ℕ) → b ≤ 1024 → All b ks → Small (met None ks n)
unfolding met
small_met [] b n l h = record { small = λ t z. absurd (let y : ◌≡◌ {A = ℕ} 0 1 = cc in omega arith) }
small_met (k ∷ []) b n l h = below_one k (let z = h.0 in omega arith)
small_met (k ∷ j ∷ ks) b n l h = let z = h.1.0 in omega arith

module _ (l : Trees) (xs is ks : List ℕ) (m : ℕ) (p : Plan l xs is ks m) (x : List ℕ) where
  abbrev fld : ℕ → Field
  fld k = field_in l xs is k

  abbrev places : Forest ℕ
  places = trees_of (kids_in ks) m

  abbrev tree : Forest Field
  tree = plan_fields l xs is ks m

  abbrev slots : Bool → List ℕ
  slots short = matched (λ k. folded (name_in l xs k)) (kind_in l xs) short Member (some (folded x)) places

  abbrev walked : Bool → Met
  walked short = meeting (λ k. folded (name_in l xs k)) (kind_in l xs) short Member (left_at (folded x) 0) None (walk (kids_in ks) m 16 m 0)

  walked_is : (short : Bool) → walked short ≡ met None (slots short) (walk (kids_in ks) m 16 m 0).next
  unfolding meeting
  walked_is short = rw (left_in (folded x) 0 (omega arith))

  pub walked_small : (short : Bool) (w : Met) → w ≡ walked short → Small w
  walked_small short w e =
      subst Small (sym (e ∙ walked_is short))
      (small_met (slots short) m _ p.few (matched_below (λ k. folded (name_in l xs k)) (kind_in l xs) short m places 0 Member (some (folded x)) (all_numbered (kids_in ks) m) (omega (arith, all_there (kids_in ks) m))))

  abbrev kept : Bool → List Row
  kept short = matching (λ r. cond short r.short r.full) x (rows top tree)

  parts : ◌≡◌ {A = (ℕ → List ℕ) × (ℕ → Kind)} (λ k. (fld k).name, λ k. (fld k).kind) (name_in l xs, kind_in l xs)
  unfolding name_in kind_in planned_field
  parts = refl

  kept_at : (short : Bool) → At fld (kept short) (slots short)
  kept_at short =
      rw (plan_is l xs is ks m p)
      (subst (λ (s : (ℕ → List ℕ) × (ℕ → Kind)). At fld (matching (λ r. cond short r.short r.full) x (rows top (mapped fld places))) (matched (λ k. folded (s.0 k)) s.1 short Member (some (folded x)) places)) parts
      (matching_at fld short x places top refl refl (all_numbered (kids_in ks) m)))

  told_is : (rs : List Row) (ss : List ℕ) (n : ℕ) → At fld rs ss → told is (met None ss n) ≡ looked (only rs)
  unfolding told met looked found_row found_slot
  told_is [] (k ∷ ss) n x3 = elim x3 [ ]
  told_is (r ∷ rs) [] n x4 = elim x4 [ ]
  told_is [] [] n done = refl
  told_is (r ∷ rs) (k ∷ ss) n (more e f a) = go rs ss a
    where
      go : (rs : List Row) (ss : List ℕ) → At fld rs ss → told is (met (Some (record { 0 = k })) ss n) ≡ looked (only (r ∷ rs))
      go [] (j ∷ ss) x7 = elim x7 [ ]
      go (q ∷ rs) [] x8 = elim x8 [ ]
      go [] [] done = rw (e, f, field_id l xs is k)
      go (q ∷ rs) (j ∷ ss) (more g h a) = rw g

  at_none : (rs : List Row) (ss : List ℕ) → At fld rs ss → ss ≡ [] → rs ≡ []
  at_none [] (k ∷ ss) x5 e = elim x5 [ ]
  at_none (r ∷ rs) [] x5 e = elim x5 [ ]
  at_none [] [] done e = refl
  at_none (r ∷ rs) (k ∷ ss) (more d f a) e = absurd (let z : ◌≡◌ {A = ℕ} 0 1 = cc in omega arith)

  answers : (short : Bool) → told is (walked short) ≡ looked (only (kept short))
  answers short = ap (told is) (walked_is short) ∙ told_is (kept short) (slots short) _ (kept_at short)

  module _ (w : Met) (ew : w ≡ walked false) (b : Bool) (eb : b ≡ is_none w) where
    -- A full name matches.
    pub full_told : (r : Sought) → not b ≡ true → r ≡ told is w → r ≡ looked (look_folded tree x)
    unfolding look_folded met
    full_told r q er = er ∙ ap (told is) ew ∙ answers false ∙ go (kept false) (slots false) (kept_at false) (sym (ap is_none (ew ∙ walked_is false)) ∙ sym eb ∙ not-true b q)
      where
        go : (rs : List Row) (ss : List ℕ) → At fld rs ss → is_none (met None ss (walk (kids_in ks) m 16 m 0).next) ≡ false → looked (only rs) ≡ looked (only (or_short rs (kept true)))
        go [] (k ∷ ss) x5 e = elim x5 [ ]
        go (r ∷ rs) [] x5 e = elim x5 [ ]
        go [] [] done e = absurd (let z : ◌≡◌ {A = ℕ} 0 1 = cc in omega arith)
        go (r ∷ rs) (k ∷ ss) (more d f a) e = refl

    no_full : not b ≡ false → slots false ≡ []
    no_full q = none_is (slots false) _ (sym (ap is_none (ew ∙ walked_is false)) ∙ sym eb ∙ not-false b q)

    to_short : not b ≡ false → looked (only (kept true)) ≡ looked (look_folded tree x)
    unfolding look_folded
    to_short q = ap (λ rs. looked (only (or_short rs (kept true)))) (sym (at_none (kept false) (slots false) (kept_at false) (no_full q)))

    -- No full name matches, and without a dot no short name does.
    pub root_told : (d : Bool) (r : Sought) → not b ≡ false → d ≡ among 46 x → not d ≡ true → r ≡ told is w → r ≡ looked (look_folded tree x)
    root_told d r q ed t er =
        let s : slots true ≡ [] = dotless (λ k. folded (name_in l xs k)) (kind_in l xs) places (folded x) (folded_dots x ∙ sym ed ∙ not-true d t) (no_full q) in
        er ∙ ap (told is) (ew ∙ walked_is false) ∙ ap (λ z. told is (met None z (walk (kids_in ks) m 16 m 0).next)) (no_full q ∙ sym s)
        ∙ sym (ap (told is) (walked_is true)) ∙ answers true ∙ to_short q

    pub short_told : (v : Met) (r : Sought) → not b ≡ false → v ≡ walked true → r ≡ told is v → r ≡ looked (look_folded tree x)
    short_told v r q ev er = er ∙ ap (told is) ev ∙ answers true ∙ to_short q

pub ruleset looking = (plan_sources, walked_small, full_told, root_told, short_told)

-- ---- the entry

module _ (s pool x : List ℕ) where
  pub folded_refused : (y : Refusal) → read s pool ≡ refused_as y → Err y ≡ looked (find_folded s pool x)
  unfolding find_folded looked ◌>>=◌
  folded_refused y e = rw e

  pub folded_looked : (plan : PlanRows) (m : ℕ) (index : List (List ℕ)) (r : Check) → Opened s pool r plan m index → (h : Sought) → r ≡ (Ok tt) → h ≡ looked (look_folded (fields_in (alone s pool) plan m) x) → h ≡ looked (find_folded s pool x)
  unfolding find_folded ◌>>=◌
  folded_looked plan m index r o h q e = e ∙ sym (ap looked (ap (λ t. t >>= λ u. look_folded u x) (o.tree q)))

pub ruleset finding = (reading, folded_refused, folded_looked)
