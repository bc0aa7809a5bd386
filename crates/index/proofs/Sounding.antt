-- The three tests in order are `sound`: the chain of the paper stops where a test was refused, and goes on where it was fine. Each
-- test writes rows of its own, so what the ones before left is still there.
use mathlib.Core.Path.{◌≡◌, sym, ap, ◌∙◌}
use mathlib.Core.Bool.{not}
use mathlib.Core.List.{List, []}
use Prim.Native.Nat.{ℕ, ◌<◌}
use native.Mathlib.Omega.{arith}
use lib.Dec.{eqb}
use Rattle.paper.specs.Answer.{Answer, ◌>>=◌, fault, place_of, repeated, same}
use Rattle.paper.specs.Lists.{id_list}
use Rattle.paper.specs.Rows.{look_id}
use Rattle.paper.specs.Sound.{identifies, sound}
use Rattle.record.specs.declared.Refusal.{Refusal}
use Rattle.record.specs.Answers.{Check}
use Rattle.std.specs.Prelude.{Ok, Err}
use Rattle.record.specs.Says.{tested, checked}
use Rattle.record.proofs.Testing.{tested_fault, chain_goes, chain_stops}
use Rattle.record.specs.Trees.{Trees}
use Rattle.plan.specs.Plan.{kids_in}
use Rattle.plan.specs.Table.{sources, numbers, members, PlanIn, fields_in}
use Rattle.plan.proofs.Standing.{plan_sources}
use Rattle.index_ids.specs.Ids.{ids_in, rule_7}
use Rattle.index_ids.specs.Chain.{Cleared}
use Rattle.index_ids.specs.Table.{row, ups_in, lens_in, tags_in, name_heads, Rooms, Fresh}
use Rattle.index_ids.specs.Path.{IdsChained, IndexedIn}
use Rattle.index_ids.proofs.Tables.{within_both, within_wider}
use Rattle.index_ids.proofs.Paths.{rows_kept}
use Rattle.index_identifiers.specs.Nine.{rule_9}
use Rattle.plan.specs.Walk.{walk, trees_of}
use Rattle.index_names.specs.Full.{fulls}
use Rattle.plan.specs.Named.{name_in, Sources}
use Rattle.index_names.specs.Told.{Raised, Spelt, Tagged}
use Rattle.plan.specs.Named.{names_in, SourcesIn}
use Rattle.plan.specs.Walk.{walk_in}
use Rattle.index_names.specs.Table.{MarkedIn}
use Rattle.index_full_names.specs.Names.{rule_8}
use Rattle.index_full_names.specs.Filed.{UnequalIn}
use Rattle.index_names.proofs.Rows.{plan_ids, plan_names}
use Rattle.index_names.proofs.Telling.{ups_told, names_told, tags_told, fulls_are}
use Rattle.index.specs.Index.{NamesIndexed, Indexing}
use Rattle.plan.specs.declared.PlanRows.{PlanRows}

-- ---- 8

pub names_marked : (l : Trees) (xs : List ℕ) (kids : ℕ → ℕ) (m r : ℕ) (old mid : List (List ℕ)) → Sources l xs m → Rooms old → Cleared (name_heads old) → MarkedIn (name_in l xs) (walk kids m 16 m 0) 0 0 0 0 old mid r → Spelt l xs m (ups_in mid) (lens_in mid) × (Tagged l xs m (ups_in mid) (tags_in mid) × (Rooms mid × Cleared (name_heads mid)))
names_marked l xs kids m r old mid S R z w = (
  names_told l xs kids m r _ _ _ _ _ _ (R.wide 3 (omega arith)) (R.wide 4 (omega arith)) (R.wide 5 (omega arith)) S w.marked,
  (tags_told l xs kids m r _ _ _ _ _ _ (R.wide 3 (omega arith)) (R.wide 4 (omega arith)) (R.wide 5 (omega arith)) S w.marked, (w.within.rooms R, rw (w.within.beyond 6 (omega arith)) z)),
)

pub names_indexed : (l : Trees) (plan : PlanRows) (m list r : ℕ) (c : Check) (old mid new : List (List ℕ)) → SourcesIn l plan m → Rooms old → Cleared (name_heads old) → MarkedIn (names_in l plan) (walk_in plan m 16 m 0) 0 0 0 0 old mid r → UnequalIn l plan m list c mid new → NamesIndexed l plan m list c old new
unfolding rule_8
names_indexed l plan m list r c old mid new S R z w u =
    let q : (i : ℕ) → i < 6 → row new i ≡ row mid i = u.within.below in
    let kids = kids_in (members plan) in
    let h = names_marked l (sources plan) kids m r old mid S R z w in
    let up : Raised (members plan) m (ups_in mid) = record { above = ups_told l (sources plan) kids m r _ _ _ _ _ _ (R.wide 3 (omega arith)) (R.wide 4 (omega arith)) (R.wide 5 (omega arith)) S w.marked } in
    record {
      answer = u.answer ∙ ap (λ z. tested 8 list (repeated same [] 0 z)) (fulls_are (names_in l plan) kids m (ups_in mid) up.above);
      within = within_both 3 8 old mid new (within_wider 3 6 3 8 old mid w.within (omega arith) (omega arith)) (within_wider 6 8 3 8 mid new u.within (omega arith) (omega arith));
      raised = rw (q 3 (omega arith)) up;
      spelt = rw (q 3 (omega arith), q 4 (omega arith)) h.0;
      tagged = rw (q 3 (omega arith), q 5 (omega arith)) h.1.0;
      filed = u.index;
    }

-- ---- 7 to 9: `search sounding`

-- The test of the names leaves the paths of the ids.
pub ids_chained : (l : Trees) (plan : PlanRows) (m list : ℕ) (a b : Check) (old mid new : List (List ℕ)) → IndexedIn (numbers plan) m list a old mid → a ≡ (Ok tt) → NamesIndexed l plan m list b mid new → IdsChained (numbers plan) new m
ids_chained l plan m list a b old mid new ea fa eb = rows_kept (numbers plan) mid new m eb.within.below (ea.index fa)

module _ (l : Trees) (plan : PlanRows) (m list : ℕ) (identifiers : List ℕ) (p : PlanIn l plan m) where
  nine : Answer (Unit {0})
  nine = fault 9 5 (place_of (λ i. not (identifies (look_id (fields_in l plan m) i))) 0 (id_list identifiers))

  eight : Answer (Unit {0})
  eight = fault 8 list (repeated same [] 0 (fulls (names_in l plan) [] (trees_of (kids_in (members plan)) m))) >>= λ _. nine

  sound_is : sound list (fields_in l plan m) (id_list identifiers) ≡ (fault 7 list (repeated eqb [] 0 (ids_in (numbers plan) m)) >>= λ _. eight)
  unfolding sound nine eight
  sound_is =
      let xs = sources plan in
      let is = numbers plan in
      let ks = members plan in
      rw (plan_ids l xs is ks m p, plan_names l xs is ks m p)

  module _ (a : Check) (old mid : List (List ℕ)) (F : Fresh old) (ea : IndexedIn (numbers plan) m list a old mid) where
    pub ids_rooms : Rooms mid
    ids_rooms = ea.within.rooms F.rooms

    -- the test of the ids leaves the heads of the names
    pub ids_beside : Cleared (name_heads mid)
    ids_beside = rw (ea.within.beyond 6 (omega arith)) F.names

    pub stop_7 : (x : Refusal) → a ≡ Err x → Indexing l plan m list identifiers (Err x) old mid
    unfolding rule_7 checked
    stop_7 x d =
        record {
          answer = sym (ap checked (sound_is ∙ chain_stops 7 list (repeated eqb [] 0 (ids_in (numbers plan) m)) a (λ _. eight) x ea.answer d));
          index = λ e. absurd (let z : ◌≡◌ {A = ℕ} 0 1 = cc in omega arith);
          rooms = ids_rooms;
        }

    module _ (fa : a ≡ (Ok tt)) (b : Check) (new : List (List ℕ)) (eb : NamesIndexed l plan m list b mid new) where
      past_7 : sound list (fields_in l plan m) (id_list identifiers) ≡ eight
      unfolding rule_7
      past_7 = sound_is ∙ chain_goes 7 list (repeated eqb [] 0 (ids_in (numbers plan) m)) a (λ _. eight) ea.answer fa

      pub stop_8 : (x : Refusal) → b ≡ Err x → Indexing l plan m list identifiers (Err x) old new
      unfolding eight checked
      stop_8 x d =
          record {
            answer = sym (ap checked (past_7 ∙ chain_stops 8 list (repeated same [] 0 (fulls (names_in l plan) [] (trees_of (kids_in (members plan)) m))) b (λ _. nine) x eb.answer d));
            index = λ e. absurd (let z : ◌≡◌ {A = ℕ} 0 1 = cc in omega arith);
            rooms = eb.within.rooms ids_rooms;
          }

      pub all_sound : (c : Check) → b ≡ (Ok tt) → c ≡ rule_9 identifiers (fields_in l plan m) → Indexing l plan m list identifiers c old new
      unfolding eight nine rule_9
      all_sound c fb ec =
          let R' = eb.within.rooms ids_rooms in
          record {
            answer = ec ∙ tested_fault 9 5 _ ∙ sym (ap checked (past_7 ∙ chain_goes 8 list (repeated same [] 0 (fulls (names_in l plan) [] (trees_of (kids_in (members plan)) m))) b (λ _. nine) eb.answer fb));
            index = λ e. record { rooms = R'; by_id = ids_chained l plan m list a b old mid new ea fa eb; raised = eb.raised; spelt = eb.spelt; tagged = eb.tagged; by_name = eb.filed fb };
            rooms = R';
          }

pub ruleset sounding = (plan_sources, ids_rooms, ids_beside, stop_7, stop_8, all_sound)
