-- The entry is 1 to 6, then 7 to 9, then 18, then the new ids: what each step of the code answers is the paper's.
use mathlib.Core.Path.{◌≡◌, refl, sym, ap, ◌∙◌}
use mathlib.Core.Bool.{Bool, true, false, not, ◌&&◌}
use mathlib.Core.List.{List, [], ◌∷◌, map}
use Prim.Native.Nat.{ℕ, ◌+◌, ◌-◌, ◌/◌, ◌≤◌, ◌<◌}
use native.Mathlib.Omega.{arith}
use borrow.Author.Tests.{not-true, not-false, leb-true, lt-ltb, le-ltb}
use lib.Dec.{leb, ltb}
use lib.ListN.{length}
use Rattle.paper.specs.Answer.{Answer, ok, ◌>>=◌}
use Rattle.paper.specs.Refusals.{roomy, limited}
use Rattle.paper.specs.Forest.{Forest, size}
use Rattle.paper.specs.Field.{Field, kind_of, with_id, highest}
use Rattle.paper.specs.Bytes.{turned, slots}
use Rattle.paper.specs.Lists.{id_list}
use Rattle.paper.specs.Decode.{fields, decode}
use Rattle.paper.specs.Limits.{room, sized_ids}
use Rattle.paper.specs.Renumber.{numbered, renamed, renumber}
use Rattle.paper.specs.Sound.{ids, sound}
use Rattle.paper.specs.Entries.{Result, renumber_entry}
use Rattle.paper.specs.Outcome.{for_records, for_names, for_identifiers, leaves, Answers}
use Rattle.laws.proofs.Basics.{unbind, ok_is, bind_not, passed}
use Rattle.laws.proofs.Identified.{sound_known}
use Rattle.laws.proofs.RoundTrip.{both, length_pool}
use Rattle.laws.proofs.Fitting.{sized_slots, ids_sized, rooms_of}
use Rattle.record.specs.declared.Refusal.{Refusal}
use Rattle.record.specs.Answers.{Check}
use Rattle.std.specs.Prelude.{Ok, Err}
use Rattle.record.specs.Says.{refusal_of, changes}
use Rattle.record.specs.Trees.{alone}
use Rattle.record.proofs.Testing.{checked_ok, checked_refused, refuses}
use Rattle.record_limits.proofs.Within.{ids_most}
use Rattle.tree.specs.Answers.{Shaped}
use Rattle.tree.specs.Says.{decoded}
use Rattle.tree.proofs.Deciding.{decode_ok, decode_refused}
use Rattle.tree_walk.specs.There.{row_of}
use Rattle.tree_walk.proofs.Opening as walk
use Rattle.plan_write.specs.Written.{Written}
use Rattle.plan.specs.Table.{sources, numbers, members, PlanIn, fields_in}
use Rattle.plan.proofs.Standing.{fields_size}
use Rattle.index_ids.specs.Ids.{ids_in}
use Rattle.index.specs.Index.{Readable, BaseIndexed}
use Rattle.index_names.proofs.Rows.{plan_ids}
use Rattle.renumber_id_reassigner.specs.declared.Reassigned.{Reassigned}
use Rattle.renumber_id_reassigner.specs.Numbers.{Room, Given}
use Rattle.renumber_identifiers.specs.Mapped.{Findable, Located, Applicable, Applied}
use Rattle.renumber_identifiers.proofs.Mapping.{located_small, located_bytes}
use Rattle.renumber.specs.Opening.{opened}
use Rattle.renumber.proofs.NewIds.{new_plan, new_fields}
use Rattle.plan.specs.declared.PlanRows.{PlanRows}

-- ---- 1 to 6: `search opening`

module _ (records pool identifiers : List ℕ) (lr ln li : ℕ) where
  module _ (b : Bool) (eb : b ≡ (room lr ln && leb (length identifiers) li)) where
    pub stop_1 : not b ≡ true → Err (refusal_of 1 0 0) ≡ decoded (opened records pool identifiers lr ln li)
    unfolding opened decoded ◌>>=◌
    stop_1 t = rw (← eb, not-true b t)

    module _ (f : not b ≡ false) (z : Bool) (ez : z ≡ sized_ids 64 records pool identifiers) where
      pub stop_2 : not z ≡ true → Err (refusal_of 2 0 0) ≡ decoded (opened records pool identifiers lr ln li)
      unfolding opened decoded ◌>>=◌
      stop_2 t = rw (← eb, not-false b f, ← ez, not-true z t)

      pub go_on : (r : Shaped) → not z ≡ false → r ≡ decoded (decode 0 records pool) → r ≡ decoded (opened records pool identifiers lr ln li)
      unfolding opened ◌>>=◌
      go_on r t e = rw (← eb, not-false b f, ← ez, not-false z t) e

pub ruleset opening = (stop_1, stop_2, go_on)

-- What was passed where there are so many roots.
record Passed (records pool identifiers : List ℕ) (lr ln li c : ℕ) : Type 0 where
  pub rooms : (room lr ln && leb (length identifiers) li) ≡ true
  pub limits : sized_ids 64 records pool identifiers ≡ true
  pub roots : Ok c ≡ decoded (decode 0 records pool)

passes : (records pool identifiers : List ℕ) (lr ln li c : ℕ) (w : Shaped) → w ≡ decoded (opened records pool identifiers lr ln li) → w ≡ Ok c → Passed records pool identifiers lr ln li c
unfolding opened decoded
passes records pool identifiers lr ln li c w e d =
    decode_ok _ (opened records pool identifiers lr ln li) w c e d λ t o q. unbind _ _ o λ _ e₁ a₁. unbind _ _ a₁ λ _ e₂ a₂.
    record { rooms = passed 1 0 0 _ e₁; limits = passed 2 0 0 _ e₂; roots = ap Ok q ∙ sym (ap decoded a₂) }

-- ---- 7 on

-- A refusal leaves the buffers alone.
abbrev Stops : Answer Result → Refusal → (out_records out_names out_identifiers : List ℕ) → Type 0
Stops x y a b c = Answers changes x (for_records a ∷ for_names b ∷ for_identifiers c ∷ []) (Err y) (a ∷ b ∷ c ∷ [])

-- 1 to 6 come first.
opens_first : (a b : Bool) (x : Answer (Forest Field)) (f : Forest Field → Answer Result) → (roomy a >>= λ _. limited b >>= λ _. x >>= f) ≡ ((roomy a >>= λ _. limited b >>= λ _. x) >>= f)
unfolding ◌>>=◌
opens_first false b x f = refl
opens_first true false x f = refl
opens_first true true x f = refl

-- The plan with other ids.
abbrev with_numbers : PlanRows → List ℕ → PlanRows
with_numbers plan new = record { sources = sources plan; numbers = new; members = members plan }

module _ (records pool identifiers : List ℕ) (lr ln li : ℕ) where
  abbrev entry : ℕ → Answer Result
  entry start = renumber_entry records pool identifiers start lr ln li

  abbrev opens : Answer (Forest Field)
  opens = opened records pool identifiers lr ln li

  after_6 : (start : ℕ) → Forest Field → Answer Result
  after_6 start t = renumber t (id_list identifiers) (turned start) >>= λ u. ok (record { tree = u.tree; identifiers = u.identifiers; last = 0; visited = 0 })

  module _ (w : Shaped) (ew : w ≡ decoded opens) where
    pub stop_6 : (start : ℕ) (y : Refusal) (out_r out_n out_i : List ℕ) → w ≡ Err y → Stops (entry start) y out_r out_n out_i
    unfolding renumber_entry opened after_6
    stop_6 start y out_r out_n out_i d =
        let e : entry start ≡ (opens >>= after_6 start) = opens_first (room lr ln && leb (length identifiers) li) (sized_ids 64 records pool identifiers) (decode 0 records pool) (after_6 start) in
        refuses (entry start) y (for_records out_r ∷ for_names out_n ∷ for_identifiers out_i ∷ []) (e ∙ bind_not opens (after_6 start) _ _ _ (decode_refused opens w y ew d))

    module _ (c : ℕ) (dw : w ≡ Ok c) where
      p : Passed records pool identifiers lr ln li c
      p = passes records pool identifiers lr ln li c w ew dw

      few : slots records ≤ 1024
      few = (sized_slots records pool (ids_sized 64 records pool identifiers p.limits)).0

      o : walk.Opened records pool c
      o = walk.opened records pool c (ids_sized 64 records pool identifiers p.limits) p.roots

      pub readable : Readable (alone records pool) (slots records)
      readable = record { limits = ids_sized 64 records pool identifiers p.limits; count = refl; decodes = rw o.tree }

      pub few_identifiers : length identifiers ≤ 256
      few_identifiers = ids_most 64 records pool identifiers true (sym p.limits) refl

      pub numbers_left : (is : List ℕ) (first : ℕ) → first ≤ 4294967295 - slots records → Room records 16 c 0 is first
      numbers_left is first l = let a = o.all in let e = few in record { there = o.there; numbers = omega arith }

      module _ (r : Check) (zeros plan : PlanRows) (index : List (List ℕ)) (b : BaseIndexed (alone records pool) (slots records) identifiers r zeros plan index) where
        abbrev tree : Forest Field
        tree = fields_in (alone records pool) plan (slots records)

        entry_is : (start : ℕ) → entry start ≡ after_6 start tree
        unfolding renumber_entry after_6 ◌>>=◌
        entry_is start = rw (p.rooms, p.limits, b.tree)

        tree_size : size tree ≡ slots records
        tree_size = fields_size plan (slots records) b.planned.shaped (alone records pool)

        pub stop_9 : (start : ℕ) (y : Refusal) (out_r out_n out_i : List ℕ) → r ≡ Err y → Stops (entry start) y out_r out_n out_i
        unfolding after_6 renumber ◌>>=◌
        stop_9 start y out_r out_n out_i d = refuses (entry start) y (for_records out_r ∷ for_names out_n ∷ for_identifiers out_i ∷ []) (entry_is start ∙ rw (checked_refused (sound 0 tree (id_list identifiers)) r y b.answer d))

        module _ (d : r ≡ (Ok tt)) where
          is_sound : sound 0 tree (id_list identifiers) ≡ ok tt
          is_sound = checked_ok (sound 0 tree (id_list identifiers)) r b.answer d

          pub stop_18 : (start first : ℕ) (out_r out_n out_i : List ℕ) → first ≡ turned start → 4294967295 - slots records < first → Stops (entry start) (refusal_of 18 0 0) out_r out_n out_i
          unfolding after_6 renumber ◌>>=◌
          stop_18 start first out_r out_n out_i ef l =
              let a = few in
              let z = tree_size in
              let q : ltb highest (turned start + size tree) ≡ true = lt-ltb highest (turned start + size tree) (omega arith) in
              refuses (entry start) (refusal_of 18 0 0) (for_records out_r ∷ for_names out_n ∷ for_identifiers out_i ∷ []) (entry_is start ∙ rw (is_sound, q))

          ids_are : ids tree ≡ ids_in (numbers plan) (slots records)
          ids_are = plan_ids (alone records pool) _ _ _ _ b.planned

          pub findable : (blank : List ℕ) → length blank ≡ 64 → Findable identifiers (numbers plan) index (slots records) blank
          findable blank e =
              record {
                few = few;
                chained = (b.indexed d).by_id;
                known = rw (← ids_are) (sound_known 0 tree (id_list identifiers) is_sound);
                few_identifiers = few_identifiers;
                room = e;
              }

          pub applicable : (found out : List ℕ) → Located identifiers (numbers plan) (slots records) found → li ≡ length out → Applicable (length identifiers / 4) found out
          applicable found out h e =
              let f = few_identifiers in
              let r = leb-true (length identifiers) li (both (room lr ln) (leb (length identifiers) li) p.rooms).1 in
              record { few = omega arith; small = located_small identifiers (numbers plan) (slots records) found h few; room = omega arith }

          module _ (new : List ℕ) where
            planned : PlanIn (alone records pool) (with_numbers plan new) (slots records)
            planned = new_plan (alone records pool) _ _ _ _ b.planned new

            pub writable : PlanIn (alone records pool) (with_numbers plan new) (slots records) × (24576 ≤ lr) × (32768 ≤ ln)
            writable = let v = rooms_of lr ln (both (room lr ln) (leb (length identifiers) li) p.rooms).0 in (planned, v.0, v.1)

            module _ (out_records out_names : List ℕ) (names : ℕ) (records' names' : List ℕ) (v : Written (fields_in (alone records pool) (with_numbers plan new) (slots records)) out_records out_names names records' names') where
              pub few_names : names < 4294967296
              few_names = let e = length_pool (fields_in (alone records pool) (with_numbers plan new) (slots records)) in let a = v.bytes in let f = planned.sum in omega arith

              module _ (first : ℕ) (l : first ≤ 4294967295 - slots records) (s : Reassigned) (g : Given records false 16 c 0 (numbers plan) first s new) where
                abbrev new_tree : Forest Field
                new_tree = numbered with_id kind_of first tree

                new_tree_is : fields_in (alone records pool) (with_numbers plan new) (slots records) ≡ new_tree
                unfolding fields
                new_tree_is =
                    let a = few in
                    new_fields (alone records pool) _ _ _ _ b.planned new records pool first (row_of records 16 c 0).trees (ok_is (sym o.tree ∙ b.tree)) (omega arith) b.roomy.numbers_room g.given

                new_ids_are : ids new_tree ≡ ids_in (numbers (with_numbers plan new)) (slots records)
                new_ids_are = sym (ap ids new_tree_is) ∙ plan_ids (alone records pool) _ _ _ _ planned

                pub done : (start : ℕ) (found out_identifiers identifiers' : List ℕ) → first ≡ turned start → Located identifiers (numbers plan) (slots records) found
                    → Applied (length identifiers / 4) found (numbers (with_numbers plan new)) out_identifiers identifiers'
                    → Answers changes (entry start) (for_records out_records ∷ for_names out_names ∷ for_identifiers out_identifiers ∷ []) (Ok (record { records = slots records; names = names; last_id = 0; visited = 0 })) (records' ∷ names' ∷ identifiers' ∷ [])
                unfolding after_6 renumber ◌>>=◌ changes leaves
                done start found out_identifiers identifiers' ef h m =
                    let a = few in
                    let z = tree_size in
                    let q : ltb highest (turned start + size tree) ≡ false = le-ltb highest (turned start + size tree) (omega arith) in
                    let B = map (renamed (ids tree) (ids new_tree)) (id_list identifiers) in
                    let e : entry start ≡ ok (record { tree = new_tree; identifiers = B; last = 0; visited = 0 }) = entry_is start ∙ rw (is_sound, q, ef) in
                    let y : size new_tree ≡ slots records = sym (ap size new_tree_is) ∙ fields_size (with_numbers plan new) (slots records) planned.shaped (alone records pool) in
                    let v' = rw new_tree_is at v in
                    let written = rw (located_bytes identifiers (numbers plan) (slots records) found h (numbers (with_numbers plan new)), ← ids_are, ← new_ids_are) at m.bytes in
                    rw e (record { told = rw (y, v'.bytes); left = rw (v'.rows, v'.pool, written) refl })
