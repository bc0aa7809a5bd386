-- The steps in their order, each as the paper has it. Ruleset: `opening` (1 to 6).
use mathlib.Core.Path.{◌≡◌, refl, sym, ap, ◌∙◌}
use mathlib.Core.Bool.{Bool, true, false, not}
use mathlib.Core.List.{List, [], ◌∷◌}
use mathlib.Core.Option.{Option, none, some}
use Prim.Native.Nat.{ℕ, zero, suc, ◌+◌, ◌≤◌, ◌<◌}
use native.Mathlib.Nat.{zero-add}
use native.Mathlib.Omega.{arith}
use borrow.Author.Tests.{not-true, not-false}
use lib.Dec.{eqb}
use lib.ListN.{length, get_or, replicate, length-replicate, get_or-replicate}
use lib.Seq.{sets, length-sets}
use Rattle.record.specs.declared.Refusal.{Refusal}
use Rattle.record.specs.Answers.{Check, Changed}
use Rattle.std.specs.Prelude.{Ok, Err}
use Rattle.record.specs.Says.{refusal_of, tested, checked, changes}
use Rattle.record.specs.Trees.{alone}
use Rattle.record.proofs.Testing.{chain_goes, chain_stops, checked_ok, checked_refused, refuses}
use Rattle.paper.specs.declared.Role.TheVariants.{Member}
use Rattle.paper.specs.Answer.{Answer, ok, ◌>>=◌, fault, repeated}
use Rattle.paper.specs.Refusals.{roomy, limited}
use Rattle.paper.specs.Forest.{Forest, size}
use Rattle.paper.specs.Field.{Field}
use Rattle.paper.specs.Bytes.{field_at, kind_at, kids_at, slots, from}
use Rattle.paper.specs.Lists.{id_list}
use Rattle.paper.specs.Decode.{fields, decode}
use Rattle.paper.specs.Limits.{room, sized, sized_ids}
use Rattle.paper.specs.Prune.{is_chosen, prune}
use Rattle.paper.specs.Sound.{ids, sound}
use Rattle.paper.specs.Entries.{Result, prune_entry}
use Rattle.paper.specs.Outcome.{leaves, for_records, for_names, Answers}
use Rattle.laws.proofs.Basics as basics
use Rattle.laws.proofs.Basics.{unbind, fault_ok, ok_is, bind_assoc, bind_is, bind_not}
use Rattle.laws.proofs.Fitting.{ids_sized, rooms_of}
use Rattle.laws.proofs.RoundTrip.{length_pool}
use Rattle.laws.proofs.Runs.{get_or_sets, length_from}
use Rattle.tree.specs.Answers.{Walked, Shaped}
use Rattle.tree.specs.Says.{walked_to, decoded}
use Rattle.tree.proofs.Deciding.{decode_ok, decode_refused}
use Rattle.tree_walk.specs.There.{row_of}
use Rattle.tree_walk.proofs.Opening as standing
use Rattle.plan.specs.Sources.{id_bits}
use Rattle.plan_write.specs.Written.{Written}
use Rattle.plan.specs.Table.{numbers, Roomy, PlanIn, fields_in, TakenIn}
use Rattle.plan.proofs.Standing.{fields_size}
use Rattle.index_ids.specs.Ids.{ids_in}
use Rattle.index.specs.Index.{Readable, BaseIndexed}
use Rattle.index_names.proofs.Rows.{plan_ids}
use Rattle.prune_columns.specs.declared.Step.{Step}
use Rattle.prune_columns.specs.Split.{first_direct}
use Rattle.prune_columns.specs.Projected.{marked, Checked, Row, Kept}
use Rattle.prune_marks.specs.Marks.{Unmarked, Marks}
use Rattle.prune.specs.Steps.{opened, Tested, Decides}
use Rattle.prune.proofs.Bridge.{unless, pruned_fields}
use Rattle.prune.proofs.Keeping.{kept_trees, Keeps, keeps}
use Rattle.plan.specs.declared.PlanRows.{PlanRows}

-- ---- open: 1 to 6

module _ (s p sel : List ℕ) (lr ln : ℕ) where
  module _ (b : Bool) (eb : b ≡ room lr ln) where
    pub stop_1 : not b ≡ true → Err (refusal_of 1 0 0) ≡ decoded (opened s p sel lr ln)
    unfolding opened decoded ◌>>=◌
    stop_1 t = rw (← eb, not-true b t)

    module _ (f : not b ≡ false) (z : Bool) (ez : z ≡ sized_ids 1024 s p sel) where
      pub stop_2 : not z ≡ true → Err (refusal_of 2 0 0) ≡ decoded (opened s p sel lr ln)
      unfolding opened decoded ◌>>=◌
      stop_2 t = rw (← eb, not-false b f, ← ez, not-true z t)

      pub go_on : (r : Shaped) → not z ≡ false → r ≡ decoded (decode 0 s p) → r ≡ decoded (opened s p sel lr ln)
      unfolding opened ◌>>=◌
      go_on r t e = rw (← eb, not-false b f, ← ez, not-false z t) e

pub ruleset opening = (stop_1, stop_2, go_on)

-- ---- decide: the marks and 20

module _ (next : ℕ) where
  refused_20 : (o : Option ℕ) (w : Walked) (t : Refusal) → w ≡ walked_to 20 0 next o → w ≡ Err t → Err t ≡ tested 20 0 o
  unfolding walked_to tested
  refused_20 none w t e d = let z : ◌≡◌ {A = ℕ} 0 1 = cc in absurd (omega arith)
  refused_20 (some k) w t e d = cc

  fine_20 : (o : Option ℕ) (w : Walked) (j : ℕ) → w ≡ walked_to 20 0 next o → w ≡ Ok j → (Ok tt) ≡ tested 20 0 o
  unfolding walked_to tested
  fine_20 none w j e d = refl
  fine_20 (some k) w j e d = let z : ◌≡◌ {A = ℕ} 0 1 = cc in absurd (omega arith)

module _ (s : List ℕ) (c : ℕ) (plan : PlanRows) (index : List (List ℕ)) (h : Tested s c plan index) (sel marks : List ℕ) (m : Marks sel (numbers plan) (slots s) marks) (full : Bool) (w : Walked) (e : Checked s marks full 16 c 0 Member w) where
  decides : (r : Check) → r ≡ tested 20 0 (first_direct (marked marks) (kind_at s) full Member 0 (row_of s 16 c 0).trees) → Decides s sel full c r marks
  decides r d = record { chosen = λ k l. m.exactly k l ∙ rw (h.own_ids k l); answer = d }

  pub decide_stops : (t : Refusal) → w ≡ Err t → Decides s sel full c (Err t) marks
  decide_stops t d = decides (Err t) (refused_20 _ _ w t e.says d)

  pub decide_goes : (j : ℕ) → w ≡ Ok j → Decides s sel full c (Ok tt) marks
  decide_goes j d = decides (Ok tt) (fine_20 _ _ w j e.says d)

-- No slot is marked yet.
pub unmarked : Unmarked (replicate {A = ℕ} 1024 0)
unmarked = record { room = length-replicate {A = ℕ} 1024 0; none_marked = λ k l. get_or-replicate 1024 k 0 0 l }

-- ---- test: the base as its own plan

get_or_from : (g : ℕ → ℕ) (k m j : ℕ) → j < m → get_or (from g k m) j 0 ≡ g (k + j)
unfolding from
get_or_from g k zero j l = absurd (omega arith)
get_or_from g k (suc m) zero l = let e : k + 0 ≡ k = omega arith in rw e
get_or_from g k (suc m) (suc j) l = let e : k + suc j ≡ suc k + j = omega arith in rw e (get_or_from g (suc k) m j (omega arith))

taken_id : (s : List ℕ) (n : ℕ) (old plan : PlanRows) (k : ℕ) → TakenIn s n old plan → Roomy plan → n ≤ 1024 → k < n → get_or (numbers plan) k 0 ≡ id_bits s k
taken_id s n old plan k h room few l =
    let ids = from (id_bits s) 0 n in
    let m = length_from (id_bits s) 0 n in
    let w = ap length h.numbers_set ∙ length-sets (numbers old) 0 ids in
    let v = room.numbers_room in
    rw h.numbers_set (ap (λ (z : ℕ). get_or (sets (numbers old) 0 ids) z 0) (sym (zero-add k)) ∙ get_or_sets ids (numbers old) 0 k 0 (omega arith) (omega arith) ∙ get_or_from (id_bits s) 0 n k l ∙ ap (id_bits s) (zero-add k))

-- ---- the entry

the_result : Forest Field → Result
the_result t = record { tree = t; identifiers = []; last = 0; visited = 0 }

abbrev Answering : Answer Result → (out names : List ℕ) → Changed → (out' names' : List ℕ) → Type 0
Answering x out names r out' names' = Answers changes x (for_records out ∷ for_names names ∷ []) r (out' ∷ names' ∷ [])

accepts : (x : Answer Result) (out names : List ℕ) (t : Forest Field) (m n : ℕ) (out' names' : List ℕ) → x ≡ ok (the_result t) → size t ≡ m → Written t out names n out' names'
    → Answering x out names (Ok (record { records = m; names = n; last_id = 0; visited = 0 })) out' names'
unfolding changes leaves the_result
accepts x out names t m n out' names' e em w = rw (e, ← em, w.bytes) (record { told = refl; left = rw (w.rows, w.pool) refl })

pub after_6 : List ℕ → Bool → Forest Field → Answer Result
after_6 sel full t = prune t (id_list sel) full >>= λ u. ok (the_result u)

entry_is : (s p sel : List ℕ) (full : Bool) (lr ln : ℕ) → prune_entry s p sel full lr ln ≡ (opened s p sel lr ln >>= after_6 sel full)
unfolding prune_entry opened after_6 the_result
entry_is s p sel full lr ln =
    sym (bind_assoc (roomy (room lr ln)) (λ _. limited (sized_ids 1024 s p sel) >>= λ _. decode 0 s p) (after_6 sel full)
    ∙ ap (λ (y : Answer Result). roomy (room lr ln) >>= λ _. y) (bind_assoc (limited (sized_ids 1024 s p sel)) (λ _. decode 0 s p) (after_6 sel full)))

-- The fields of the base.
abbrev base : (s p : List ℕ) → ℕ → Forest Field
base s p c = fields p s (row_of s 16 c 0).trees

-- 1 to 6 were passed.
pub record Passed (s p sel : List ℕ) (lr ln c : ℕ) : Type 0 where
  pub rooms : (24576 ≤ lr) × (32768 ≤ ln)
  pub limits : sized s p ≡ true
  pub tree : standing.Opened s p c
  pub whole : (full : Bool) → prune_entry s p sel full lr ln ≡ after_6 sel full (base s p c)

module _ (s p sel : List ℕ) (lr ln : ℕ) (w : Shaped) (e : w ≡ decoded (opened s p sel lr ln)) where
  pub stop_6 : (full : Bool) (out names : List ℕ) (y : Refusal) → w ≡ Err y → Answering (prune_entry s p sel full lr ln) out names (Err y) out names
  stop_6 full out names y d = refuses _ y (for_records out ∷ for_names names ∷ []) (entry_is s p sel full lr ln ∙ bind_not _ (after_6 sel full) _ _ _ (decode_refused (opened s p sel lr ln) w y e d))

  pub passed : (c : ℕ) → w ≡ Ok c → Passed s p sel lr ln c
  unfolding opened decoded
  passed c d =
      decode_ok _ (opened s p sel lr ln) w c e d λ t a q. unbind _ _ a λ _ e₁ a₁. unbind _ _ a₁ λ _ e₂ a₂.
      let z = ids_sized 1024 s p sel (basics.passed 2 0 0 (sized_ids 1024 s p sel) e₂) in
      let o = standing.opened s p c z (rw (a₂, q)) in
      record {
        rooms = rooms_of lr ln (basics.passed 1 0 0 (room lr ln) e₁);
        limits = z;
        tree = o;
        whole = λ full. entry_is s p sel full lr ln ∙ bind_is _ (after_6 sel full) t a ∙ ap (after_6 sel full) (ok_is (sym a₂ ∙ o.tree));
      }

module _ {s p sel : List ℕ} {lr ln c : ℕ} (h : Passed s p sel lr ln c) where
  pub base_reads : Readable (alone s p) (slots s)
  base_reads = record { limits = h.limits; count = refl; decodes = rw h.tree.tree }

  pub plan_row : Row s 16 c 0 0
  plan_row = record { there = h.tree.there; room = omega arith }

  module _ {r : Check} {old plan : PlanRows} {index : List (List ℕ)} (b : BaseIndexed (alone s p) (slots s) [] r old plan index) where
    base_is : fields_in (alone s p) plan (slots s) ≡ base s p c
    base_is = ok_is (sym b.tree ∙ h.tree.tree)

    sound_is : r ≡ checked (sound 0 (base s p c) [])
    unfolding id_list from
    sound_is = b.answer ∙ rw base_is

    pub stop_8 : (full : Bool) (out names : List ℕ) (y : Refusal) → r ≡ Err y → Answering (prune_entry s p sel full lr ln) out names (Err y) out names
    unfolding after_6 prune ◌>>=◌
    stop_8 full out names y f = refuses _ y (for_records out ∷ for_names names ∷ []) (h.whole full ∙ rw (checked_refused (sound 0 (base s p c) []) r y sound_is f))

    module _ (marks : List ℕ) (full : Bool) {a : Step} {plan' : PlanRows} (k : Kept s marks full Member 16 c 0 plan 0 a plan') where
      kept : Keeps s p marks full c plan' a.at
      kept = keeps s p marks full c plan plan' a h.tree b.roomy k

      pub write_asks : PlanIn (alone s p) plan' a.at × (24576 ≤ lr) × (32768 ≤ ln)
      write_asks = (kept.planned, h.rooms.0, h.rooms.1)

      pub kept_small : a.at < 4294967296
      kept_small = let w = kept.planned.few in omega arith

      pub names_small : {m : ℕ} {out names out' names' : List ℕ} → Written (fields_in (alone s p) plan' a.at) out names m out' names' → m < 4294967296
      names_small v = let q = v.bytes in let n = length_pool (fields_in (alone s p) plan' a.at) in let g = kept.planned.sum in omega arith

    module _ (f : r ≡ (Ok tt)) where
      was_sound : sound 0 (base s p c) [] ≡ ok tt
      was_sound = checked_ok (sound 0 (base s p c) []) r sound_is f

      distinct : repeated eqb [] 0 (ids_in (numbers plan) (slots s)) ≡ none
      unfolding sound
      distinct =
          let e = plan_ids (alone s p) _ _ _ _ b.planned in
          unbind _ _ was_sound λ _ e₁ _. rw (← e, base_is) (fault_ok 7 0 (repeated eqb [] 0 (ids (base s p c))) e₁)

      pub test_goes : Tested s c plan index
      test_goes =
          record {
            there = h.tree.there;
            own_ids = λ k l. taken_id s (slots s) old plan k b.taken b.roomy h.tree.there.few l;
            distinct = record { tested = distinct };
            chained = (b.indexed f).by_id;
          }

      module _ {full : Bool} {x : Check} {marks : List ℕ} (g : Decides s sel full c x marks) where
        abbrev result : Result
        result = the_result (fields p s (kept_trees s marks full c))

        whole_is : prune_entry s p sel full lr ln ≡ unless (first_direct (marked marks) (kind_at s) full Member 0 (row_of s 16 c 0).trees) result
        unfolding after_6 prune field_at ◌>>=◌
        whole_is =
            h.whole full
            ∙ rw (was_sound, pruned_fields p s (is_chosen (id_list sel)) (marked marks) full (kids_at s) (slots s) (row_of s 16 c 0).trees h.tree.laid (λ k l. sym (g.chosen k l)))
            (bind_assoc (fault 20 0 (first_direct (marked marks) (kind_at s) full Member 0 (row_of s 16 c 0).trees)) (λ _. ok (fields p s (kept_trees s marks full c))) (λ u. ok (the_result u)))

        pub stop_20 : (out names : List ℕ) (y : Refusal) → x ≡ Err y → Answering (prune_entry s p sel full lr ln) out names (Err y) out names
        stop_20 out names y i = refuses _ y (for_records out ∷ for_names names ∷ []) (whole_is ∙ chain_stops 20 0 _ x _ y g.answer i)

        pub all_written : {a : Step} {plan' : PlanRows} {m : ℕ} {out names out' names' : List ℕ} → x ≡ (Ok tt) → Kept s marks full Member 16 c 0 plan 0 a plan' → Written (fields_in (alone s p) plan' a.at) out names m out' names'
            → Answering (prune_entry s p sel full lr ln) out names (Ok (record { records = a.at; names = m; last_id = 0; visited = 0 })) out' names'
        all_written {a} {plan'} {m} {out} {names} {out'} {names'} i k v =
            let q = kept marks full k in
            accepts _ out names (fields_in (alone s p) plan' a.at) a.at m out' names'
            (whole_is ∙ chain_goes 20 0 _ x _ g.answer i ∙ rw q.tree)
            (fields_size plan' a.at q.planned.shaped (alone s p))
            v
