-- What the index finds for an id is the paper's row; its four bytes are the first of those that are left to write, and what is left
-- makes the whole. `search looking`, `search finding`.
use Prim.Native.Nat.{ℕ, zero, suc, ◌+◌, ◌-◌, ◌*◌, ◌/◌, ◌<◌, ◌≤◌}
use mathlib.Core.Path.{◌≡◌, refl, sym, ap, ◌∙◌}
use mathlib.Core.Bool.{Bool, true, false}
use mathlib.Core.List.{List, [], ◌∷◌, map}
use mathlib.Core.Option.{Option, none, some}
use native.Mathlib.Omega.{arith}
use borrow.Author.Tests.{le-leb, lt-leb}
use lib.ListN.{length}
use lib.Seq.{sets, length-sets}
use Rattle.paper.specs.Answer.{Answer, ok, ◌>>=◌}
use Rattle.paper.specs.Bytes.{turned, from}
use Rattle.paper.specs.Encode.{bytes32}
use Rattle.paper.specs.Entries.{read, find_ids}
use Rattle.paper.specs.Limits.{whole}
use Rattle.paper.specs.Lists.{id_at, id_list}
use Rattle.paper.specs.Outcome.{how_many, slot_number, out_slots, for_slots, leaves, Answers}
use Rattle.paper.specs.Rows.{Row, look_id}
use Rattle.laws.proofs.Basics.{bind_is, bind_not}
use Rattle.laws.proofs.Runs.{sets_append, sets_front, map_from, from_step, from_done, from_all}
use Rattle.record.specs.declared.FieldId.{FieldId}
use Rattle.record.specs.declared.Slot.{Slot}
use Rattle.record.specs.Answers.{FoundSlot, Check}
use Rattle.std.specs.Prelude.{Ok, Err, Some, None}
use Rattle.record.specs.declared.Refusal.{Refusal}
use Rattle.record.specs.Says.{refusal_of, found_row, slot_before}
use Rattle.record.specs.Trees.{Trees, alone}
use Rattle.record.proofs.Testing.{refused_as}
use Rattle.record_limits.proofs.Within.{whole_most}
use Rattle.plan.specs.Table.{numbers, PlanIn, fields_in}
use Rattle.index_ids.specs.Chain.{held, lowest_below}
use Rattle.index_ids.specs.Ids.{id_in, is_id}
use Rattle.index_ids.proofs.Chains.{found_below_room}
use Rattle.index.specs.Index.{found_slot}
use Rattle.index.proofs.Opening.{Opened, reading}
use Rattle.index.proofs.Looking.{finds_id}
use Rattle.index_many.specs.Answers.{Searched}
use Rattle.index_many.specs.Many.{searches, slot_word, met_one, Searchable, rows_of, ByIds}
use Rattle.plan.specs.declared.PlanRows.{PlanRows}

-- ---- rows

one_most : (w : FoundSlot) → met_one w ≤ 1
one_most None = omega arith
one_most (Some s) = omega arith

-- What the index found is the row: the number that is written, and what it adds to the count.
row_is : (is : List ℕ) (o : Option Row) (w : FoundSlot) → found_slot is (held w) ≡ found_row o
    → (slot_word w ≡ slot_number o) × ((rows : List (Option Row)) → how_many (o ∷ rows) ≡ met_one w + how_many rows)
unfolding found_slot found_row
row_is is none None e = (refl, λ rows. omega arith)
row_is is none (Some s) e = absurd (let z : ◌≡◌ {A = ℕ} 0 1 = cc in omega arith)
row_is is (some row) None e = absurd (let z : ◌≡◌ {A = ℕ} 0 1 = cc in omega arith)
row_is is (some row) (Some s) e =
    let z : ◌≡◌ {A = FieldId × Slot} (record { 0 = turned (id_in is s.0) }, record { 0 = s.0 }) (record { 0 = turned row.field.id }, record { 0 = row.slot }) = cc in
    (ap (λ (p : FieldId × Slot). p.1.0) z, λ rows. omega arith)

slots_length : (g : ℕ → Option Row) (k m : ℕ) → length (out_slots (from g k m)) ≡ m * 4
unfolding out_slots from
slots_length g k zero = refl
slots_length g k (suc m) = let e = slots_length g (suc k) m in omega arith

-- ---- the loop

module _ (plan : PlanRows) (m : ℕ) (s out : List ℕ) (n : ℕ) where
  abbrev row_at : Trees → ℕ → Option Row
  row_at l j = look_id (fields_in l plan m) (id_at s j)

  -- The rows of the ids from the i-th on.
  abbrev rest : Trees → ℕ → List (Option Row)
  rest l i = from (row_at l) i (n - i)

  -- The first i were looked up.
  pub record Looking (i met : ℕ) (out' : List ℕ) : Type 0 where
    pub within : i ≤ n
    pub few : met ≤ i
    pub wide : length out' ≡ length out
    pub counts : (l : Trees) → PlanIn l plan m → met + how_many (rest l i) ≡ how_many (rest l 0)
    pub bytes : (l : Trees) → PlanIn l plan m → sets out' (i * 4) (out_slots (rest l i)) ≡ sets out 0 (out_slots (rest l 0))

  pub looking_starts : Looking 0 0 out
  looking_starts = record { within = omega arith; few = omega arith; wide = refl; counts = λ l p. omega arith; bytes = λ l p. refl }

  module _ (i met : ℕ) (out' : List ℕ) (k : Looking i met out') where
    pub looking_wide : length out' ≡ length out
    looking_wide = k.wide

    module _ (index : List (List ℕ)) (h : Searchable plan m index s out) (en : n ≡ length s / 4) where
      all_rows : (l : Trees) → rest l 0 ≡ rows_of l plan m s
      unfolding id_list
      all_rows l = from_all (row_at l) n ∙ rw en (sym (map_from (look_id (fields_in l plan m)) (id_at s) 0 (length s / 4)))

      pub looking_done : n ≤ i → ByIds plan m s met out out'
      unfolding leaves out_slots
      looking_done z =
          record {
            counts = λ l p. let c : met + how_many [] ≡ how_many (rest l 0) = rw (from_done (row_at l) i n z) at (k.counts l p) in rw (← (all_rows l)) (omega (arith, c));
            bytes = λ l p.
                let c : out' ≡ sets out 0 (out_slots (rest l 0)) = rw (from_done (row_at l) i n z) at (k.bytes l p) in
                let e = slots_length (row_at l) 0 (n - 0) in
                let r = h.room in
                rw (← (all_rows l)) (c ∙ sets_front (out_slots (rest l 0)) out (omega arith));
          }

      pub looking_few : (x : ℕ) (w : FoundSlot) → x ≡ met_one w → met + x < 4294967296
      looking_few x w e = let a = h.asked in let b = k.few in let c = k.within in let d = one_most w in omega arith

      module _ (z : i < n) where
        pub bytes_room : (b : List ℕ) → length b ≡ 4 → i * 4 + length b ≤ length out'
        bytes_room b e = let r = h.room in let a = k.wide in omega arith

        module _ (v : ℕ) (ev : id_at s i ≡ turned v) (w : FoundSlot) (ew : w ≡ slot_before (lowest_below (is_id (numbers plan) (turned v)) 0 m)) where
          the_row : (l : Trees) → PlanIn l plan m → found_slot (numbers plan) (held w) ≡ found_row (row_at l i)
          the_row l p = rw ev ((finds_id plan m v w ew (found_slot (numbers plan) (held w)) refl).finds l p)

          pub looking_goes : (x one : ℕ) (b out'' : List ℕ) → x ≡ slot_word w → one ≡ met_one w → b ≡ bytes32 x [] → out'' ≡ sets out' (i * 4) b → Looking (i + 1) (met + one) out''
          unfolding out_slots
          looking_goes x one b out'' ex eo eb e =
              record {
                within = omega arith;
                few = let a = k.few in let c = one_most w in omega arith;
                wide = ap length e ∙ length-sets out' (i * 4) b ∙ k.wide;
                counts = λ l p.
                    let c = ap how_many (from_step (row_at l) i n z) ∙ (row_is (numbers plan) (row_at l i) w (the_row l p)).1 (rest l (i + 1)) in
                    let f = k.counts l p in
                    omega arith;
                bytes = λ l p.
                    let c : sets out' (i * 4) (bytes32 (slot_number (row_at l i)) (out_slots (rest l (i + 1)))) ≡ sets out 0 (out_slots (rest l 0)) = rw (from_step (row_at l) i n z) at (k.bytes l p) in
                    let d : (i + 1) * 4 ≡ i * 4 + 4 = omega arith in
                    rw (e, eb, ex, (row_is (numbers plan) (row_at l i) w (the_row l p)).0, d) (sets_append (bytes32 (slot_number (row_at l i)) []) (out_slots (rest l (i + 1))) out' (i * 4) ∙ c);
              }

pub ruleset looking = (found_below_room, looking_starts, looking_wide, looking_done, looking_few, bytes_room, looking_goes)

-- ---- the entry

module _ (s pool ids out : List ℕ) where
  abbrev asked : Answer (List (Option Row))
  asked = find_ids s pool ids (length out)

  abbrev Ends : Searched → List ℕ → Type 0
  Ends r out' = Answers searches asked (for_slots out ∷ []) r (out' ∷ [])

  -- A refusal changes no byte.
  stops : (y : Refusal) → asked ≡ refused_as y → Ends (Err y) out
  unfolding searches leaves
  stops y e = rw e (record { told = refl; left = refl })

  pub room_short : length out < length ids → Ends (Err (refusal_of 1 0 0)) out
  unfolding find_ids ◌>>=◌
  room_short l = stops (refusal_of 1 0 0) (rw (lt-leb (length ids) (length out) l))

  module _ (room : length ids ≤ length out) (b : Bool) (eb : b ≡ whole 4 1024 ids) where
    pub not_whole : b ≡ false → Ends (Err (refusal_of 2 0 0)) out
    unfolding find_ids ◌>>=◌
    not_whole t = stops (refusal_of 2 0 0) (rw (le-leb (length ids) (length out) room, ← eb, t))

    module _ (t : b ≡ true) where
      reads : asked ≡ (read s pool >>= λ tree. ok (map (look_id tree) (id_list ids)))
      unfolding find_ids ◌>>=◌
      reads = rw (le-leb (length ids) (length out) room, ← eb, t)

      pub base_refused : (y : Refusal) → read s pool ≡ refused_as y → Ends (Err y) out
      base_refused y e = stops y (reads ∙ bind_not (read s pool) _ _ _ _ e)

      module _ (plan : PlanRows) (m : ℕ) (index : List (List ℕ)) (r : Check) (o : Opened s pool r plan m index) (q : r ≡ (Ok tt)) where
        pub searchable : Searchable plan m index ids out
        searchable =
            record { few = (o.planned q).few; chained = (o.indexed q).by_id; asked = whole_most 4 1024 ids (sym eb ∙ t); room = room }

        pub all_looked : (x : ℕ) (out' : List ℕ) → ByIds plan m ids x out out' → Ends (Ok x) out'
        unfolding searches
        all_looked x out' h =
            let e : asked ≡ ok (rows_of (alone s pool) plan m ids) = reads ∙ bind_is (read s pool) _ _ (o.tree q) in
            rw e (record { told = ap Ok (h.counts (alone s pool) (o.planned q)); left = ap (λ (x : List ℕ). x ∷ []) (h.bytes (alone s pool) (o.planned q)) })

pub ruleset finding = (reading, room_short, not_whole, base_refused, searchable, all_looked)
