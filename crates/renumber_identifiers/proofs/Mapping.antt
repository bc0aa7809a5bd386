-- Each identifier stands at the slot that the index finds, and the four bytes of its new id go behind those of the earlier ones.
-- `search finding`, `search applying`.
use Prim.Native.Nat.{ℕ, zero, suc, ◌+◌, ◌*◌, ◌/◌, ◌≤◌, ◌<◌}
use mathlib.Core.Path.{◌≡◌, refl, sym, ap, ◌∙◌}
use mathlib.Core.Logic.{◌⊎◌, inl, inr}
use mathlib.Core.Bool.{Bool, true, false, not}
use mathlib.Core.List.{List, [], ◌∷◌, ◌++◌, map}
use mathlib.Core.Option.{some}
use native.Mathlib.Nat.{zero-add}
use native.Mathlib.Omega.{arith}
use lib.Dec.{eqb}
use lib.ListN.{length, get_or, set, length-set}
use lib.Seq.{sets, length-sets, get_or-set_same, get_or-set_other}
use Rattle.paper.specs.Answer.{among, place_of}
use Rattle.paper.specs.Bytes.{turned, from}
use Rattle.paper.specs.Lists.{id_at, id_list}
use Rattle.paper.specs.Encode.{bytes32, id_bytes}
use Rattle.paper.specs.Renumber.{renamed}
use Rattle.laws.proofs.Runs.{sets_append, sets_front, map_from, from_same, from_append}
use Rattle.laws.proofs.Words.{turned_twice}
use Rattle.laws.proofs.Finding.{place_none, place_some, renamed_at}
use Rattle.record.specs.declared.Slot.{Slot}
use Rattle.record.specs.Answers.{FoundSlot}
use Rattle.std.specs.Prelude.{Some, None}
use Rattle.record.specs.Says.{slot_before}
use Rattle.record.proofs.Slots.{no_slot, the_slot}
use Rattle.index_ids.specs.Chain.{lowest_below}
use Rattle.index_ids.proofs.Chains.{eqb_cases, found_within}
use Rattle.index_ids.specs.Ids.{id_in, ids_in, is_id}
use Rattle.index_ids.proofs.Repeats.{slot_at, found_below, any_found}
use Rattle.renumber_identifiers.specs.Mapped.{Findable, Located, Applicable, bytes_at, Applied}

-- ---- the slots: `search finding`

-- The first i were found.
pub record Finding (s is : List ℕ) (m i : ℕ) (slots : List ℕ) : Type 0 where
  pub room : length slots ≡ 64
  pub so_far : (j : ℕ) → j < i → place_of (eqb (id_at s j)) 0 (ids_in is m) ≡ some (get_or slots j 0)

module _ (s is : List ℕ) (m : ℕ) where
  pub finding_done : (i : ℕ) (slots : List ℕ) → Finding s is m i slots → length s / 4 ≤ i → Located s is m slots
  finding_done i slots k l = record { stands = λ j q. k.so_far j (omega arith) }

  module _ (index : List (List ℕ)) (slots : List ℕ) (h : Findable s is index m slots) where
    pub finding_starts : Finding s is m 0 slots
    finding_starts = record { room = h.room; so_far = λ j l. absurd (omega arith) }

    module _ (i : ℕ) (l : i < length s / 4) (v : ℕ) (ev : id_at s i ≡ turned v) (w : FoundSlot) (ew : w ≡ slot_before (lowest_below (is_id is (turned v)) 0 m)) where
      known_one : among (id_at s i) (ids_in is m) ≡ true
      unfolding id_list
      known_one = not_false_of (among (id_at s i) (ids_in is m)) (place_none (λ j. not (among j (ids_in is m))) (id_at s) 0 (length s / 4) h.known i (omega arith) (omega arith))
        where
          not_false_of : (b : Bool) → not b ≡ false → b ≡ true
          not_false_of true e = refl
          not_false_of false e = sym e

      pub never_missing : (slots' : List ℕ) → w ≡ None → Located s is m slots'
      never_missing slots' q = absurd (let z : ◌≡◌ {A = ℕ} 0 1 = bad in omega arith)
        where
          bad : ◌≡◌ {A = ℕ} 0 1
          bad =
              let e = any_found (eqb (turned v)) (id_in is) m 0 (sym (no_slot (lowest_below (is_id is (turned v)) 0 m) w ew q)) in
              let a : among (id_at s i) (ids_in is m) ≡ false = rw ev e in
              let b = known_one in
              cc

      module _ (j : Slot) (q : w ≡ Some j) where
        pub slot_fits : j.0 < 65536
        slot_fits = let a = found_within (is_id is (turned v)) m w ew j q in let d = h.few in omega arith

        stands_at : place_of (eqb (id_at s i)) 0 (ids_in is m) ≡ some j.0
        stands_at = rw ev (sym (found_below (eqb (turned v)) (id_in is) m) ∙ ap slot_at (the_slot (lowest_below (is_id is (turned v)) 0 m) w j ew q))

        pub finding_goes : (slots' : List ℕ) → Finding s is m i slots' → Finding s is m (i + 1) (set slots' i j.0)
        finding_goes slots' k =
            record { room = length-set slots' i j.0 ∙ k.room; so_far = λ a b. go a b (eqb_cases a i) }
          where
            go : (a : ℕ) → a < i + 1 → (a ≡ i) ⊎ (a ≡ i → ⊥) → place_of (eqb (id_at s a)) 0 (ids_in is m) ≡ some (get_or (set slots' i j.0) a 0)
            go a b (inl e) = rw e (stands_at ∙ ap some (sym (get_or-set_same slots' i j.0 0 (let c = h.few_identifiers in let d = k.room in omega arith))))
            go a b (inr e) = k.so_far a (omega arith) ∙ ap some (sym (get_or-set_other slots' i a j.0 0 e))

pub ruleset finding = (finding_starts, finding_done, never_missing, slot_fits, finding_goes)

-- ---- bytes of ids

bytes_append : (xs ys : List ℕ) → id_bytes (xs ++ ys) ≡ id_bytes xs ++ id_bytes ys
unfolding id_bytes
bytes_append [] ys = refl
bytes_append (x ∷ xs) ys = rw (bytes_append xs ys)

bytes_length : (g : ℕ → ℕ) (k m : ℕ) → length (id_bytes (from g k m)) ≡ m * 4
unfolding id_bytes from
bytes_length g k zero = refl
bytes_length g k (suc m) = let e = bytes_length g (suc k) m in omega arith

-- ---- the new ids: `search applying`

-- The id at the i-th slot.
abbrev id_by : (slots ids : List ℕ) → ℕ → ℕ
id_by slots ids i = id_in ids (get_or slots i 0)

-- The first i were written.
pub record Applying (slots ids out : List ℕ) (n i : ℕ) (out' : List ℕ) : Type 0 where
  pub within : i ≤ n
  pub so_far : out' ≡ sets out 0 (id_bytes (from (id_by slots ids) 0 i))

module _ (slots ids out : List ℕ) (n : ℕ) where
  pub applying_starts : Applying slots ids out n 0 out
  unfolding from id_bytes
  applying_starts = record { within = omega arith; so_far = refl }

  module _ (i : ℕ) (out' : List ℕ) (k : Applying slots ids out n i out') where
    pub applying_length : length out' ≡ length out
    applying_length = ap length k.so_far ∙ simp length-sets

    module _ (h : Applicable n slots out) where
      pub applying_done : n ≤ i → Applied n slots ids out out'
      unfolding bytes_at
      applying_done l =
          let g = k.within in
          let r = h.room in
          let z : n ≡ i = omega arith in
          let y = bytes_length (id_by slots ids) 0 i in
          record { bytes = rw z (k.so_far ∙ sets_front (id_bytes (from (id_by slots ids) 0 i)) out (omega arith)) }

      module _ (l : i < n) where
        pub slot_small : (j : ℕ) → j ≡ get_or slots i 0 → j < 1024
        slot_small j e = let a = h.small i l in omega arith

        pub bytes_room : (b : List ℕ) → length b ≡ 4 → i * 4 + length b ≤ length out'
        bytes_room b e = let a = h.room in let d = applying_length in omega arith

        pub applying_goes : (j x : ℕ) (b out'' : List ℕ) → j ≡ get_or slots i 0 → x ≡ get_or ids j 0 → x < 4294967296 → b ≡ bytes32 x [] → out'' ≡ sets out' (i * 4) b → Applying slots ids out n (i + 1) out''
        unfolding id_bytes from
        applying_goes j x b out'' ej ex lx eb eo =
            let g = id_by slots ids in
            let e : turned (g i) ≡ x = ap (λ (z : ℕ). turned (id_in ids z)) (sym ej) ∙ ap (λ (z : ℕ). turned (turned z)) (sym ex) ∙ turned_twice x lx in
            let n₁ : i * 4 ≡ 0 + length (id_bytes (from g 0 i)) = sym (zero-add _ ∙ bytes_length g 0 i) in
            let f : from g 0 (i + 1) ≡ from g 0 i ++ (g i ∷ []) = from_append g 0 i 1 ∙ rw (zero-add i) in
            record { within = omega arith; so_far = eo ∙ rw (eb, k.so_far, n₁, f, bytes_append (from g 0 i) (g i ∷ []), e) (sets_append (id_bytes (from g 0 i)) (bytes32 x []) out 0) }

pub ruleset applying = (applying_starts, applying_length, applying_done, slot_small, bytes_room, applying_goes)

-- ---- both

module _ (s is : List ℕ) (m : ℕ) (slots : List ℕ) (h : Located s is m slots) where
  -- The slots that were found are places of a plan.
  pub located_small : m ≤ 1024 → (i : ℕ) → i < length s / 4 → get_or slots i 0 < 1024
  located_small f i l = let a = (place_some (eqb (id_at s i)) (id_in is) 0 m (get_or slots i 0) (h.stands i l)).2 in omega arith

  -- The ids at them are those to which the identifiers are mapped.
  pub located_bytes : (new : List ℕ) → bytes_at (length s / 4) slots new ≡ id_bytes (map (renamed (ids_in is m) (ids_in new m)) (id_list s))
  unfolding id_list bytes_at
  located_bytes new =
      let e = map_from (renamed (ids_in is m) (ids_in new m)) (id_at s) 0 (length s / 4) in
      let f = from_same (λ i. renamed (ids_in is m) (ids_in new m) (id_at s i)) (id_by slots new) 0 (length s / 4)
      (λ i l. renamed_at (id_in is) (id_in new) (id_at s i) 0 m (get_or slots i 0) (h.stands i (omega arith))) in
      rw (e, f)
