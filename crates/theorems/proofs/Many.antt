-- Where 1 and 2 are passed, the search for many ids reads the tree as the search for one does, and looks for each id as it does.
use Prim.Native.Nat.{ℕ, zero, suc, ◌+◌, ◌*◌, ◌%◌, ◌<◌}
use mathlib.Core.Path.{◌≡◌, refl, sym, ap, ◌∙◌}
use mathlib.Core.Logic.{◌↔◌}
use mathlib.Core.Bool.{Bool, true, false}
use mathlib.Core.List.{List, [], ◌∷◌, ◌++◌, map}
use mathlib.Core.Option.{Option, none, some}
use native.Mathlib.Nat.{add-zero, zero-add}
use native.Mathlib.Omega.{arith}
use lib.Dec.{leb, eqb, ltb}
use lib.ListN.{length, get_or, take, drop, get_or-eq_default}
use borrow.Author.Tests.{ltb-true, ltb-false, eqb-true}
use Rattle.paper.specs.Answer.{Answer, ok, refused, ◌>>=◌}
use Rattle.paper.specs.Forest.{Forest}
use Rattle.paper.specs.Field.{Field}
use Rattle.paper.specs.Rows.{Row, look_id}
use Rattle.paper.specs.Bytes.{word32, turned, from}
use Rattle.paper.specs.Encode.{bytes32}
use Rattle.paper.specs.Lists.{id_at, id_list}
use Rattle.paper.specs.Limits.{whole, sum_from}
use Rattle.paper.specs.Entries.{read, find_id, find_ids}
use Rattle.paper.specs.Outcome.{found, searched, how_many, slot_number, out_slots, leaves}
use Rattle.laws.proofs.Basics.{unbind, refused≢ok, ok_is, passed, none≢some}
use Rattle.laws.proofs.Words.{back32, word32_drop}
use Rattle.laws.proofs.Runs.{length_from, map_from}
use Rattle.laws.proofs.RoundTrip.{both}
use Rattle.laws.proofs.Fitting.{sized_slots}
use Rattle.laws.proofs.Sited.{id_sited}
use Rattle.theorems.specs.Many.{how_many_asked, asked_at, Lendable, OneByOne, InSlots}

-- ---- lists made of places

get_or_from : {A : Type 0} (g : ℕ → A) (d : A) (k m i : ℕ) → i < m → get_or (from g k m) i d ≡ g (k + i)
unfolding from
get_or_from g d k zero i l = absurd (omega arith)
get_or_from g d k (suc m) zero l = rw (add-zero k)
get_or_from g d k (suc m) (suc i) l =
    let e : k + suc i ≡ suc k + i = omega arith in rw e (get_or_from g d (suc k) m i (omega arith))

sum_zero : (k m : ℕ) → sum_from (λ i. 0) k m ≡ 0
unfolding sum_from
sum_zero k zero = refl
sum_zero k (suc m) = zero-add _ ∙ sum_zero (suc k) m

how_many_from : (g : ℕ → Option Row) (k m : ℕ) → how_many (from g k m) ≡ sum_from (λ i. (found (ok (g i))).found) k m
unfolding from sum_from found
how_many_from g k zero = refl
how_many_from g k (suc m) = go (g k) (from g (suc k) m) (how_many_from g (suc k) m)
  where
    go : (o : Option Row) (rows : List (Option Row)) {n : ℕ} → how_many rows ≡ n
        → how_many (o ∷ rows) ≡ (found (ok o)).found + n
    go none rows e = e ∙ sym (zero-add _)
    go (some r) rows e = omega arith

-- ---- four bytes for each row

slots_long : (rows : List (Option Row)) → length (out_slots rows) ≡ length rows * 4
unfolding out_slots
slots_long [] = refl
slots_long (o ∷ rows) = let h = slots_long rows in omega arith

bytes_at : (rows : List (Option Row)) (i : ℕ) → i < length rows
    → take 4 (drop (i * 4) (out_slots rows)) ≡ bytes32 (slot_number (get_or rows i none)) []
unfolding out_slots
bytes_at [] i l = absurd (omega arith)
bytes_at (o ∷ rows) zero l = refl
bytes_at (o ∷ rows) (suc i) l =
    let e : suc i * 4 ≡ suc (suc (suc (suc (i * 4)))) = omega arith in rw e (bytes_at rows i (omega arith))

-- Whatever stands behind them.
word_at : (rest : List ℕ) (rows : List (Option Row)) (i : ℕ) → i < length rows
    → slot_number (get_or rows i none) < 4294967296 → word32 (out_slots rows ++ rest) (i * 4) ≡ slot_number (get_or rows i none)
unfolding out_slots word32
word_at rest [] i l h = absurd (omega arith)
word_at rest (o ∷ rows) zero l h = back32 (slot_number o) h
word_at rest (o ∷ rows) (suc i) l h =
    let e : suc i * 4 ≡ 4 + i * 4 = omega arith in
    rw e (word32_drop (out_slots (o ∷ rows) ++ rest) 4 (i * 4) ∙ word_at rest rows i (omega arith) h)

-- A slot that is below 1,024 is not the mark.
small : (o : Option Row) → ((r : Row) → o ≡ some r → r.slot < 1024)
    → (slot_number o < 4294967296) × ((slot_number o ≡ 4294967295) ↔ (o ≡ none))
small none h = (omega arith, (λ e. refl, λ e. refl))
small (some r) h =
    let l = h r refl in (omega arith, (λ e. absurd (omega arith), λ e. absurd (none≢some (sym e))))

-- ---- the search

module _ (s p ids : List ℕ) where
  abbrev looked : Forest Field → List (Option Row)
  looked t = map (look_id t) (id_list ids)

  looked_from : (t : Forest Field) → looked t ≡ from (λ i. look_id t (id_at ids i)) 0 (how_many_asked ids)
  unfolding id_list
  looked_from t = map_from (look_id t) (id_at ids) 0 (how_many_asked ids)

  looked_at : (t : Forest Field) (i : ℕ) → i < how_many_asked ids → get_or (looked t) i none ≡ look_id t (turned (asked_at ids i))
  looked_at t i l =
      rw (looked_from t) (get_or_from _ none 0 (how_many_asked ids) i l ∙ ap (λ (j : ℕ). look_id t (id_at ids j)) (zero-add i))

  module _ (room : ℕ) where
    let_through : Lendable ids room → find_ids s p ids room ≡ (read s p >>= λ t. ok (looked t))
    unfolding find_ids ◌>>=◌
    let_through h = rw (h.0, h.1) refl

    -- ---- as many searches for one

    each_one : (a : Answer (Forest Field)) (i : ℕ) → i < how_many_asked ids
        → (a >>= λ t. ok (look_id t (turned (asked_at ids i)))) ≡ ((a >>= λ t. ok (looked t)) >>= λ rows. ok (get_or rows i none))
    unfolding ◌>>=◌
    each_one (ok t) i l = ap ok (sym (looked_at t i l))
    each_one (refused n k q) i l = refl

    refused_alike : (a : Answer (Forest Field)) (i n l k : ℕ)
        → ((a >>= λ t. ok (look_id t (turned i))) ≡ refused n l k) ↔ ((a >>= λ t. ok (looked t)) ≡ refused n l k)
    unfolding ◌>>=◌
    refused_alike (ok t) i n l k = (λ e. absurd (refused≢ok (sym e)), λ e. absurd (refused≢ok (sym e)))
    refused_alike (refused m j q) i n l k = (λ e. cc, λ e. cc)

    all_counted : (a : Answer (Forest Field)) → (searched (a >>= λ t. ok (looked t))).found
        ≡ sum_from (λ i. (found (a >>= λ t. ok (look_id t (turned (asked_at ids i))))).found) 0 (how_many_asked ids)
    unfolding ◌>>=◌ searched found
    all_counted (ok t) = rw (looked_from t) (how_many_from (λ i. look_id t (id_at ids i)) 0 (how_many_asked ids))
    all_counted (refused n l k) = sym (sum_zero 0 (how_many_asked ids))

    pub one_by_one : Lendable ids room → OneByOne s p ids room
    unfolding find_id
    one_by_one h =
        let e = let_through h in
        record {
          each = λ i l. rw e (each_one (read s p) i l);
          tested = λ i n l k. rw e (refused_alike (read s p) i n l k);
          counted = rw e (all_counted (read s p));
        }

    -- ---- accepted rows

    module _ (rows : List (Option Row)) (accepted : find_ids s p ids room ≡ ok rows) where
      accepted_lendable : Lendable ids room
      unfolding find_ids
      accepted_lendable =
          unbind _ _ accepted λ _ e₁ a₁. unbind _ _ a₁ λ _ e₂ _.
          (passed 1 0 0 (leb (length ids) room) e₁, passed 2 0 0 (whole 4 1024 ids) e₂)

      as_many : length rows ≡ how_many_asked ids
      as_many =
          unbind _ _ (sym (let_through accepted_lendable) ∙ accepted) λ t _ e.
          ap length (sym (ok_is e) ∙ looked_from t) ∙ length_from _ 0 (how_many_asked ids)

      -- What a search for one answers to the i-th id.
      pub row_found : (i : ℕ) (r : Row) → get_or rows i none ≡ some r → find_id s p (asked_at ids i) ≡ ok (some r)
      unfolding ◌>>=◌
      row_found i r e = go (ltb i (length rows)) refl
        where
          go : (b : Bool) → ltb i (length rows) ≡ b → find_id s p (asked_at ids i) ≡ ok (some r)
          go true q =
              let l = ltb-true i (length rows) q in
              let m = as_many in
              (one_by_one accepted_lendable).each i (omega arith) ∙ rw (accepted, e) refl
          go false q =
              let l = ltb-false i (length rows) q in
              absurd (none≢some (sym (get_or-eq_default rows none (omega arith)) ∙ e))

      below : (i : ℕ) (r : Row) → get_or rows i none ≡ some r → r.slot < 1024
      below i r e =
          let w = id_sited s p r (asked_at ids i) (row_found i r e) in
          let l = w.there in
          let m = (sized_slots s p w.limits).0 in
          omega arith

      pub in_slots : InSlots ids rows
      unfolding leaves whole
      in_slots =
          let m = as_many in
          let w = (both (eqb (length ids % 4) 0) (leb (length ids) (4 * 1024)) accepted_lendable.1).0 in
          let z = eqb-true (length ids % 4) 0 w in
          record {
            as_many = m;
            as_long = slots_long rows ∙ omega arith;
            four_bytes = λ i l. bytes_at rows i (omega arith);
            in_buffer = λ old i l. word_at _ rows i (omega arith) (small (get_or rows i none) (below i)).0;
            below = below;
            marked = λ i. (small (get_or rows i none) (below i)).1;
          }
