-- Refusal 6 by one loop over the records: where what is directly inside each record fits, all names do. `search fitted` for one
-- record, `search fit_all` for the loop.
use mathlib.Core.Path.{◌≡◌, refl, sym, ◌∙◌}
use mathlib.Core.Logic.{inl, inr, ⊎_elim}
use mathlib.Core.List.{List}
use mathlib.Core.Bool.{Bool, true, false, not, ◌&&◌, true≢false}
use mathlib.Core.Option.{none}
use Prim.Native.Nat.{ℕ, zero, suc, ◌+◌, ◌*◌, ◌-◌, ◌<◌, ◌≤◌}
use native.Mathlib.Numerals.{add-one}
use native.Mathlib.Omega.{arith}
use borrow.Author.Tests.{not-true, not-false, ltb-true, eqb-true, ne_eqb}
use lib.Dec.{eqb, ltb}
use lib.ListN.{length}
use Rattle.paper.specs.declared.Role.{Role}
use Rattle.paper.specs.declared.Role.TheVariants.{Member, Element, Key, Value}
use Rattle.paper.specs.Answer.{lowest}
use Rattle.paper.specs.Forest.{Forest, empty, node, size, siblings}
use Rattle.paper.specs.Field.{first, after}
use Rattle.paper.specs.Sound.{fitting, misnamed}
use Rattle.paper.specs.Bytes.{rec_at, ok_bytes, in_pool, kind_from, name_of, kind_at, kids_at}
use Rattle.paper.specs.Decode.{fields}
use Rattle.laws.proofs.RoundTrip.{both}
use Rattle.laws.proofs.Taken.{Laid, Took, row_take}
use Rattle.laws.proofs.Fitting.{lowest_none}
use Rattle.laws.proofs.Written.{siblings_size}
use Rattle.record.specs.Sifts.{flat}
use Rattle.record.proofs.Ruling.{rules, kids_nested}
use Rattle.std.specs.Prelude.{Ok}
use Rattle.tree.specs.Read.{part}
use Rattle.tree.specs.Says.{walked_to, Labelled}
use Rattle.tree.specs.Fits.{Passed, Seated, Planted, Begins, Fits, AllFit}
use Rattle.tree.proofs.Filled.{lt_or_le}
use Rattle.tree.proofs.Steps.{was_read}
use Rattle.tree.proofs.Labels.{misnamed_good, misnamed_none}

-- ---- a row whose names begin to fit

module _ (pool s : List ℕ) where
  pub begins_member : (c k : ℕ) (r : Role) → r ≡ Member → Begins pool s c k r
  unfolding fitting
  begins_member c k r e = record { own = λ _. rw e; next = λ _. inl e }

  begins_rest : (c k j : ℕ) (r : Role) → Begins pool s (suc c) k r → (kids_at s k ≡ 0 → j ≡ k + 1) → Begins pool s c j (after r)
  unfolding fitting
  begins_rest c k j r b f =
      record {
        own = λ l. ⊎_elim (λ e. rw e) (λ q. rw (f q.1) q.2) (b.next (omega arith));
        next = λ l. ⊎_elim (λ e. inl (rw e)) (λ q. let z = q.0 in absurd (omega arith)) (b.next (omega arith));
      }

  no_siblings : (m : Forest ℕ) → siblings m ≡ 0 → size m ≡ 0
  unfolding siblings size
  no_siblings empty e = refl
  no_siblings (node a m n) e = absurd (omega arith)

  module _ (n : ℕ) (fit : (k : ℕ) → k < n → Begins pool s (kids_at s k) (k + 1) (first (kind_at s k))) where
    pub none_misnamed : (r : Role) (k : ℕ) (t : Forest ℕ) → Laid (kids_at s) n k t → Begins pool s (siblings t) k r → misnamed r k (fields pool s t) ≡ none
    unfolding siblings
    none_misnamed r k empty h b = misnamed_none pool s r k
    none_misnamed r k (node j m u) h b =
        let inside : misnamed (first (kind_at s k)) (k + 1) (fields pool s m) ≡ none = none_misnamed (first (kind_at s k)) (k + 1) m (rw (add-one k) h.3) (rw (← h.2) (fit k h.1)) in
        let rest : misnamed (after r) (suc (k + size m)) (fields pool s u) ≡ none = none_misnamed (after r) (suc (k + size m)) u h.4 (begins_rest (siblings u) k (suc (k + size m)) r b (λ z. let q = no_siblings m (sym h.2 ∙ z) in omega arith)) in
        rw h.0 (misnamed_good pool s r (first (kind_at s k)) (after r) k (suc (k + size m)) m u (b.own (omega arith)) refl refl refl ∙ rw (inside, rest))

-- ---- where the members of a record end

pub laid_members : (kids : ℕ → ℕ) (n k : ℕ) (t : Forest ℕ) → Laid kids n k t → (j : ℕ) → k ≤ j → j < k + size t → j + kids j < k + size t
unfolding size
laid_members kids n k empty h j l g = absurd (omega arith)
laid_members kids n k (node i m u) h j l g =
    ⊎_elim
    (λ (a : j < suc k). let e : j ≡ k = omega arith in rw e (let q = h.2 in omega (arith, siblings_size m)))
    (λ a. ⊎_elim
    (λ b. let q = laid_members kids n (suc k) m h.3 j (omega arith) (omega arith) in omega arith)
    (λ b. let q = laid_members kids n (suc (k + size m)) u h.4 j (omega arith) (omega arith) in omega arith)
    (lt_or_le j (suc k + size m)))
    (lt_or_le j (suc k))

module _ (li : ℕ) (pool s : List ℕ) (n c : ℕ) (h : Planted li pool s n c) where
  whole : Took (kids_at s) n 16 0 (part li (kids_at s) n 16 c 0)
  whole = (row_take li (kids_at s) n 16 c 0 (part li (kids_at s) n 16 c 0) (was_read li (kids_at s) n 16 c 0 h.read)).took

  pub passed : Passed pool s n
  passed =
      record {
        whole = h.whole;
        small = h.small;
        bytes = h.bytes;
        bounds = h.bounds;
        members = λ k l. let q = laid_members (kids_at s) n 0 (part li (kids_at s) n 16 c 0).trees whole.laid k (omega arith) (omega (arith, whole.end, h.all)) in omega (arith, whole.end, h.all);
      }

  pub all_fits : (b : Bool) → AllFit pool s n b → b ≡ true → Labelled pool s li n 16 c 0 Member (Ok n)
  unfolding walked_to
  all_fits b f e =
      record { says = rw (h.all, none_misnamed pool s n (f.each e) Member 0 (part li (kids_at s) n 16 c 0).trees whole.laid (begins_member pool s _ 0 Member refl)) }

-- ---- one record

members_at : (s : List ℕ) (k : ℕ) → 2 ≤ (rec_at s k).kind → ok_bytes s k ≡ true → ((rec_at s k).kind ≡ kids_at s k + 1) × ((rec_at s k).kind ≤ 3)
members_at s k l e =
    let b = (rec_at s k).kind in
    let f : (ltb b 4 && eqb (kids_at s k) (b - 1)) ≡ true = rw (ne_eqb b 1 (λ z. omega arith)) at (sym (kids_nested b (kids_at s k) (λ z. omega arith)) ∙ (rules s k e).kids) in
    let t = both (ltb b 4) (eqb (kids_at s k) (b - 1)) f in
    let x = ltb-true b 4 t.0 in
    let y = eqb-true (kids_at s k) (b - 1) t.1 in
    (omega arith, omega arith)

pub seated : (pool s : List ℕ) (n k : ℕ) → Passed pool s n → k < n → Seated pool s k
seated pool s n k h l =
    let m = h.members k l in
    record {
      room = omega (arith, h.whole);
      bytes = lowest_none (ok_bytes s) 0 n h.bytes k (omega arith) (omega arith);
      bounds = λ j q. lowest_none (in_pool (length pool) s) 0 n h.bounds j (omega arith) (omega arith);
    }

first_member : (b : ℕ) → b < 2 → first (kind_from b) ≡ Member
unfolding kind_from
first_member zero l = refl
first_member (suc zero) l = refl
first_member (suc (suc b)) l = absurd (omega arith)

first_element : (b : ℕ) → b ≡ 2 → first (kind_from b) ≡ Element
unfolding kind_from
first_element b e = rw e

first_key : (b : ℕ) → 2 ≤ b → (b ≡ 2 → ⊥) → first (kind_from b) ≡ Key
unfolding kind_from
first_key b l e = rw (ne_eqb b 0 (λ z. omega arith), ne_eqb b 1 (λ z. omega arith), ne_eqb b 2 e)

module _ (pool s : List ℕ) (k : ℕ) where
  pub fits_not : Fits pool s k false
  fits_not = record { inside = λ z. absurd (true≢false (sym z)) }

  module _ (h : Seated pool s k) where
    pub fits_member : (rec_at s k).kind < 2 → Fits pool s k true
    fits_member l = record { inside = λ _. begins_member pool s (kids_at s k) (k + 1) (first (kind_at s k)) (first_member (rec_at s k).kind l) }

    module _ (l : 2 ≤ (rec_at s k).kind) where
      count : ((rec_at s k).kind ≡ kids_at s k + 1) × ((rec_at s k).kind ≤ 3)
      count = members_at s k l h.bytes

      pub next_asks : ((k + 1) * 24 + 24 ≤ length s) × (in_pool (length pool) s (k + 1) ≡ true)
      next_asks = let d = count.0 in (omega (arith, h.room), h.bounds (k + 1) (omega arith))

      pub fits_element : (rec_at s k).kind ≡ 2 → (x : Bool) → x ≡ fitting Element (name_of pool s (k + 1)) → Fits pool s k x
      fits_element e x ex =
          let d = count.0 in
          record { inside = λ z. record { own = λ _. rw (first_element (rec_at s k).kind e) (sym ex ∙ z); next = λ q. absurd (omega arith) } }

      module _ (e : (rec_at s k).kind ≡ 2 → ⊥) where
        two : kids_at s k ≡ 2
        two = let d = count.0 in let o = count.1 in omega (arith, e)

        pub after_asks : ((k + 2) * 24 + 24 ≤ length s) × (in_pool (length pool) s (k + 2) ≡ true)
        after_asks = let c = two in (omega (arith, h.room), h.bounds (k + 2) (omega arith))

        pub fits_entry : (m : ℕ) (x y : Bool) → m ≡ kids_at s (k + 1) → m ≤ 0 → x ≡ fitting Key (name_of pool s (k + 1)) → not x ≡ false → y ≡ fitting Value (name_of pool s (k + 2)) → Fits pool s k y
        fits_entry m x y em lm ex tx ey =
            let t : k + 1 + 1 ≡ k + 2 = omega arith in
            record { inside = λ z. record { own = λ _. rw (first_key (rec_at s k).kind l e) (sym ex ∙ not-false x tx); next = λ q. inr (two, omega arith, rw (first_key (rec_at s k).kind l e, t) (sym ey ∙ z)) } }

pub ruleset fitted = (fits_not, fits_member, fits_element, fits_entry)

-- ---- all records

pub record FitBelow (pool s : List ℕ) (n i : ℕ) : Type 0 where
  pub within : i ≤ n
  pub each : (k : ℕ) → k < i → Begins pool s (kids_at s k) (k + 1) (first (kind_at s k))

module _ (pool s : List ℕ) (n : ℕ) where
  pub fit_starts : FitBelow pool s n 0
  fit_starts = record { within = omega arith; each = λ k l. absurd (omega arith) }

  pub fit_stops : AllFit pool s n false
  fit_stops = record { each = λ z. absurd (true≢false (sym z)) }

  pub fit_level : (b : Bool) → (b ≡ false → lowest (flat s) 0 n ≡ none) → not b ≡ true → AllFit pool s n true
  unfolding flat
  fit_level b h t = record { each = λ _ k l. begins_member pool s (kids_at s k) (k + 1) (first (kind_at s k)) (first_member (rec_at s k).kind (ltb-true (rec_at s k).kind 2 (lowest_none (flat s) 0 n (h (not-true b t)) k (omega arith) (omega arith)))) }

  module _ (i : ℕ) (h : FitBelow pool s n i) where
    pub fit_ends : n ≤ i → AllFit pool s n true
    fit_ends l = record { each = λ _ k q. h.each k (omega arith) }

    pub fit_goes : (b : Bool) → i < n → Fits pool s i b → not b ≡ false → FitBelow pool s n (i + 1)
    fit_goes b l f t = record { within = omega arith; each = λ k q. ⊎_elim (λ (a : k < i). h.each k a) (λ (a : i ≤ k). let e : k ≡ i = omega arith in rw e (f.inside (not-false b t))) (lt_or_le k i) }

pub ruleset fit_all = (fit_starts, fit_stops, fit_level, fit_ends, fit_goes, seated)
