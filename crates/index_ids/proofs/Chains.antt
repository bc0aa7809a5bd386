-- Laws of chains, over any buckets and any test: slots of other buckets never pass the test, so a search may go from link to link.
use mathlib.Core.Path.{◌≡◌, refl, sym, ap, ◌∙◌}
use mathlib.Core.Logic.{◌⊎◌, inl, inr, ⊎_elim}
use mathlib.Core.Bool.{Bool, true, false}
use mathlib.Core.List.{List}
use Prim.Native.Nat.{ℕ, zero, suc, ◌+◌, ◌-◌, ◌<◌, ◌≤◌}
use native.Mathlib.Numerals.{add-one}
use native.Mathlib.Omega.{arith}
use borrow.Author.Tests.{eqb-true, eqb-false, eq-eqb, ne_eqb}
use lib.Dec.{eqb}
use lib.ListN.{length, get_or, set, length-set}
use lib.Seq.{get_or-set_same, get_or-set_other}
use Rattle.record.specs.declared.Slot.{Slot}
use Rattle.record.specs.Answers.{FoundSlot}
use Rattle.std.specs.Prelude.{Some}
use Rattle.record.specs.Says.{slot_before}
use Rattle.record.proofs.Slots.{the_slot}
use Rattle.index_ids.specs.Chain.{last, pick, lowest_below, Below, Chained, Cleared, Entered}

pub eqb_cases : (a b : ℕ) → (a ≡ b) ⊎ (a ≡ b → ⊥)
eqb_cases a b = go (eqb a b) refl
  where
    go : (t : Bool) → eqb a b ≡ t → (a ≡ b) ⊎ (a ≡ b → ⊥)
    go true e = inl (eqb-true a b e)
    go false e = inr (eqb-false a b e)

module _ (bucket : ℕ → ℕ) (b : ℕ) where
  pub last_in : (k : ℕ) → bucket k ≡ b → last bucket b (suc k) ≡ suc k
  unfolding last
  last_in k e = rw (eq-eqb (bucket k) b e, last)

  pub last_out : (k : ℕ) → (bucket k ≡ b → ⊥) → last bucket b (suc k) ≡ last bucket b k
  unfolding last
  last_out k e = rw (ne_eqb (bucket k) b e, last)

  pub last_zero : last bucket b 0 ≡ 0
  unfolding last
  last_zero = refl

  pub last_le : (k : ℕ) → last bucket b k ≤ k
  last_le zero = rw last_zero (omega arith)
  last_le (suc k) = ⊎_elim (λ e. rw (last_in k e) (omega arith)) (λ e. rw (last_out k e) (let h = last_le k in omega arith)) (eqb_cases (bucket k) b)

  -- a head or a link is the place of a slot of its bucket
  pub last_own : (k : ℕ) → last bucket b k ≡ last bucket b (last bucket b k)
  last_own zero = rw last_zero (sym last_zero)
  last_own (suc k) = ⊎_elim (λ e. rw (last_in k e) (sym (last_in k e))) (λ e. rw (last_out k e) (last_own k)) (eqb_cases (bucket k) b)

  pub own_in : (k : ℕ) → suc k ≡ last bucket b (suc k) → bucket k ≡ b
  own_in k h = ⊎_elim (λ e. e) (λ e. absurd (let l = last_le k in let g : suc k ≡ last bucket b k = h ∙ last_out k e in omega arith)) (eqb_cases (bucket k) b)

module _ (p : ℕ → Bool) where
  pub below_zero : (best : ℕ) → lowest_below p best 0 ≡ best
  unfolding lowest_below
  below_zero best = refl

  pub below_suc : (best k : ℕ) → lowest_below p best (suc k) ≡ lowest_below p (pick (p k) (suc k) best) k
  unfolding lowest_below
  below_suc best k = refl

  pub below_not : (best k : ℕ) → p k ≡ false → lowest_below p best (suc k) ≡ lowest_below p best k
  below_not best k e = below_suc best k ∙ rw e

  -- none passes, or one does and none below it
  pub none_below : (best k : ℕ) → ((i : ℕ) → i < k → p i ≡ false) → lowest_below p best k ≡ best
  none_below best zero f = below_zero best
  none_below best (suc k) f = below_not best k (f k (omega arith)) ∙ none_below best k (λ i l. f i (omega arith))

  pub one_below : (best k j : ℕ) → j < k → p j ≡ true → ((i : ℕ) → i < j → p i ≡ false) → lowest_below p best k ≡ suc j
  one_below best zero j l e f = absurd (omega arith)
  one_below best (suc k) j l e f = below_suc best k ∙ go (eqb_cases j k) (λ b q. one_below b k j q e f)
    where
      go : (j ≡ k) ⊎ (j ≡ k → ⊥) → ((b : ℕ) → j < k → lowest_below p b k ≡ suc j) → lowest_below p (pick (p k) (suc k) best) k ≡ suc j
      go (inl i) g = rw (sym (ap p i) ∙ e) (none_below (suc k) k (λ a q. f a (omega arith)) ∙ ap suc (sym i))
      go (inr i) g = g _ (omega arith)

  -- slots of other buckets can be passed over
  module _ (bucket : ℕ → ℕ) (b : ℕ) (only : (j : ℕ) → p j ≡ true → bucket j ≡ b) where
    never : (k : ℕ) → (bucket k ≡ b → ⊥) → p k ≡ false
    never k e = go (p k) refl
      where
        go : (t : Bool) → p k ≡ t → p k ≡ false
        go true h = absurd (e (only k h))
        go false h = h

    pub skip : (best k : ℕ) → lowest_below p best k ≡ lowest_below p best (last bucket b k)
    skip best zero = rw (last_zero bucket b)
    skip best (suc k) = ⊎_elim (λ e. rw (last_in bucket b k e)) (λ e. rw (last_out bucket b k e, below_not best k (never k e)) (skip best k)) (eqb_cases (bucket k) b)

-- A test picks the place.
pub better_is : (t r : Bool) (at best : ℕ) → r ≡ t → r ≡ true → at ≡ pick t at best
better_is t r at best e h = rw (sym e ∙ h)

pub better_not : (t r : Bool) (at best : ℕ) → r ≡ t → r ≡ false → best ≡ pick t at best
better_not t r at best e h = rw (sym e ∙ h)

-- ---- what a search finds is a slot of those searched

below_most : (p : ℕ → Bool) (b best k : ℕ) → best ≤ b → k ≤ b → lowest_below p best k ≤ b
below_most p b best zero l q = rw (below_zero p best) l
below_most p b best (suc k) l q = rw (below_suc p best k) (below_most p b (pick (p k) (suc k) best) k (go (p k)) (omega arith))
  where
    go : (t : Bool) → pick t (suc k) best ≤ b
    go true = q
    go false = l

module _ (p : ℕ → Bool) (k : ℕ) (w : FoundSlot) (e : w ≡ slot_before (lowest_below p 0 k)) where
  pub found_within : (s : Slot) → w ≡ Some s → s.0 < k
  found_within s q = let z = the_slot (lowest_below p 0 k) w s e q in let y = below_most p k 0 k (omega arith) (omega arith) in omega arith

  pub found_below_room : k ≤ 1024 → Below w
  found_below_room l = record { small = λ s q. let z = found_within s q in omega arith }

-- What is left of a search: the slots below the place `at`, which is of the bucket b, or 0. W is the whole answer.
pub record Left (bucket : ℕ → ℕ) (p : ℕ → Bool) (b k W best at : ℕ) : Type 0 where
  pub whole : W ≡ lowest_below p best at
  pub own : at ≡ last bucket b at
  pub small : at ≤ k

module _ (bucket : ℕ → ℕ) (p : ℕ → Bool) (b k : ℕ) (only : (j : ℕ) → p j ≡ true → bucket j ≡ b) (heads next : List ℕ) (ch : Chained bucket heads next k) where
  pub chain_starts : (at : ℕ) → b < 1024 → at ≡ get_or heads b 0 → Left bucket p b k (lowest_below p 0 k) 0 at
  chain_starts at l e =
      rw (e ∙ ch.head b l)
      record { whole = skip p bucket b only 0 k; own = last_own bucket b k; small = last_le bucket b k }

  pub chain_goes : (W best best' at at' : ℕ) → Left bucket p b k W best at → 0 < at → best' ≡ pick (p (at - 1)) at best → at' ≡ get_or next (at - 1) 0 → Left bucket p b k W best' at'
  chain_goes W best best' zero at' h l eb ea = absurd (omega arith)
  chain_goes W best best' (suc j) at' h l eb ea =
      let i : suc j - 1 ≡ j = omega arith in
      let m = h.small in
      let o : bucket j ≡ b = own_in bucket b j h.own in
      let g : at' ≡ last bucket b j = rw i at ea ∙ ch.link j (omega arith) ∙ ap (λ z. last bucket z j) o in
      let f : best' ≡ pick (p j) (suc j) best = rw i at eb in
      rw g
      record {
        whole = h.whole ∙ below_suc p best j ∙ skip p bucket b only (pick (p j) (suc j) best) j ∙ ap (λ z. lowest_below p z (last bucket b j)) (sym f);
        own = last_own bucket b j;
        small = let z = last_le bucket b j in omega arith;
      }

  pub chain_falls : (W best at at' : ℕ) → Left bucket p b k W best at → 0 < at → at' ≡ get_or next (at - 1) 0 → at' < at
  chain_falls W best zero at' h l ea = absurd (omega arith)
  chain_falls W best (suc j) at' h l ea =
      let i : suc j - 1 ≡ j = omega arith in
      let m = h.small in
      let z = last_le bucket (bucket j) j in
      let g : at' ≡ last bucket (bucket j) j = rw i at ea ∙ ch.link j (omega arith) in
      omega arith

  pub chain_ends : (W best at : ℕ) → Left bucket p b k W best at → at ≤ 0 → best ≡ W
  chain_ends W best at h l = let e : at ≡ 0 = omega arith in sym (h.whole ∙ rw e (below_zero p best))

-- Entering the next slot.
module _ (bucket : ℕ → ℕ) (k : ℕ) where
  entered_head : (heads : List ℕ) (b : ℕ) → length heads ≡ 1024 → ((c : ℕ) → c < 1024 → get_or heads c 0 ≡ last bucket c k) → b ≡ bucket k → (c : ℕ) → c < 1024 → get_or (set heads b (suc k)) c 0 ≡ last bucket c (suc k)
  entered_head heads b n h eb c l =
      ⊎_elim
      (λ e. rw (← e) (get_or-set_same heads b (suc k) 0 (let q = e in omega arith) ∙ sym (last_in bucket b k (sym eb))))
      (λ e. get_or-set_other heads b c (suc k) 0 (λ q. e (sym q)) ∙ h c l ∙ sym (last_out bucket c k (λ q. e (eb ∙ q))))
      (eqb_cases b c)

  entered_link : (heads next : List ℕ) (b : ℕ) → k < length next → b < 1024 → ((c : ℕ) → c < 1024 → get_or heads c 0 ≡ last bucket c k) → ((j : ℕ) → j < k → get_or next j 0 ≡ last bucket (bucket j) j) → b ≡ bucket k → (j : ℕ) → j < suc k → get_or (set next k (get_or heads b 0)) j 0 ≡ last bucket (bucket j) j
  entered_link heads next b n lb h g eb j l =
      ⊎_elim
      (λ e. rw (← e) (get_or-set_same next k (get_or heads b 0) 0 n ∙ h b lb ∙ rw eb))
      (λ e. get_or-set_other next k j (get_or heads b 0) 0 (λ q. e (sym q)) ∙ g j (omega arith))
      (eqb_cases k j)

  pub chain_enters : (heads next heads' next' : List ℕ) (b : ℕ) → Chained bucket heads next k → Entered heads next b k heads' next' → k < 1024 → b < 1024 → b ≡ bucket k → Chained bucket heads' next' (k + 1)
  chain_enters heads next heads' next' b ch en l lb eb =
      rw (en.heads_set, en.next_set, add-one k)
      record {
        heads_room = length-set heads b (suc k) ∙ ch.heads_room;
        next_room = length-set next k (get_or heads b 0) ∙ ch.next_room;
        head = entered_head heads b ch.heads_room ch.head eb;
        link = entered_link heads next b (let q = ch.next_room in omega arith) lb ch.head ch.link eb;
      }

-- An index of nothing.
pub chain_fresh : (bucket : ℕ → ℕ) (heads next : List ℕ) → Cleared heads → length next ≡ 1024 → Chained bucket heads next 0
chain_fresh bucket heads next c e =
    record { heads_room = c.room; next_room = e; head = λ b l. c.none b l ∙ sym (last_zero bucket b); link = λ j l. absurd (omega arith) }
