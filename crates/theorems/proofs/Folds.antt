-- The look-up that forgets case takes the only one of a list that has the rows that match, in slot order. Where folding
-- changes no name, what matches has the very name that is asked, so it is what the exact look-up finds.
use Prim.Native.Nat.{ℕ, ◌<◌, ◌≤◌}
use mathlib.Core.Path.{◌≡◌, refl, sym, ap, subst, ◌∙◌}
use mathlib.Core.Logic.{◌⊎◌, inl, inr, ⊎_elim}
use mathlib.Core.Bool.{Bool, true, false, cond}
use mathlib.Core.List.{List, [], ◌∷◌, ◌++◌, map}
use mathlib.Core.Option.{Option, none, some}
use native.Mathlib.Omega.{arith}
use Rattle.paper.specs.Answer.{Answer, ok, refused, ◌>>=◌, same, repeated}
use Rattle.paper.specs.Refusals.{ambiguous}
use Rattle.paper.specs.Forest.{Forest, node, size, mapped, ◌then◌}
use Rattle.paper.specs.Field.{Field}
use Rattle.paper.specs.Rows.{Row, Start, top, row, below, beside, rows, dotted, skipped, entered, look_name}
use Rattle.paper.specs.Folded.{fold, folded, matching, or_short, only, look_folded}
use Rattle.paper.specs.Sound.{text, names, sound}
use Rattle.paper.specs.Bytes.{turned}
use Rattle.paper.specs.Entries.{read, find_name, find_folded}
use Rattle.paper.specs.Outcome.{found}
use Rattle.paper.specs.Sample.{T}
use Rattle.laws.specs.Members.{◌∈◌}
use Rattle.laws.proofs.Basics.{unbind, refused≢ok, ok_is, some_is, none≢some, fault_ok, none_twice, distinct_one}
use Rattle.laws.proofs.Same.{same_self}
use Rattle.laws.proofs.Folding.{folded_twice, folded_append, folded_dotted}
use Rattle.laws.proofs.Ordered.{row_fulls, Rising, rows_rise, rising_kept, rising_one}
use Rattle.laws.proofs.Rows.{Called, name_found, name_not_found, matching_in, in_matching, by_full, by_short, matched}
use Rattle.laws.proofs.Rows.{or_short_in, in_or_short, only_in, rows_have}
use Rattle.theorems.specs.Folds.{Fits, Matches, Alone, Second, ByRows, fold_name, Plain, CaseForgotten}
use Rattle.theorems.specs.Folds.{Capitals, FoldingMet}
use Rattle.theorems.proofs.Opened.{read_base}

-- ---- the only one of a list that rises

only_none : (s : List Row) → ((r : Row) → r ∈ s → ⊥) → only s ≡ ok none
only_none [] h = refl
only_none (r ∷ s) h = absurd (h r (inl refl))

nothing_only : (s : List Row) → only s ≡ ok none → (r : Row) → r ∈ s → ⊥
nothing_only [] e r i = i
nothing_only (a ∷ []) e r i = none≢some (sym (ok_is e))
nothing_only (a ∷ b ∷ s) e r i = refused≢ok e

only_alone : (s : List Row) → Rising s → (r : Row) → r ∈ s → ((q : Row) → q ∈ s → q.slot ≡ r.slot)
    → only s ≡ ok (some r)
only_alone [] h r i f = absurd i
only_alone (a ∷ []) h r (inl e) f = rw e
only_alone (a ∷ []) h r (inr i) f = absurd i
only_alone (a ∷ b ∷ s) h r i f =
    let l = h.0 b (inl refl) in let u = f a (inl refl) in let v = f b (inr (inl refl)) in absurd (omega arith)

alone_only : (s : List Row) (r : Row) → only s ≡ ok (some r) → (q : Row) → q ∈ s → q.slot ≡ r.slot
alone_only [] r e q i = absurd i
alone_only (a ∷ []) r e q (inl i) = ap (λ (z : Row). z.slot) (i ∙ some_is (ok_is e))
alone_only (a ∷ []) r e q (inr i) = absurd i
alone_only (a ∷ b ∷ s) r e q i = absurd (refused≢ok e)

lone : (a r : Row) → r ∈ (a ∷ []) → r.slot ≡ a.slot
lone a r (inl e) = ap (λ (z : Row). z.slot) e
lone a r (inr h) = absurd h

-- All but the first stand at the second or behind it.
behind : (a b : Row) (s : List Row) → Rising (a ∷ b ∷ s) → (r : Row) → r ∈ (a ∷ b ∷ s)
    → (r.slot ≡ a.slot) ⊎ (b.slot ≤ r.slot)
behind a b s h r (inl e) = inl (ap (λ (z : Row). z.slot) e)
behind a b s h r (inr (inl e)) = inr (let z = ap (λ (z : Row). z.slot) e in omega arith)
behind a b s h r (inr (inr i)) = inr (let l = h.1.0 r i in omega arith)

-- So what stands second is the second: a and b are the first two slots, f and g the two that are told.
second_slot : (a b f g p : ℕ) → a < b → f < g → g ≡ p → (f ≡ a) ⊎ (b ≤ f) → (g ≡ a) ⊎ (b ≤ g)
    → (a ≡ f) ⊎ (p ≤ a) → (b ≡ f) ⊎ (p ≤ b) → b ≡ p
second_slot a b f g p l m e hf hg ha hb =
    ⊎_elim
    (λ u. ⊎_elim (λ v. absurd (omega arith)) (λ v. ⊎_elim (λ w. absurd (omega arith)) (λ w. omega arith) hg) hb)
    (λ u. ⊎_elim (λ v. absurd (omega arith)) (λ v. absurd (omega arith)) hf)
    ha

-- ---- the rows that match, as a list

module _ (t : Forest Field) (x : List ℕ) where
  abbrev FitsFull : Row → Type 0
  FitsFull = Fits (λ r. r.full) t x

  abbrev FitsShort : Row → Type 0
  FitsShort = Fits (λ r. r.short) t x

  in_full : (r : Row) → FitsFull r → r ∈ by_full t x
  in_full = in_matching t (λ r. r.full) x

  full_in : (r : Row) → r ∈ by_full t x → FitsFull r
  full_in = matching_in t (λ r. r.full) x

  in_matched : (r : Row) → Matches t x r → r ∈ matched t x
  in_matched r h =
      in_or_short (by_full t x) (by_short t x) r
      (⊎_elim (λ k. inl (in_full r k))
      (λ k. inr (λ q i. k.0 q (full_in q i), in_matching t (λ r. r.short) x r k.1)) h)

  matched_in : (r : Row) → r ∈ matched t x → Matches t x r
  matched_in r h =
      ⊎_elim (λ k. inl (full_in r k))
      (λ k. inr (λ q f. k.0 q (in_full q f), matching_in t (λ r. r.short) x r k.1))
      (or_short_in (by_full t x) (by_short t x) r h)

  matched_rise : Rising (matched t x)
  unfolding matching
  matched_rise = go (by_full t x) (by_short t x) (rising_kept _ (rows top t) rise) (rising_kept _ (rows top t) rise)
    where
      rise : Rising (rows top t)
      rise = rows_rise top t

      go : (a b : List Row) → Rising a → Rising b → Rising (or_short a b)
      go [] b h g = g
      go (r ∷ a) b h g = h

  -- ---- none, or one alone

  folded_none : ((r : Row) → Matches t x r → ⊥) → look_folded t x ≡ ok none
  unfolding look_folded
  folded_none h = only_none (matched t x) (λ r i. h r (matched_in r i))

  none_folded : look_folded t x ≡ ok none → (r : Row) → Matches t x r → ⊥
  unfolding look_folded
  none_folded e r m = nothing_only (matched t x) e r (in_matched r m)

  folded_alone : (r : Row) → Matches t x r → Alone t x r → look_folded t x ≡ ok (some r)
  unfolding look_folded
  folded_alone r m a = only_alone (matched t x) matched_rise r (in_matched r m) (λ q i. a q (matched_in q i))

  alone_folded : (r : Row) → look_folded t x ≡ ok (some r) → Matches t x r × Alone t x r
  unfolding look_folded
  alone_folded r e = (matched_in r (only_in (matched t x) r e), λ q m. alone_only (matched t x) r e q (in_matched q m))

  -- Whether a row fits by its full name.
  fits_full : ((r : Row) → FitsFull r → ⊥) ⊎ ((r : Row) × FitsFull r)
  fits_full = go (by_full t x) refl
    where
      go : (s : List Row) → by_full t x ≡ s → ((r : Row) → FitsFull r → ⊥) ⊎ ((r : Row) × FitsFull r)
      go [] e = inl (λ r f. subst (λ s. r ∈ s) e (in_full r f))
      go (r ∷ s) e = inr (r, full_in r (subst (λ s. r ∈ s) (sym e) (inl refl)))

  -- What the exact look-up finds matches, if nothing else does: a row that fits by its full name is that one.
  pub exact_alone : (r : Row) → look_name t x ≡ some r → Alone t x r → look_folded t x ≡ ok (some r)
  exact_alone r e a = let f = name_found t x r e in folded_alone r (go f.0 f.1) a
    where
      go : r ∈ rows top t → Called t x r → Matches t x r
      go i (inl q) = inl (i, ap folded q)
      go i (inr k) =
          ⊎_elim (λ no. inr (no, (i, ap folded k.1)))
          (λ f.
          let one = rising_one (rows top t) (rows_rise top t) f.0 r f.1.0 i (a f.0 (inl f.1)) in
          inl (rw one at f.1))
          fits_full

  -- ---- two that match

  abbrev Listed : List Row → Type 0
  Listed s = ((r : Row) → r ∈ s → Matches t x r) × ((r : Row) → Matches t x r → r ∈ s)

  two_told : (s : List Row) → Rising s → Listed s → (n l p : ℕ) → only s ≡ refused n l p
      → (n ≡ 21) × (l ≡ 0) × Second t x p
  two_told [] h m n l p e = absurd (refused≢ok (sym e))
  two_told (a ∷ []) h m n l p e = absurd (refused≢ok (sym e))
  two_told (a ∷ b ∷ s) h m n l p e =
      let place : b.slot ≡ p = cc in (
        cc,
        cc,
        record {
          first = a;
          second = b;
          first_matches = m.0 a (inl refl);
          second_matches = m.0 b (inr (inl refl));
          in_order = h.0 b (inl refl);
          its_slot = place;
          others_behind = λ q k. rw place at (behind a b s h q (m.1 q k));
        },
      )

  told_two : (s : List Row) → Rising s → Listed s → (p : ℕ) → Second t x p → only s ≡ ambiguous p
  told_two [] h m p w = absurd (m.1 w.first w.first_matches)
  told_two (a ∷ []) h m p w =
      let f = lone a w.first (m.1 w.first w.first_matches) in
      let g = lone a w.second (m.1 w.second w.second_matches) in
      let l = w.in_order in absurd (omega arith)
  told_two (a ∷ b ∷ s) h m p w =
      ap ambiguous
      (second_slot a.slot b.slot w.first.slot w.second.slot p
      (h.0 b (inl refl)) w.in_order w.its_slot
      (behind a b s h w.first (m.1 w.first w.first_matches))
      (behind a b s h w.second (m.1 w.second w.second_matches))
      (w.others_behind a (m.0 a (inl refl))) (w.others_behind b (m.0 b (inr (inl refl)))))

  listed : Listed (matched t x)
  listed = (matched_in, in_matched)

  pub ambiguous_two : (n l p : ℕ) → look_folded t x ≡ refused n l p → (n ≡ 21) × (l ≡ 0) × Second t x p
  unfolding look_folded
  ambiguous_two = two_told (matched t x) matched_rise listed

  two_ambiguous : (p : ℕ) → Second t x p → look_folded t x ≡ ambiguous p
  unfolding look_folded
  two_ambiguous = told_two (matched t x) matched_rise listed

  pub by_rows : ByRows t x
  by_rows =
      record {
        nothing = (none_folded, folded_none);
        one = λ r. (alone_folded r, λ h. folded_alone r h.0 h.1);
        two = λ p. (λ e. (ambiguous_two 21 0 p e).2, two_ambiguous p);
      }

-- ---- names that fold alike

look_alike : (t : Forest Field) (x y : List ℕ) → folded x ≡ folded y → look_folded t x ≡ look_folded t y
unfolding look_folded matching
look_alike t x y e = rw e

find_alike : (s p x y : List ℕ) → folded x ≡ folded y → find_folded s p x ≡ find_folded s p y
unfolding find_folded look_folded matching
find_alike s p x y e = rw e

pub case_forgotten : CaseForgotten
case_forgotten =
    record {
      alike = look_alike;
      once = λ t x. look_alike t (folded x) x (folded_twice x);
      of_bytes = λ s p x. find_alike s p (folded x) x (folded_twice x);
    }

-- ---- where nothing is to be folded

-- Of a tree whose names were folded, each row's names are.
abbrev FoldedRow : Row → Type 0
FoldedRow r = (folded r.full ≡ r.full) × (folded r.short ≡ r.short)

abbrev FoldedStart : Start → Forest Field → Type 0
FoldedStart s t = (folded s.full ≡ s.full) × (folded s.short ≡ s.short)

stays : (x y : List ℕ) → folded x ≡ x → folded (x ++ folded y) ≡ x ++ folded y
stays x y e = folded_append x (folded y) ∙ rw (e, folded_twice y)

stays_dotted : (x y : List ℕ) → folded x ≡ x → folded (dotted x (folded y)) ≡ dotted x (folded y)
stays_dotted x y e = folded_dotted x (folded y) ∙ rw (e, folded_twice y)

fold_step : (s : Start) (f : Field) (m u : Forest Field) → FoldedStart s (node f m u)
    → FoldedRow (row s (fold_name f) (mapped fold_name m)) × FoldedStart (below s (fold_name f)) m
    × FoldedStart (beside s (mapped fold_name m)) u
fold_step s f m u h = (
  (stays s.full f.name h.0, stays s.short f.name h.1),
  (stays_dotted s.full f.name h.0, go (skipped s.role f.kind)),
  h,
)
  where
    go : (b : Bool) → folded (cond b s.short (dotted s.short (folded f.name)))
        ≡ cond b s.short (dotted s.short (folded f.name))
    go true = h.1
    go false = stays_dotted s.short f.name h.1

plain_rows : (t : Forest Field) → mapped fold_name t ≡ t → (r : Row) → r ∈ rows top t → FoldedRow r
unfolding folded
plain_rows t e r i =
    rows_have fold_name FoldedRow FoldedStart fold_step top t (refl, refl) r (rw e i)

-- 8: a full name stands once.
one_full : (t : Forest Field) → sound 0 t [] ≡ ok tt → (r q : Row) → r ∈ rows top t → q ∈ rows top t
    → r.full ≡ q.full → r ≡ q
unfolding sound
one_full t e =
    unbind _ _ e λ _ _ a₁. unbind _ _ a₁ λ _ e₂ _.
    let d = none_twice same same_self 0 (names [] t) (fault_ok 8 0 (repeated same [] 0 (names [] t)) e₂) in
    distinct_one (λ r. r.full) (rows top t) (rw (row_fulls top t) d)

module _ (t : Forest Field) (x : List ℕ) (tested : sound 0 t [] ≡ ok tt) (plain : Plain t x) where
  -- So what matches is called by the very name.
  full_is : (r : Row) → FitsFull t x r → r.full ≡ x
  full_is r f = sym (plain_rows t plain.tree_folded r f.0).0 ∙ f.1 ∙ plain.name_folded

  short_is : (r : Row) → FitsShort t x r → r.short ≡ x
  short_is r f = sym (plain_rows t plain.tree_folded r f.0).1 ∙ f.1 ∙ plain.name_folded

  plain_alone : (r : Row) → r ∈ rows top t → Called t x r → Alone t x r
  plain_alone r i (inl e) q (inl f) = ap (λ (z : Row). z.slot) (one_full t tested q r f.0 i (full_is q f ∙ sym e))
  plain_alone r i (inl e) q (inr f) = absurd (f.0 r (i, ap folded e))
  plain_alone r i (inr k) q (inl f) = absurd (k.0 q f.0 (full_is q f))
  plain_alone r i (inr k) q (inr f) = plain.one_short q r f.1.0 i (short_is q f.1) k.1

  none_matches : look_name t x ≡ none → (r : Row) → Matches t x r → ⊥
  none_matches e r (inl f) = (name_not_found t x e r f.0).0 (full_is r f)
  none_matches e r (inr f) = (name_not_found t x e r f.1.0).1 (short_is r f.1)

  pub plain_exact : look_folded t x ≡ ok (look_name t x)
  plain_exact = go (look_name t x) refl
    where
      go : (o : Option Row) → look_name t x ≡ o → look_folded t x ≡ ok o
      go none e = folded_none t x (none_matches e)
      go (some r) e = let f = name_found t x r e in exact_alone t x r e (plain_alone r f.0 f.1)

pub plain_exact_read : (s p x : List ℕ) → ((t : Forest Field) → read s p ≡ ok t → Plain t x)
    → find_folded s p x ≡ find_name s p x
unfolding find_folded find_name ◌>>=◌
plain_exact_read s p x h = go (read s p) refl
  where
    go : (a : Answer (Forest Field)) → read s p ≡ a
        → (a >>= λ t. look_folded t x) ≡ (a >>= λ t. ok (look_name t x))
    go (ok t) e = plain_exact t x (read_base s p t e).sound_tree (h t e)
    go (refused n l k) e = refl

-- ---- they are met

shorts_once : (t : Forest Field) → repeated same [] 0 (map (λ r. r.short) (rows top t)) ≡ none
    → (x : List ℕ) (r q : Row) → r ∈ rows top t → q ∈ rows top t → r.short ≡ x → q.short ≡ x → r.slot ≡ q.slot
shorts_once t e x r q i j u v =
    let d = none_twice same same_self 0 (map (λ r. r.short) (rows top t)) e in
    ap (λ (z : Row). z.slot) (distinct_one (λ r. r.short) (rows top t) d r q i j (u ∙ sym v))

pub folding_met : FoldingMet
unfolding size mapped ◌then◌ rows entered look_name fold folded matching look_folded found turned
folding_met =
    record {
      plain = record { tree_folded = refl; name_folded = refl; one_short = shorts_once T refl (text "visits.day") };
      plain_found = refl;
      alone_found = refl;
      alone = λ r e. (alone_folded Capitals (text "Cost") r (ap (λ (o : Option Row). ok o) e)).1;
      other_case = refl;
      second_found = refl;
      second = (ambiguous_two Capitals (text "day") 21 0 2 refl).2;
    }
