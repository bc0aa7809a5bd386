-- A name against what is left of the asked name: it is that, or it and a dot begin it; with case or without. `search fitting`,
-- `search small`.
use mathlib.Core.Path.{◌≡◌, refl, sym, ap, ◌∙◌}
use mathlib.Core.Bool.{Bool, true, false, ◌&&◌, cond}
use mathlib.Core.List.{List, [], ◌∷◌, ◌++◌}
use mathlib.Core.Option.{none, some}
use Prim.Native.Nat.{ℕ, suc, ◌+◌, ◌-◌, ◌<◌, ◌≤◌}
use native.Mathlib.Omega.{arith}
use borrow.Author.Tests.{eq-eqb, ne_eqb, lt-ltb, le-ltb, eqb-true, eqb-false}
use lib.Dec.{eqb}
use lib.ListN.{length, get_or, take, drop, length-drop}
use lib.Seq.{drop-drop, get_or-drop, take_all}
use Rattle.paper.specs.declared.Kind.{Kind}
use Rattle.paper.specs.declared.Role.{Role}
use Rattle.paper.specs.Answer.{same}
use Rattle.paper.specs.Field.{first}
use Rattle.paper.specs.Rows.{skipped}
use Rattle.laws.proofs.Finding.{eqb_flip}
use Rattle.laws.proofs.Folding.{fold_dot, folded_length, folded_take, folded_drop, folded_at}
use Rattle.record.specs.Trees.{Trees}
use Rattle.plan.specs.Named.{names_in, kinds_in}
use Rattle.record.specs.Answers.{FoundSlot}
use Rattle.std.specs.Prelude.{Some, None}
use Rattle.index_ids.specs.Chain.{held}
use Rattle.index_turns.specs.declared.Fit.{Fit}
use Rattle.index_turns.specs.declared.Fit.TheVariants.{Whole, Prefix, Neither}
use Rattle.index_turns.specs.Turn.{spelt, strip, left_at, fits, fit_number, deeper, inside, own, own_slot, Entered}
use Rattle.plan.specs.declared.PlanRows.{PlanRows}

-- ---- names as they are compared

pub spelt_length : (b : Bool) (x : List ℕ) → length (spelt b x) ≡ length x
unfolding spelt
spelt_length true x = folded_length x
spelt_length false x = refl

spelt_part : (b : Bool) (n pos : ℕ) (x : List ℕ) → take n (drop pos (spelt b x)) ≡ spelt b (take n (drop pos x))
unfolding spelt
spelt_part true n pos x = ap (take n) (folded_drop pos x) ∙ folded_take n (drop pos x)
spelt_part false n pos x = refl

spelt_dot : (b : Bool) (x : List ℕ) (k : ℕ) → eqb (get_or (spelt b x) k 0) 46 ≡ eqb (get_or x k 0) 46
unfolding spelt
spelt_dot true x k = ap (λ (i : ℕ). eqb i 46) (folded_at x k) ∙ fold_dot (get_or x k 0)
spelt_dot false x k = refl

-- ---- `fits`, by the lengths

under_lengths : (p y : List ℕ) → length y < length p → fits p y ≡ 0
unfolding fits
under_lengths [] y l = absurd (omega arith)
under_lengths (a ∷ p) [] l = refl
under_lengths (a ∷ p) (b ∷ y) l = go (eqb a b) (under_lengths p y (omega arith))
  where
    go : (t : Bool) → fits p y ≡ 0 → cond t (fits p y) 0 ≡ 0
    go true e = e
    go false e = refl

equal_lengths : (p y : List ℕ) → length y ≡ length p → fits p y ≡ cond (same p y) 1 0
unfolding fits
equal_lengths [] [] l = refl
equal_lengths [] (b ∷ y) l = absurd (omega arith)
equal_lengths (a ∷ p) [] l = absurd (omega arith)
equal_lengths (a ∷ p) (b ∷ y) l = go (eqb a b) (equal_lengths p y (omega arith))
  where
    go : (t : Bool) → fits p y ≡ cond (same p y) 1 0 → cond t (fits p y) 0 ≡ cond (t && same p y) 1 0
    go true e = e
    go false e = refl

over_lengths : (p y : List ℕ) → length p < length y
    → fits p y ≡ cond (same p (take (length p) y) && eqb (get_or y (length p) 0) 46) 2 0
unfolding fits
over_lengths [] [] l = absurd (omega arith)
over_lengths [] (b ∷ y) l = refl
over_lengths (a ∷ p) [] l = absurd (omega arith)
over_lengths (a ∷ p) (b ∷ y) l = go (eqb a b) (same p (take (length p) y)) (over_lengths p y (omega arith))
  where
    go : (t u : Bool) → fits p y ≡ cond (u && eqb (get_or y (length p) 0) 46) 2 0
        → cond t (fits p y) 0 ≡ cond ((t && u) && eqb (get_or y (length p) 0) 46) 2 0
    go true u e = e
    go false u e = refl

-- ---- the paths of `fit`

module _ (nm x : List ℕ) (pos : ℕ) (b : Bool) (l : pos ≤ length x) where
  abbrev left : List ℕ
  left = drop pos (spelt b x)

  left_length : length (drop pos (spelt b x)) ≡ length x - pos
  left_length = length-drop pos (spelt b x) ∙ ap (λ (i : ℕ). i - pos) (spelt_length b x)

  pub fit_none : length x - pos < length nm → 0 ≡ fits (spelt b nm) (drop pos (spelt b x))
  fit_none s = sym (under_lengths (spelt b nm) (drop pos (spelt b x)) (omega (arith, left_length, spelt_length b nm)))

  module _ (room : length nm ≤ length x - pos) where
    abbrev end : ℕ
    end = pos + length nm

    part : take (length (spelt b nm)) (drop pos (spelt b x)) ≡ spelt b (take (end - pos) (drop pos x))
    part =
        let z : length (spelt b nm) ≡ end - pos = omega (arith, spelt_length b nm) in
        ap (λ (i : ℕ). take i (drop pos (spelt b x))) z ∙ spelt_part b (end - pos) pos x

    module _ (a : Bool) (ea : a ≡ same (spelt b nm) (spelt b (take (end - pos) (drop pos x)))) where
      at_end : end ≡ length x → fits (spelt b nm) (drop pos (spelt b x)) ≡ cond a 1 0
      at_end q =
          let z : length (drop pos (spelt b x)) ≡ length (spelt b nm) = omega (arith, left_length, spelt_length b nm) in
          equal_lengths (spelt b nm) (drop pos (spelt b x)) z
          ∙ ap (λ y. cond (same (spelt b nm) y) 1 0) (sym (take_all (length (spelt b nm)) (drop pos (spelt b x)) (omega arith)) ∙ part)
          ∙ ap (λ (t : Bool). cond t 1 0) (sym ea)

      pub fit_whole : end ≡ length x → a ≡ true → 1 ≡ fits (spelt b nm) (drop pos (spelt b x))
      fit_whole q t = sym (at_end q ∙ ap (λ (t : Bool). cond t 1 0) t)

      pub fit_other : end ≡ length x → a ≡ false → 0 ≡ fits (spelt b nm) (drop pos (spelt b x))
      fit_other q t = sym (at_end q ∙ ap (λ (t : Bool). cond t 1 0) t)

    before_end : (end ≡ length x → ⊥) → fits (spelt b nm) (drop pos (spelt b x))
        ≡ cond (same (spelt b nm) (spelt b (take (end - pos) (drop pos x))) && eqb (get_or x end 0) 46) 2 0
    before_end q =
        let z : length (spelt b nm) < length (drop pos (spelt b x)) = omega (arith, left_length, spelt_length b nm) in
        let w : pos + length (spelt b nm) ≡ end = omega (arith, spelt_length b nm) in
        over_lengths (spelt b nm) (drop pos (spelt b x)) z
        ∙ ap (λ y. cond (same (spelt b nm) y && eqb (get_or (drop pos (spelt b x)) (length (spelt b nm)) 0) 46) 2 0) part
        ∙ ap (λ (t : Bool). cond (same (spelt b nm) (spelt b (take (end - pos) (drop pos x))) && t) 2 0)
        (ap (λ (i : ℕ). eqb i 46) (get_or-drop pos (spelt b x) (length (spelt b nm)) 0 ∙ ap (λ (i : ℕ). get_or (spelt b x) i 0) w) ∙ spelt_dot b x end)

    pub fit_apart : (end ≡ length x → ⊥) → (get_or x end 0 ≡ 46 → ⊥) → 0 ≡ fits (spelt b nm) (drop pos (spelt b x))
    fit_apart q d = sym (before_end q ∙ rw (ne_eqb (get_or x end 0) 46 d) (go (same (spelt b nm) (spelt b (take (end - pos) (drop pos x))))))
      where
        go : (t : Bool) → ◌≡◌ {A = ℕ} (cond (t && false) 2 0) 0
        go true = refl
        go false = refl

    module _ (q : end ≡ length x → ⊥) (d : get_or x end 0 ≡ 46) (a : Bool) (ea : a ≡ same (spelt b nm) (spelt b (take (end - pos) (drop pos x)))) where
      at_dot : fits (spelt b nm) (drop pos (spelt b x)) ≡ cond (a && true) 2 0
      at_dot = before_end q ∙ rw (eq-eqb (get_or x end 0) 46 d, ← ea)

      pub fit_under : a ≡ true → 2 ≡ fits (spelt b nm) (drop pos (spelt b x))
      fit_under t = sym (at_dot ∙ ap (λ (t : Bool). cond (t && true) 2 0) t)

      pub fit_unlike : a ≡ false → 0 ≡ fits (spelt b nm) (drop pos (spelt b x))
      fit_unlike t = sym (at_dot ∙ ap (λ (t : Bool). cond (t && true) 2 0) t)

pub ruleset fitting = (fit_none, fit_whole, fit_other, fit_apart, fit_under, fit_unlike)

-- ---- what `fits` says

pub whole_is : (p y : List ℕ) → same p y ≡ eqb (fits p y) 1
unfolding fits
whole_is [] [] = refl
whole_is [] (b ∷ y) = go (eqb b 46)
  where
    go : (t : Bool) → false ≡ eqb (cond t 2 0) 1
    go true = refl
    go false = refl
whole_is (a ∷ p) [] = refl
whole_is (a ∷ p) (b ∷ y) = go (eqb a b) (whole_is p y)
  where
    go : (t : Bool) → same p y ≡ eqb (fits p y) 1 → (t && same p y) ≡ eqb (cond t (fits p y) 0) 1
    go true e = e
    go false e = refl

pub under_is : (p y : List ℕ) → strip (p ++ (46 ∷ [])) y ≡ cond (eqb (fits p y) 2) (some (drop (suc (length p)) y)) none
unfolding fits
under_is [] [] = refl
under_is [] (b ∷ y) = rw (eqb_flip 46 b) (go (eqb b 46))
  where
    go : (t : Bool) → cond t (some y) none ≡ cond (eqb (cond t 2 0) 2) (some y) none
    go true = refl
    go false = refl
under_is (a ∷ p) [] = refl
under_is (a ∷ p) (b ∷ y) = go (eqb a b) (under_is p y)
  where
    go : (t : Bool) → strip (p ++ (46 ∷ [])) y ≡ cond (eqb (fits p y) 2) (some (drop (suc (length p)) y)) none → cond t (strip (p ++ (46 ∷ [])) y) none ≡ cond (eqb (cond t (fits p y) 0) 2) (some (drop (suc (length p)) y)) none
    go true e = e
    go false e = refl

pub under_room : (p y : List ℕ) → fits p y ≡ 2 → suc (length p) ≤ length y
unfolding fits
under_room [] [] e = absurd (omega arith)
under_room [] (b ∷ y) e = omega arith
under_room (a ∷ p) [] e = absurd (omega arith)
under_room (a ∷ p) (b ∷ y) e = go (eqb a b) (under_room p y) e
  where
    go : (t : Bool) → (fits p y ≡ 2 → suc (length p) ≤ length y) → cond t (fits p y) 0 ≡ 2 → suc (suc (length p)) ≤ suc (length y)
    go true h q = let z = h q in omega arith
    go false h q = absurd (omega arith)

-- ---- positions

pub left_in : (x : List ℕ) (pos : ℕ) → pos ≤ length x → left_at x pos ≡ some (drop pos x)
unfolding left_at
left_in x pos l = rw (le-ltb (length x) pos l)

pub left_out : (x : List ℕ) (pos : ℕ) → length x < pos → left_at x pos ≡ none
unfolding left_at
left_out x pos l = rw (lt-ltb (length x) pos l)

module _ (nm x : List ℕ) (pos f : ℕ) (l : pos ≤ length x) (ef : f ≡ fits nm (drop pos x)) where
  deep_under : f ≡ 2 → left_at x (pos + length nm + 1) ≡ inside false (left_at x pos) nm
  deep_under q =
      let r = under_room nm (drop pos x) (sym ef ∙ q) in
      let z : pos + length nm + 1 ≡ pos + suc (length nm) = omega arith in
      rw (left_in x pos l, under_is nm (drop pos x), eq-eqb (fits nm (drop pos x)) 2 (sym ef ∙ q), z, drop-drop (suc (length nm)) pos x)
      (left_in x (pos + suc (length nm)) (omega (arith, length-drop pos x)))

  deep_out : (f ≡ 2 → ⊥) → left_at x (length x + 1) ≡ inside false (left_at x pos) nm
  deep_out q =
      rw (left_in x pos l, under_is nm (drop pos x), ne_eqb (fits nm (drop pos x)) 2 (λ z. q (ef ∙ z)))
      (left_out x (length x + 1) (omega arith))

  deep_is : (skip : Bool) → left_at x (deeper skip f pos (length nm) (length x)) ≡ inside skip (left_at x pos) nm
  unfolding deeper
  deep_is true = refl
  deep_is false = go (eqb f 2) refl
    where
      go : (t : Bool) → eqb f 2 ≡ t → left_at x (cond t (pos + length nm + 1) (length x + 1)) ≡ inside false (left_at x pos) nm
      go true e = deep_under (eqb-true f 2 e)
      go false e = deep_out (eqb-false f 2 e)

  own_is : (k : ℕ) → held (own_slot f k) ≡ own (left_at x pos) nm k
  own_is k = rw (left_in x pos l, whole_is nm (drop pos x), ← ef) (go (eqb f 1))
    where
      go : (t : Bool) → held (cond t (Some (record { 0 = k })) None) ≡ cond t (some k) none
      go true = refl
      go false = refl

-- ---- the step

module _ (nm x : List ℕ) (pos f : ℕ) (b : Bool) (l : pos ≤ length x) (ef : f ≡ fits (spelt b nm) (drop pos (spelt b x))) where
  spelt_in_room : pos ≤ length (spelt b x)
  spelt_in_room = omega (arith, spelt_length b x)

  room_under : f ≡ 2 → pos + length nm < length x
  room_under q =
      let r = under_room (spelt b nm) (drop pos (spelt b x)) (sym ef ∙ q) in
      omega (arith, length-drop pos (spelt b x), spelt_length b x, spelt_length b nm)

  pub mine : (k : ℕ) (me : FoundSlot) → me ≡ own_slot f k → held me ≡ own (left_at (spelt b x) pos) (spelt b nm) k
  mine k me em = ap held em ∙ own_is (spelt b nm) (spelt b x) pos f spelt_in_room ef k

  pub left_inside : (skip : Bool) (deep : ℕ) → deep ≡ deeper skip f pos (length nm) (length x) → left_at (spelt b x) deep ≡ inside skip (left_at (spelt b x) pos) (spelt b nm)
  left_inside skip deep ed = ap (left_at (spelt b x)) (ed ∙ rw (spelt_length b nm, spelt_length b x)) ∙ deep_is (spelt b nm) (spelt b x) pos f spelt_in_room ef skip

-- ---- small things

pub deep_skips : (skip : Bool) (f pos len end : ℕ) → skip ≡ true → pos ≡ deeper skip f pos len end
unfolding deeper
deep_skips skip f pos len end e = rw e

pub deep_goes : (skip : Bool) (f : Fit) (pos len end : ℕ) → skip ≡ false → f ≡ Prefix → pos + len + 1 ≡ deeper skip (fit_number f) pos len end
unfolding deeper
deep_goes skip f pos len end e q = rw (e, q)

pub deep_ends : (skip : Bool) (f : Fit) (pos len end : ℕ) → skip ≡ false → (f ≡ Prefix → ⊥) → end + 1 ≡ deeper skip (fit_number f) pos len end
unfolding deeper
deep_ends skip Prefix pos len end e q = absurd (q refl)
deep_ends skip Whole pos len end e q = rw e
deep_ends skip Neither pos len end e q = rw e

pub ruleset small = (deep_skips, deep_goes, deep_ends)

-- ---- the name of a record

pub room_fit : (nm x : List ℕ) (pos : ℕ) (f : Fit) (b : Bool) → pos ≤ length x → fit_number f ≡ fits (spelt b nm) (drop pos (spelt b x)) → f ≡ Prefix → pos + length nm < length x
room_fit nm x pos f b l ef e = room_under nm x pos (fit_number f) b l ef (rw e)

pub fit_named : (b : Bool) (nm y x : List ℕ) (pos f : ℕ) → nm ≡ y → f ≡ fits (spelt b nm) (drop pos (spelt b x)) → f ≡ fits (spelt b y) (drop pos (spelt b x))
fit_named b nm y x pos f e h = h ∙ rw e

pub goes_named : (l : Trees) (plan : PlanRows) (short skip : Bool) (role rl : Role) (kd : Kind) (nm x : List ℕ) (f pos k deep : ℕ) → kd ≡ kinds_in l plan k → nm ≡ names_in l plan k → skip ≡ skipped role kd → rl ≡ first kd → deep ≡ deeper (short && skip) f pos (length nm) (length x) → Entered l plan short role f x pos k (record { role = rl; pos = deep })
goes_named l plan short skip role rl kd nm x f pos k deep ek en es er ed = record { members = er ∙ ap first ek; goes = ed ∙ rw (es, ek, en) }

pub room_named : (nm y x : List ℕ) (f : Fit) (pos : ℕ) → nm ≡ y → (f ≡ Prefix → pos + length y < length x) → f ≡ Prefix → pos + length nm < length x
room_named nm y x f pos e h q = rw e (h q)

pub ruleset named = (fit_named, goes_named, room_named)
