-- A buffer shows a text that grows: what is put behind what stood.
use mathlib.Core.Path.{◌≡◌, refl, sym, ap, ◌∙◌}
use mathlib.Core.Logic.{⊎_elim}
use mathlib.Core.List.{List, [], ◌∷◌, ◌++◌, append-nil}
use Prim.Native.Nat.{ℕ, zero, suc, ◌+◌, ◌-◌, ◌<◌, ◌≤◌, ◌*◌, min}
use native.Mathlib.Numerals.{add-one}
use native.Mathlib.Omega.{arith}
use lib.ListN.{length, take, drop, length-append, length-take, length-drop, drop_of_length-le}
use lib.Seq.{sets, length-sets, take_all, take-nil, drop-nil, take-append_seam}
use Rattle.laws.proofs.Runs.{sets_append, sets_front}
use Rattle.tree.proofs.Filled.{lt_or_le}
use Rattle.lister_lines.specs.Digits.{Put}
use Rattle.lister_lines.specs.Text.{part, joined, Shown}

drop_append : (n : ℕ) (xs ys : List ℕ) → drop n (xs ++ ys) ≡ drop n xs ++ drop (n - length xs) ys
drop_append zero xs ys = let z : 0 - length xs ≡ 0 = omega arith in rw z
drop_append (suc n) [] ys = let z : suc n - 0 ≡ suc n = omega arith in rw z
drop_append (suc n) (x ∷ xs) ys = let z : suc n - suc (length xs) ≡ n - length xs = omega arith in rw z (drop_append n xs ys)

take_append : (n : ℕ) (xs ys : List ℕ) → take n (xs ++ ys) ≡ take n xs ++ take (n - length xs) ys
take_append zero xs ys = let z : 0 - length xs ≡ 0 = omega arith in rw z
take_append (suc n) [] ys = let z : suc n - 0 ≡ suc n = omega arith in rw z
take_append (suc n) (x ∷ xs) ys = let z : suc n - suc (length xs) ≡ n - length xs = omega arith in rw z (ap (λ (l : List ℕ). x ∷ l) (take_append n xs ys))

-- `out` shows a text of `at` bytes from `from` on; before the text it was out₀.
pub record Showing (text : List ℕ) (from : ℕ) (out₀ : List ℕ) (at : ℕ) (out : List ℕ) : Type 0 where
  pub bytes : out ≡ sets out₀ 0 (take (length out₀) (drop from text))
  pub whole : at ≡ length text

module _ (from : ℕ) (out₀ : List ℕ) where
  pub shows_none : Showing [] from out₀ 0 out₀
  shows_none = record { bytes = rw (drop-nil {A = ℕ} from, take-nil {A = ℕ} (length out₀)); whole = refl }

  module _ (a b : List ℕ) (at : ℕ) (out : List ℕ) (h : Showing a from out₀ at out) where
    behind : sets (sets out₀ 0 (take (length out₀) (drop from a))) (length a - from) (take (length out₀ - (length a - from)) (drop (from - length a) b))
        ≡ sets out₀ 0 (take (length out₀) (drop from (a ++ b)))
    behind =
        let R = length out₀ in
        let X = drop from a in
        let n = length-drop from a in
        rw (drop_append from a b, take_append R X (drop (from - length a) b), n)
        (⊎_elim
        (λ q. let z : R - (length a - from) ≡ 0 = omega arith in rw z (ap (sets out₀ 0) (sym (append-nil (take R X)))))
        (λ q. let z = length-take R X in let y : 0 + length (take R X) ≡ length a - from = omega arith in
        ap (λ (j : ℕ). sets (sets out₀ 0 (take R X)) j (take (R - (length a - from)) (drop (from - length a) b))) (sym y)
        ∙ sets_append (take R X) (take (R - (length a - from)) (drop (from - length a) b)) out₀ 0)
        (lt_or_le R (length a - from)))

    pub shows_more : (n : ℕ) (out' : List ℕ) → n ≡ length b → out' ≡ sets out (at - from) (take (length out - (at - from)) (drop (from - at) b)) → Showing (a ++ b) from out₀ (at + n) out'
    shows_more n out' en e =
        let l : length out ≡ length out₀ = ap length h.bytes ∙ length-sets out₀ 0 (take (length out₀) (drop from a)) in
        record {
          bytes = e ∙ rw (l, h.bytes, h.whole) behind;
          whole = omega (arith, h.whole, length-append a b);
        }

  pub shown : (text : List ℕ) (at : ℕ) (out : List ℕ) → Showing text from out₀ at out → Shown text from out₀ at out
  shown text at out h =
      record {
        bytes = h.bytes ∙ sets_front (part text from out₀) out₀ (let z = length-take (length out₀) (drop from text) in omega arith);
        whole = h.whole;
      }

-- ---- what falls into the buffer

cut : (t s r over : ℕ) → over ≡ t - s - r → r < t - s → t - over - s ≡ r
cut t s r over e l = omega arith

uncut : (t s r over : ℕ) → over ≡ t - s - r → t - s ≤ r → t - over - s ≡ t - s
uncut t s r over e l = omega arith

within : (t s to o over w : ℕ) {n : ℕ} → over ≡ t - s - (o - to) → to < o → n ≡ min (t - over - s) w → to + n ≤ o
within t s to o over w e l d = omega arith

at_most : {a b c : ℕ} → a ≡ b → c ≡ b → a ≤ c
at_most e d = omega arith

at_least : {a b c : ℕ} → a ≡ b → b ≤ c → a ≤ c
at_least e l = omega arith

module _ (out : List ℕ) (from at : ℕ) (text : List ℕ) where
  pub falls_before : (skip : ℕ) → skip ≡ from - at → length text ≤ skip → out ≡ sets out (at - from) (take (length out - (at - from)) (drop (from - at) text))
  falls_before skip e q =
      let d : drop (from - at) text ≡ [] = drop_of_length-le text {i = from - at} (omega arith) in
      rw (d, take-nil {A = ℕ} (length out - (at - from)))

  pub falls_behind : (to : ℕ) → to ≡ at - from → length out ≤ to → out ≡ sets out (at - from) (take (length out - (at - from)) (drop (from - at) text))
  falls_behind to e q = let z : length out - (at - from) ≡ 0 = omega arith in rw z

  module _ (skip to over : ℕ) (et : to ≡ at - from) (p : skip < length text) (eo : over ≡ length text - skip - (length out - to)) where
    pub falls_room : to < length out → to + length (take (length text - over - skip) (drop skip text)) ≤ length out
    falls_room q = let d = length-take (length text - over - skip) (drop skip text) in within (length text) skip to (length out) over (length (drop skip text)) eo q d

    pub falls_inside : (out' : List ℕ) → skip ≡ from - at → out' ≡ sets out to (take (length text - over - skip) (drop skip text))
        → out' ≡ sets out (at - from) (take (length out - (at - from)) (drop (from - at) text))
    falls_inside out' es e =
        let d = length-drop skip text in
        rw (← es, ← et) (e ∙ ap (sets out to) (⊎_elim
        (λ l. ap (λ (j : ℕ). take j (drop skip text)) (cut (length text) skip (length out - to) over eo l))
        (λ l. let z = uncut (length text) skip (length out - to) over eo l in
        take_all (length text - over - skip) (drop skip text) (at_most d z) ∙ sym (take_all (length out - to) (drop skip text) (at_least d l)))
        (lt_or_le (length out - to) (length text - skip))))

pub ruleset falling = (falls_before, falls_behind, falls_room, falls_inside)

-- The text that was put at the start of a line.
pub put_front : (text : List ℕ) (line : List ℕ) (r : ℕ) (line' : List ℕ) → Put text 0 line r line' → r ≤ length line → take r line' ≡ text
put_front text line r line' h q =
    let e = h.end in
    let z : r ≡ length text = omega arith in
    rw (h.bytes, z, sets_front text line (omega arith)) (take-append_seam text _)

pub shows_line : (from : ℕ) (out₀ a b : List ℕ) (at : ℕ) (out line : List ℕ) (n : ℕ) (line' out' : List ℕ) → Showing a from out₀ at out → Put b 0 line n line' → n ≤ length line
    → out' ≡ sets out (at - from) (take (length out - (at - from)) (drop (from - at) (take n line'))) → Showing (a ++ b) from out₀ (at + n) out'
shows_line from out₀ a b at out line n line' out' h p q e =
    let z = p.end in
    shows_more from out₀ a b at out h n out' (omega arith) (rw (put_front b line n line' p q) at e)

pub shown_line : (from : ℕ) (out b line : List ℕ) (n : ℕ) (line' out' : List ℕ) → Put b 0 line n line' → n ≤ length line
    → out' ≡ sets out (0 - from) (take (length out - (0 - from)) (drop (from - 0) (take n line'))) → Shown b from out n out'
shown_line from out b line n line' out' p q e =
    let z : 0 + n ≡ n = omega arith in
    rw z at (shown from out b (0 + n) out' (shows_line from out [] b 0 out line n line' out' (shows_none from out) p q e))

-- ---- line after line

pub record Listing (g : ℕ → List ℕ) (m from : ℕ) (line₀ out₀ line out : List ℕ) (at slot : ℕ) : Type 0 where
  pub shows : Showing (joined g slot) from out₀ at out
  pub under : slot ≤ m
  pub most : at ≤ slot * 65571
  pub line_long : length line ≡ length line₀
  pub out_long : length out ≡ length out₀

module _ (g : ℕ → List ℕ) (m from : ℕ) (line₀ out₀ : List ℕ) where
  pub list_starts : Listing g m from line₀ out₀ line₀ out₀ 0 0
  unfolding joined
  list_starts = record { shows = shows_none from out₀; under = omega arith; most = omega arith; line_long = refl; out_long = refl }

  module _ (line out : List ℕ) (at slot : ℕ) (h : Listing g m from line₀ out₀ line out at slot) where
    pub list_goes : (n : ℕ) (line' out' : List ℕ) → slot < m → 65571 ≤ length line₀ → Put (g slot) 0 line n line' × (n ≤ 65571)
        → out' ≡ sets out (at - from) (take (length out - (at - from)) (drop (from - at) (take n line')))
        → Listing g m from line₀ out₀ line' out' (at + n) (slot + 1)
    unfolding joined
    list_goes n line' out' l q p e =
        let o = h.line_long in
        let w = h.most in
        record {
          shows = rw (add-one slot) (shows_line from out₀ (joined g slot) (g slot) at out line n line' out' h.shows p.0 (omega (arith, p.1)) e);
          under = omega arith;
          most = omega (arith, p.1);
          line_long = ap length p.0.bytes ∙ length-sets line 0 (g slot) ∙ o;
          out_long = ap length e ∙ length-sets out (at - from) (take (length out - (at - from)) (drop (from - at) (take n line'))) ∙ h.out_long;
        }

    pub list_ends : m ≤ slot → Shown (joined g m) from out₀ at out
    list_ends l = let u = h.under in let z : slot ≡ m = omega arith in rw (← z) (shown from out₀ (joined g slot) at out h.shows)

pub ruleset rowing = (list_starts, list_goes, list_ends)
