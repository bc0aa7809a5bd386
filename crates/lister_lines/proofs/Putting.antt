-- Digits put into a buffer, and the sign before them; then the parts of a line, one behind another.
use mathlib.Core.Path.{◌≡◌, refl, ◌∙◌}
use mathlib.Core.List.{List, [], ◌∷◌, ◌++◌}
use Prim.Native.Nat.{ℕ, ◌+◌, ◌-◌, ◌%◌, ◌<◌, ◌≤◌}
use native.Mathlib.Numerals.{add-one}
use native.Mathlib.Omega.{arith}
use borrow.Author.Tests.{lt-ltb, le-ltb}
use lib.ListN.{length, get_or, take, drop, set, length-append, length-drop}
use lib.Seq.{sets, take-length}
use Rattle.paper.specs.Bytes.{turned}
use Rattle.paper.specs.Lister.{decimal, signed, parent_text, listing}
use Rattle.paper.specs.Sound.{text}
use Rattle.record.specs.declared.Refusal.{Refusal}
use Rattle.laws.proofs.Runs.{sets_append}
use Rattle.record.specs.Trees.{Trees}
use Rattle.plan.specs.Table.{numbers}
use Rattle.index_ids.specs.Ids.{id_in}
use Rattle.index_ids.specs.Table.{ups_in}
use Rattle.index_names.specs.Table.{full_in}
use Rattle.lister_lines.specs.declared.Digits.{Digits}
use Rattle.lister_lines.specs.Digits.{Ends, Put}
use Rattle.lister_lines.specs.Text.{above, line_start, line_at, refusal_text}
use Rattle.plan.specs.declared.PlanRows.{PlanRows}

pub put_whole : (text : List ℕ) (d : Digits) (at : ℕ) (out out' : List ℕ) → Ends text d → out' ≡ sets out at (take (10 - d.start) (drop d.start d.bytes)) → Put text at out (at + (10 - d.start)) out'
put_whole text d at out out' h e =
    let t = h.ten in
    let l = length-drop d.start d.bytes in
    let n : 10 - d.start ≡ length (drop d.start d.bytes) = omega arith in
    record { bytes = e ∙ rw (n, take-length (drop d.start d.bytes), h.holds); end = rw (n, h.holds) }

module _ (id at : ℕ) (out : List ℕ) (r : ℕ) (out' : List ℕ) where
  pub signed_low : id < 2147483648 → Put (decimal id) at out r out' → Put (signed (turned id)) at out r out'
  unfolding signed turned
  signed_low l h =
      let e : (id + 2147483648) % 4294967296 ≡ id + 2147483648 = omega arith in
      let d : id + 2147483648 - 2147483648 ≡ id = omega arith in
      rw (e, le-ltb (id + 2147483648) 2147483648 (omega arith), d) h

  pub signed_high : (x : ℕ) → 2147483648 ≤ id → id < 4294967296 → x ≡ 4294967295 - id + 1 → Put (decimal x) (at + 1) (set out at 45) r out' → Put (signed (turned id)) at out r out'
  unfolding signed turned
  signed_high x l o ex h =
      let e : (id + 2147483648) % 4294967296 ≡ id - 2147483648 = omega arith in
      let d : 2147483648 - (id - 2147483648) ≡ x = omega arith in
      let b = rw (add-one at) at h.bytes in
      let n = h.end in
      rw (e, lt-ltb (id - 2147483648) 2147483648 (omega arith), d) (record { bytes = b; end = omega arith })

-- ---- one behind another

module _ (at : ℕ) (out : List ℕ) where
  put_then : (a b : List ℕ) (r : ℕ) (o : List ℕ) (r' : ℕ) (o' : List ℕ) → Put a at out r o → Put b r o r' o' → Put (a ++ b) at out r' o'
  put_then a b r o r' o' h g =
      record {
        bytes = g.bytes ∙ rw (h.bytes, h.end) (sets_append a b out at);
        end = omega (arith, h.end, g.end, length-append a b);
      }

  put_cons : (x : ℕ) (b : List ℕ) (r : ℕ) (o : List ℕ) → Put b (at + 1) (set out at x) r o → Put (x ∷ b) at out r o
  put_cons x b r o h = record { bytes = rw (add-one at) at h.bytes; end = let e = h.end in omega arith }

  put_byte : (x : ℕ) → Put (x ∷ []) at out (at + 1) (set out at x)
  put_byte x = record { bytes = refl; end = refl }

  put_text : (t : List ℕ) (o : List ℕ) → o ≡ sets out at t → Put t at out (at + length t) o
  put_text t o e = record { bytes = e; end = refl }

pub put_numbers : (is : List ℕ) (k u : ℕ) (out : List ℕ) (a : ℕ) (o₁ : List ℕ) (b : ℕ) (o₂ : List ℕ) (c : ℕ) (o₃ : List ℕ)
    → Put (decimal k) 0 out a o₁ → Put (signed (id_in is k)) (a + 1) (set o₁ a 32) b o₂ → Put (parent_text (above is u)) (b + 1) (set o₂ b 32) c o₃
    → Put (line_start is k u) 0 out (c + 1) (set o₃ c 32)
unfolding line_start
put_numbers is k u out a o₁ b o₂ c o₃ f g h =
    put_then _ _ _ _ _ _ _ _ f (put_cons _ _ _ _ _ _ (put_then _ _ _ _ _ _ _ _ g (put_cons _ _ _ _ _ _ (put_then _ _ _ _ _ _ _ _ h (put_byte _ _ 32)))))

pub put_line : (l : Trees) (plan : PlanRows) (index : List (List ℕ)) (k u : ℕ) (out : List ℕ) (a : ℕ) (o₁ : List ℕ) (b : ℕ) (o₂ : List ℕ)
    → u ≡ get_or (ups_in index) k 0 → Put (line_start (numbers plan) k u) 0 out a o₁ → Put (full_in l plan index k) a o₁ b o₂
    → Put (line_at l plan index k) 0 out (b + 1) (set o₂ b 10)
unfolding line_at
put_line l plan index k u out a o₁ b o₂ e f g = rw (← e) (put_then _ _ _ _ _ _ _ _ f (put_then _ _ _ _ _ _ _ _ g (put_byte _ _ 10)))

pub put_refusal : (x : Refusal) (out o₁ : List ℕ) (a : ℕ) (o₂ o₃ : List ℕ) (b : ℕ) (o₄ : List ℕ) (c : ℕ) (o₅ : List ℕ)
    → o₁ ≡ sets out 0 (text "refused ") → Put (decimal x.number) 8 o₁ a o₂ → o₃ ≡ sets o₂ a (text " at ")
    → Put (decimal x.list) (a + 4) o₃ b o₄ → Put (decimal x.place) (b + 1) (set o₄ b 32) c o₅
    → Put (refusal_text x) 0 out (c + 1) (set o₅ c 10)
unfolding listing
put_refusal x out o₁ a o₂ o₃ b o₄ c o₅ e f d g h =
    put_then _ _ _ _ _ _ _ _ (put_text 0 out (text "refused ") o₁ e) (put_then _ _ _ _ _ _ _ _ f (put_then _ _ _ _ _ _ _ _ (put_text a o₂ (text " at ") o₃ d)
    (put_then _ _ _ _ _ _ _ _ g (put_cons _ _ _ _ _ _ (put_then _ _ _ _ _ _ _ _ h (put_byte _ _ 10))))))
