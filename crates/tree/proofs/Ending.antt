-- The end of a row, by a loop over its trees: what is left ends where the whole ends. `search looping`.
use mathlib.Core.Path.{◌≡◌, refl, ◌∙◌}
use Prim.Native.Nat.{ℕ, ◌+◌, ◌-◌, ◌<◌, ◌≤◌}
use native.Mathlib.Omega.{arith}
use Rattle.record.specs.declared.Refusal.{Refusal}
use Rattle.paper.specs.Layout.{row}
use Rattle.tree.specs.Answers.{Walked}
use Rattle.std.specs.Prelude.{Ok, Err}
use Rattle.record.specs.Says.{refusal_of}
use Rattle.tree.specs.Says.{ended}
use Rattle.tree.proofs.Reading.{end_none, end_deep, end_past, end_last, end_goes, end_stops}
use Rattle.tree.proofs.Filled.{next_within, end_less}

-- c' trees from slot k' on, with lv' levels left, end where c trees from slot k on end
pub record Ends (li : ℕ) (kids : ℕ → ℕ) (n lv c k lv' c' k' : ℕ) : Type 0 where
  pub within : k' ≤ n
  pub lower : lv' ≤ lv
  pub same : ended (row li kids n lv' c' k') ≡ ended (row li kids n lv c k)

pub loop_starts : (li : ℕ) (kids : ℕ → ℕ) (n lv c k : ℕ) → k ≤ n → Ends li kids n lv c k lv c k
loop_starts li kids n lv c k h = record { within = h; lower = omega arith; same = refl }

module _ (li : ℕ) (kids : ℕ → ℕ) (n lv c k lv' c' k' : ℕ) (h : Ends li kids n lv c k lv' c' k') where
  pub loop_done : c' ≤ 0 → Ok k' ≡ ended (row li kids n lv c k)
  loop_done l = end_none li kids n lv' c' k' (omega arith) ∙ h.same

  pub loop_deep : 0 < c' → lv' ≡ 0 → Err (refusal_of 5 li k') ≡ ended (row li kids n lv c k)
  loop_deep l e = end_deep li kids n lv' c' k' e (λ z. omega arith) ∙ h.same

  module _ (l : 0 < c') (q : lv' ≡ 0 → ⊥) where
    pub loop_past : n ≤ k' → Err (refusal_of 5 li k') ≡ ended (row li kids n lv c k)
    loop_past e = end_past li kids n lv' c' k' q (λ z. omega arith) e ∙ h.same

    module _ (m : ℕ) (w : Walked) (p : k' < n) (em : m ≡ kids k') (ew : w ≡ ended (row li kids n (lv' - 1) m (k' + 1))) where
      pub loop_goes : (j : ℕ) → w ≡ Ok j → Ends li kids n lv c k lv' (c' - 1) j
      loop_goes j e = record { within = next_within li kids n (lv' - 1) m k' j w ew e p; lower = h.lower; same = end_goes li kids n lv' c' k' m w q (λ z. omega arith) p em ew j _ e refl ∙ h.same }

      pub loop_stops : (t : Refusal) → w ≡ Err t → Err t ≡ ended (row li kids n lv c k)
      loop_stops t e = end_stops li kids n lv' c' k' m w q (λ z. omega arith) p em ew t e ∙ h.same

    -- the inside of a leaf ends where it begins
    pub loop_leaf : (m : ℕ) → k' < n → m ≡ kids k' → m ≡ 0 → Ends li kids n lv c k lv' (c' - 1) (k' + 1)
    loop_leaf m p em z = loop_goes m (Ok (k' + 1)) p em (end_none li kids n (lv' - 1) m (k' + 1) z) (k' + 1) refl

    pub loop_last : (m : ℕ) → k' < n → m ≡ kids k' → c' ≡ 1 → Ends li kids n lv c k (lv' - 1) m (k' + 1)
    loop_last m p em z = let o = h.lower in record { within = omega arith; lower = omega arith; same = end_last li kids n lv' c' k' m q z p em ∙ h.same }

pub ruleset looping = (loop_starts, loop_done, loop_deep, loop_past, loop_goes, loop_stops, loop_leaf, loop_last, end_less)
