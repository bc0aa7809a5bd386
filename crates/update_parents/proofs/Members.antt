-- Members one after the other: what is left of them tells whether the name is taken.
use Prim.Native.Nat.{ℕ, ◌+◌, ◌-◌, ◌≤◌, ◌<◌}
use mathlib.Core.Path.{◌≡◌, refl, sym, ap, ◌∙◌}
use mathlib.Core.Bool.{Bool, true, false, not, ◌&&◌, cond}
use mathlib.Core.List.{List}
use native.Mathlib.Omega.{arith}
use Rattle.paper.specs.Answer.{among, same}
use Rattle.paper.specs.Forest.{mapped}
use Rattle.paper.specs.Bytes.{turned, rec_at, kids_at, name_of, field_at}
use Rattle.paper.specs.Layout.{Part}
use Rattle.paper.specs.Decode.{fields}
use Rattle.paper.specs.Update.{member_taken}
use Rattle.tree.specs.Read.{part, reads, Standing}
use Rattle.tree.proofs.Steps.{part_none}
use Rattle.update_parents.specs.Target.{members_at}
use Rattle.update_parents.proofs.Receiving.{First, first_of}

pub record Scanning (pool s : List ℕ) (n k : ℕ) (x ds : List ℕ) (left at : ℕ) : Type 0 where
  pub read : reads 0 (kids_at s) n 15 left at ≡ true
  pub same : member_taken (members_at pool s n k) x ds ≡ member_taken (fields pool s (part 0 (kids_at s) n 15 left at).trees) x ds

pub scan_starts : (pool s : List ℕ) (n k : ℕ) (x ds : List ℕ) (c : ℕ) → Standing 0 s n 15 k → c ≡ kids_at s k → Scanning pool s n k x ds (c - 0) (k + 1)
unfolding members_at
scan_starts pool s n k x ds c h e = let z : c - 0 ≡ kids_at s k = omega (arith, e) in rw z (record { read = h.read; same = refl })

module _ (pool s : List ℕ) (n k : ℕ) (x ds : List ℕ) (c i at : ℕ) (H : Scanning pool s n k x ds (c - i) at) where
  abbrev left : ℕ
  left = c - i

  pub scan_ends : c ≤ i → false ≡ member_taken (members_at pool s n k) x ds
  unfolding member_taken fields mapped
  scan_ends l = sym (H.same ∙ rw (part_none 0 (kids_at s) n 15 left at (omega arith)))

  module _ (l : i < c) where
    here : First s n left at
    here = first_of s n left at (λ z. omega arith) H.read

    pub scan_in : at < n
    scan_in = here.there

    pub scan_stands : Standing 0 s n 15 k → Standing 0 s n 14 at
    scan_stands h = record { whole = h.whole; small = h.small; there = here.there; read = here.inner }

    step : member_taken (members_at pool s n k) x ds
        ≡ cond (same (name_of pool s at) x && not (among (turned (rec_at s at).id) ds)) true (member_taken (fields pool s (part 0 (kids_at s) n 15 (left - 1) (part 0 (kids_at s) n 14 (kids_at s at) (at + 1)).next).trees) x ds)
    unfolding member_taken fields mapped field_at
    step = H.same ∙ ap (λ (p : Part). member_taken (mapped (field_at pool s) p.trees) x ds) here.trees

    module _ (g : Bool) (eg : g ≡ (same (name_of pool s at) x && not (among (turned (rec_at s at).id) ds))) where
      pub scan_found : g ≡ true → true ≡ member_taken (members_at pool s n k) x ds
      scan_found q = sym (step ∙ ap (λ (b : Bool). cond b true (member_taken (fields pool s (part 0 (kids_at s) n 15 (left - 1) (part 0 (kids_at s) n 14 (kids_at s at) (at + 1)).next).trees) x ds)) (sym eg ∙ q))

      pub scan_goes : (j : ℕ) → g ≡ false → j ≡ (part 0 (kids_at s) n 14 (kids_at s at) (at + 1)).next → Scanning pool s n k x ds (c - (i + 1)) j
      scan_goes j q e =
          let z : c - (i + 1) ≡ c - i - 1 = omega arith in
          rw (z, e) (record {
            read = here.rest;
            same = step ∙ ap (λ (b : Bool). cond b true (member_taken (fields pool s (part 0 (kids_at s) n 15 (left - 1) (part 0 (kids_at s) n 14 (kids_at s at) (at + 1)).next).trees) x ds)) (sym eg ∙ q);
          })

pub ruleset scanning = (scan_starts, scan_found, scan_stands, scan_goes, scan_ends)
