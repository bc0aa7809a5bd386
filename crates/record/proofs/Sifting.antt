-- One pass over 3 and 4: `search keeping` for one record, `search sifting` for the loop.
use Rattle.std.proofs.Common.{◌≡◌, ℕ, ◌+◌, ◌<◌, ◌≤◌, Bool, true, false, not, ◌||◌, leb, List, sym, refl, ◌∙◌, true≢false, arith, lt-ltb, leb-false}
use mathlib.Core.Option.{none}
use borrow.Author.Tests.{not-true, not-false}
use Rattle.paper.specs.Answer.{lowest}
use Rattle.paper.specs.Bytes.{rec_at, ok_bytes, in_pool}
use Rattle.laws.proofs.Basics.{neither}
use Rattle.laws.proofs.RoundTrip.{both}
use Rattle.record.specs.Sifts.{kept, flat, Sifts}
use Rattle.record.proofs.Lowest.{none_goes}

-- ---- one record

module _ (pool : ℕ) (s : List ℕ) (k : ℕ) (a : Bool) (ea : a ≡ in_pool pool s k) where
  pub kept_not : not a ≡ true → false ≡ kept pool s k
  unfolding kept
  kept_not t = rw (← ea, not-true a t)

  module _ (t : not a ≡ false) where
    pub kept_bytes : (b : Bool) → b ≡ ok_bytes s k → b ≡ kept pool s k
    unfolding kept
    kept_bytes b e = rw (← ea, not-false a t) e

pub ruleset keeping = (kept_not, kept_bytes)

-- ---- the loop

pub record Sifting (pool : ℕ) (s : List ℕ) (n i : ℕ) (nested : Bool) : Type 0 where
  pub within : i ≤ n
  pub bytes : lowest (ok_bytes s) 0 i ≡ none
  pub bounds : lowest (in_pool pool s) 0 i ≡ none
  pub level : nested ≡ false → lowest (flat s) 0 i ≡ none

module _ (pool : ℕ) (s : List ℕ) (n : ℕ) where
  pub sift_starts : Sifting pool s n 0 false
  unfolding lowest
  sift_starts = record { within = omega arith; bytes = refl; bounds = refl; level = λ _. refl }

  module _ (i : ℕ) (nested : Bool) (h : Sifting pool s n i nested) where
    pub sift_stops : Sifts pool s n (record { fine = i; nested = true })
    sift_stops = record { within = h.within; bytes = h.bytes; bounds = h.bounds; level = λ z. absurd (true≢false z) }

    pub sift_ends : n ≤ i → Sifts pool s n (record { fine = n; nested = nested })
    sift_ends l =
        let t = h.within in
        let e : i ≡ n = omega arith in
        record { within = omega arith; bytes = rw e at h.bytes; bounds = rw e at h.bounds; level = λ z. rw e at (h.level z) }

    pub sift_goes : (a : Bool) → i < n → a ≡ kept pool s i → not a ≡ false → Sifting pool s n (i + 1) (nested || leb 2 (rec_at s i).kind)
    unfolding kept flat
    sift_goes a l ea t =
        let k = both (in_pool pool s i) (ok_bytes s i) (sym ea ∙ not-false a t) in
        record {
          within = omega arith;
          bytes = none_goes (ok_bytes s) i h.bytes k.1;
          bounds = none_goes (in_pool pool s) i h.bounds k.0;
          level = λ z.
              let f = neither nested (leb 2 (rec_at s i).kind) z in
              none_goes (flat s) i (h.level f.0) (lt-ltb (rec_at s i).kind 2 (leb-false 2 (rec_at s i).kind f.1));
        }

pub ruleset sifting = (sift_starts, sift_stops, sift_ends)
