-- The name of a slot: the family `naming`. And of a column that a look-up found: its name, as a part of the lent pool.
use Prim.Native.Nat.{ℕ, ◌+◌, ◌<◌, ◌≤◌}
use mathlib.Core.Path.{◌≡◌, refl, sym, ap, ◌∙◌}
use mathlib.Core.Bool.{Bool, true, false, not}
use mathlib.Core.List.{List}
use mathlib.Core.Option.{none, some}
use borrow.Author.Tests.{lt-ltb, le-ltb, leb-true, not-true, not-false}
use lib.ListN.{length, take, drop}
use borrow.Fn.World.{ArgsD, ResD}
use contract.Lifetimes.{Lfts}
use denote.Triple.Clauses.{AtExit}
use Rattle.paper.specs.Answer.{ok, refused, ◌>>=◌, lowest}
use Rattle.paper.specs.Field.{Field}
use Rattle.paper.specs.Rows.{Row}
use Rattle.paper.specs.Bytes.{rec_at, in_pool, name_of, field_at, slots}
use Rattle.record.specs.contracts.name_at as name_at
use Rattle.record.proofs.name_at.Reads as name_at_reads
use Rattle.index.specs.Finds.{FoundIn}
use Rattle.index.proofs.Standing.{row_here}
use Rattle.braidhurdle.specs.Name.{Part, part_at, found_name, name_numbers, Shows}

module _ (s pool : List ℕ) (k : ℕ) where
  no_slot : slots s ≤ k → found_name s pool k ≡ ok none
  unfolding found_name
  no_slot l = rw (le-ltb k (slots s) l)

  beyond : k < slots s → in_pool (length pool) s k ≡ false → found_name s pool k ≡ refused 4 0 k
  unfolding found_name lowest ◌>>=◌
  beyond l e = rw (lt-ltb k (slots s) l) (rw (e, lowest))

  there : k < slots s → in_pool (length pool) s k ≡ true → found_name s pool k ≡ ok (some (part_at s k))
  unfolding found_name lowest ◌>>=◌
  there l e = rw (lt-ltb k (slots s) l) (rw (e, lowest))

  pub tells_none : slots s ≤ k
      → record { refusal = 0; list = 0; place = 0; found = 0; offset = 0; length = 0 } ≡ name_numbers (found_name s pool k)
  unfolding name_numbers
  tells_none l = rw (no_slot l)

  module _ (l : k < slots s) (b : Bool) (e : b ≡ in_pool (length pool) s k) where
    pub tells_beyond : not b ≡ true
        → record { refusal = 4; list = 0; place = k; found = 0; offset = 0; length = 0 } ≡ name_numbers (found_name s pool k)
    unfolding name_numbers
    tells_beyond t = rw (beyond l (sym e ∙ not-true b t))

    pub tells_part : not b ≡ false → (o n : ℕ) → o ≡ (rec_at s k).name_at → n ≡ (rec_at s k).name_len
        → record { refusal = 0; list = 0; place = 0; found = 1; offset = o; length = n } ≡ name_numbers (found_name s pool k)
    unfolding name_numbers
    tells_part t o n eo en = rw (there l (sym e ∙ not-false b t), eo, en)

pub ruleset naming = (tells_none, tells_beyond, tells_part)

-- 01: a found name is shown as the very part of the lent pool that holds it.
pub found_shows : (s pool : List ℕ) (r : Row) → FoundIn s pool r → Shows s pool r (part_at s r.slot)
unfolding in_pool name_of field_at
found_shows s pool r f =
    let h = row_here s pool r f in
    record {
      answer = there s pool r.slot h.there h.pooled;
      inside = leb-true _ _ h.pooled;
      bytes = sym (ap (λ (x : Field). x.name) h.field);
    }

-- And it is what `record::name_at` returns, with no copy: the pool's own bytes from that offset on, so many.
module _ (κs : Lfts 2) (a : ArgsD name_at.signature κs) (r : ResD name_at.signature κs) (s : AtExit name_at.ended κs) where
  abbrev part : Part
  part = part_at a.1.0.now a.1.1.0

  pub name_at_says : name_at_reads.Learnt κs a r s
      ≡ ((r.now ≡ take part.size (drop part.offset a.0.now))
      × (r.ref_ptr.0 ≡ a.0.ref_ptr.0)
      × (r.ref_ptr.1 ≡ a.0.ref_ptr.1 + part.offset))
  unfolding name_of
  name_at_says = refl
