-- What `of_update` and `of_c_update` say is the `ensures` of the two functions, as their callers learn it: the very
-- type, at whatever they are lent and leave. `a` has the arguments in order, `s` the same after the call.
-- That the added records and the edits are bytes (`Calls`) is no assumption of a caller: `lent_bytes` ensures it of every
-- slice.
use mathlib.Core.Path.{◌≡◌, refl}
use borrow.Fn.World.{ArgsD, ResD}
use contract.Lifetimes.{Lfts}
use denote.Triple.Clauses.{AtExit}
use lib.ListN.{length}
use Rattle.laws.specs.Fit.{Bytes}
use Rattle.record.specs.Trees.{trees_in, lists_in, stored_in, lent_in}
use Rattle.update.specs.contracts.update as update
use Rattle.update.proofs.update.Reads as update_reads
use Rattle.braidhurdle.specs.Lent.{stored, lent}
use Rattle.braidhurdle.specs.contracts.braidhurdle_update as c_update
use Rattle.braidhurdle.proofs.braidhurdle_update.Reads as c_update_reads
use Rattle.update_lasts.specs.Calls.{Ensures, of_update, of_c_update}
use Rattle.update_lasts.specs.contracts.lent_bytes as lent_bytes
use Rattle.update_lasts.proofs.lent_bytes.Reads as lent_bytes_reads

-- `trees`, `lists`, `last_id`, `version`, both buffers.
pub update_says : (κs : Lfts 5) (a : ArgsD update.signature κs) (r : ResD update.signature κs)
    (s : AtExit update.ended κs)
    → update_reads.Learnt κs a r s
    ≡ Ensures of_update (stored_in (trees_in a.0.now) a.1.1.0)
    (record {
      lent = lent_in (trees_in a.0.now) (lists_in a.1.0.now) a.1.1.1.0
          (length a.1.1.1.1.0.now) (length a.1.1.1.1.1.0.now);
      records_before = a.1.1.1.1.0.now;
      names_before = a.1.1.1.1.1.0.now;
      records_after = s.1.1.1.1.0.now;
      names_after = s.1.1.1.1.1.0.now;
      answer = r;
    })
update_says κs a r s = refl

-- `records`, `pool`, `identifiers`, `last_id`, `version`, `deletions`, `additions`, `added_records`, `edits`,
-- `request_pool`, both buffers.
pub c_update_says : (κs : Lfts 3) (a : ArgsD c_update.signature κs) (r : ResD c_update.signature κs)
    (s : AtExit c_update.ended κs)
    → c_update_reads.Learnt κs a r s
    ≡ Ensures of_c_update (stored a.0.now a.1.0.now a.1.1.1.0)
    (record {
      lent = lent a.1.1.0.now a.1.1.1.1.0 a.1.1.1.1.1.0.now a.1.1.1.1.1.1.0.now
          a.1.1.1.1.1.1.1.0.now a.1.1.1.1.1.1.1.1.0.now a.1.1.1.1.1.1.1.1.1.0.now
          (length a.1.1.1.1.1.1.1.1.1.1.0.now) (length a.1.1.1.1.1.1.1.1.1.1.1.0.now);
      records_before = a.1.1.1.1.1.1.1.1.1.1.0.now;
      names_before = a.1.1.1.1.1.1.1.1.1.1.1.0.now;
      records_after = s.1.1.1.1.1.1.1.1.1.1.0.now;
      names_after = s.1.1.1.1.1.1.1.1.1.1.1.0.now;
      answer = r;
    })
c_update_says κs a r s = refl

-- Whatever slice is lent, `Bytes` of it is what a caller of `lent_bytes` learns, which requires nothing.
pub lent_bytes_says : (κs : Lfts 1) (a : ArgsD lent_bytes.signature κs) (r : ResD lent_bytes.signature κs)
    (s : AtExit lent_bytes.ended κs)
    → lent_bytes_reads.Learnt κs a r s ≡ Bytes a.0.now
lent_bytes_says κs a r s = refl
