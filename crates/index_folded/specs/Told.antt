-- What the walks met, as an answer.
use Rattle.std.specs.Prelude.{ℕ, ◌<◌, Bool, false, not, List, Ok, Err}
use Rattle.std.specs.Option.{is_some}
use Rattle.std.proofs.Common.{Continue, Break}
use Rattle.record.specs.Answers.{Sought}
use Rattle.record.specs.Says.{refusal_of}
use Rattle.index_ids.specs.Chain.{Below, held}
use Rattle.index_folded_names.specs.Met.{Met}
use Rattle.index.specs.Index.{found_slot}

abbrev pub is_none : Met → Bool
is_none (Break k) = false
is_none (Continue p) = not (is_some p.1)

-- Matches are slots of a tree within the limits.
abbrev pub Small : Met → Type 0
Small (Break k) = k.0 < 1024
Small (Continue p) = Below p.1

-- The answer, with the ids of the slots.
unfoldable pub told : (ids : List ℕ) → Met → Sought
told ids (Break k) = Err (refusal_of 21 0 k.0)
told ids (Continue p) = Ok (found_slot ids (held p.1))
