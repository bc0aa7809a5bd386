-- What an edit of one column answers.
use Rattle.std.specs.Prelude.{Result}
use Rattle.record.specs.declared.Refusal.{Refusal}
use Rattle.record.specs.declared.Slot.{Slot}

-- The slot of the column that an edit changes, or refusal 23, 24, 13 or 26.
abbrev pub Editing : Type 0
Editing = Result Slot Refusal
