-- What a step from a parent answers.
use Rattle.std.specs.Prelude.{Option}
use Rattle.record.specs.declared.Slot.{Slot}

-- The struct that receives an addition, or nothing.
abbrev pub Target : Type 0
Target = Option Slot
