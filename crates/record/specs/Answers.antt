-- What tests, look-ups and operations answer.
use Rattle.std.specs.Prelude.{Option, Result}
use Rattle.record.specs.declared.FieldId.{FieldId}
use Rattle.record.specs.declared.Slot.{Slot}
use Rattle.record.specs.declared.Sizes.{Sizes}
use Rattle.record.specs.declared.Refusal.{Refusal}

-- A test over a list: passed, or a refusal.
abbrev pub Check : Type 0
Check = Result (Unit {0}) Refusal

-- What a look-up in a tree finds: a column's id and its slot, or nothing.
abbrev pub Found : Type 0
Found = Option (FieldId × Slot)

-- What a look-up over the slots of an index finds.
abbrev pub FoundSlot : Type 0
FoundSlot = Option Slot

-- What a look-up in lent bytes answers.
abbrev pub Sought : Type 0
Sought = Result Found Refusal

-- What update, pruning and renumbering answer.
abbrev pub Changed : Type 0
Changed = Result Sizes Refusal
