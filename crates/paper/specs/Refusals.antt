-- 01, Numbers given when a request is turned down: each number once, with its list and its place, in the order of 01's table;
-- from 21 on, in the order of 02.
-- Lists: 0 base, 1 additions tree, 2 deletions, 3 additions, 4 rebuilt tree, 5 identifiers, 6 edits.
-- The last number and the last list stand here alone; `tools/refusals` and the theorems read them.
use Rattle.std.specs.Prelude.{ℕ, Bool, not}
use Rattle.std.proofs.Math.Option.{Option}
use Rattle.paper.specs.Answer.{Answer, refused, fault, fault_if, demand}

abbrev pub last_refusal : ℕ
last_refusal = 26

abbrev pub last_list : ℕ
last_list = 6

-- refusal 1: an output buffer is below its size
abbrev pub roomy : (enough : Bool) → Answer (Unit {0})
roomy enough = fault_if 1 0 0 (not enough)

-- refusal 2: a limit on an input count, length or name sum is passed, or a list is no whole number of records
abbrev pub limited : (within : Bool) → Answer (Unit {0})
limited within = fault_if 2 0 0 (not within)

-- refusal 3: a byte rule of a record or entry is broken
abbrev pub unbroken : (list : ℕ) → (broken : Option ℕ) → Answer (Unit {0})
unbroken list broken = fault 3 list broken

-- refusal 4: a name or path has offset + length above its pool's length
abbrev pub pooled : (list : ℕ) → (outside : Option ℕ) → Answer (Unit {0})
pooled list outside = fault 4 list outside

-- refusal 5: level 17 is reached, or counts need records past the end
abbrev pub misshapen : {A : Type 0} → (list place : ℕ) → Answer A
misshapen list place = refused 5 list place

-- refusal 6: an element, key or value is named otherwise
abbrev pub named : (list : ℕ) → (misnamed : Option ℕ) → Answer (Unit {0})
named list misnamed = fault 6 list misnamed

-- refusal 7: an id equals an earlier one
abbrev pub own_ids : (list : ℕ) → (again : Option ℕ) → Answer (Unit {0})
own_ids list again = fault 7 list again

-- refusal 8: a full name equals an earlier one
abbrev pub own_names : (list : ℕ) → (again : Option ℕ) → Answer (Unit {0})
own_names list again = fault 8 list again

-- refusal 9: an identifier id is not in the tree; or (02, 4/13) its column, or what stands above that, breaks a condition
abbrev pub identified : (broken : Option ℕ) → Answer (Unit {0})
identified broken = fault 9 5 broken

-- refusal 10: roots of the additions tree differ from additions
abbrev pub matched : (equal : Bool) → Answer (Unit {0})
matched equal = fault_if 10 3 0 (not equal)

-- refusal 11: a deletion finds no column
abbrev pub found_column : {A : Type 0} → (place : ℕ) → Option A → Answer A
found_column place column = demand 11 2 place column

-- refusal 12: a deletion finds an identifier
abbrev pub no_identifier : (place : ℕ) → (identifier : Bool) → Answer (Unit {0})
no_identifier place identifier = fault_if 12 2 place identifier

-- refusal 13: the added column's own name has a dot; or (02, 5/13) the new name of a rename has one
abbrev pub dotless : (list place : ℕ) → (dot : Bool) → Answer (Unit {0})
dotless list place dot = fault_if 13 list place dot

-- refusal 14: the added column is required, without initial default
abbrev pub fillable : (place : ℕ) → (bare : Bool) → Answer (Unit {0})
fillable place bare = fault_if 14 3 place bare

-- refusal 15: the parent path finds nothing
abbrev pub found_parent : {A : Type 0} → (place : ℕ) → Option A → Answer A
found_parent place parent = demand 15 3 place parent

-- refusal 16: the parent leads to no struct
abbrev pub found_struct : {A : Type 0} → (place : ℕ) → Option A → Answer A
found_struct place struct = demand 16 3 place struct

-- refusal 17: the name is taken
abbrev pub free_name : (place : ℕ) → (taken : Bool) → Answer (Unit {0})
free_name place taken = fault_if 17 3 place taken

-- refusal 18: an id would pass 2,147,483,647
abbrev pub ids_left : (list place : ℕ) → (pass : Bool) → Answer (Unit {0})
ids_left list place pass = fault_if 18 list place pass

-- refusal 19: the rebuilt tree passes a limit on trees (records, levels or name sum)
abbrev pub rebuilt_within : (within : Bool) → Answer (Unit {0})
rebuilt_within within = fault_if 19 4 0 (not within)

-- refusal 20: pruning meets a list or map chosen directly, not in full mode
abbrev pub chosen_directly : {A : Type 0} → (slot : ℕ) → Answer A
chosen_directly slot = refused 20 0 slot

-- 02, 1/13: of a look-up, after 8.
-- refusal 21: two columns match at the same level where case is forgotten
abbrev pub ambiguous : {A : Type 0} → (second : ℕ) → Answer A
ambiguous second = refused 21 0 second

-- 02, 3/13: of an addition, between 16 and 17.
-- refusal 22: the receiving struct, or a record above it, is dropped as a member of a struct or of the root
abbrev pub standing : (place : ℕ) → (gone : Bool) → Answer (Unit {0})
standing place gone = fault_if 22 3 place gone

-- 02, 5/13: of an edit, after 18 of the last addition, before 13.
-- refusal 23: an edit finds no column that stays
abbrev pub surviving : {A : Type 0} → (place : ℕ) → Option A → Answer A
surviving place column = demand 23 6 place column

-- refusal 24: an edit that its column's role forbids, or a second rename or (02, 6/13) widening of a column
abbrev pub permitted : (place : ℕ) → (forbidden : Bool) → Answer (Unit {0})
permitted place forbidden = fault_if 24 6 place forbidden

-- 02, 6/13: of every update, after 2 and before all else.
-- refusal 25: the format version is unknown
abbrev pub versioned : (known : Bool) → Answer (Unit {0})
versioned known = fault_if 25 0 0 (not known)

-- 02, 6/13: of an edit, after its 24.
-- refusal 26: a widening of what is no primitive, or by a step that the version does not allow
abbrev pub stepped : (place : ℕ) → (barred : Bool) → Answer (Unit {0})
stepped place barred = fault_if 26 6 place barred
