-- Rules of 01 that P1 to P13 don't show: questions and answers, most of them the smallest inputs of docs/DECISIONS.md, whose
-- number stands beside them. Then each refusal once, and the order of any two that can meet. All of them are one list and
-- one claim (`pins`, with what no such list shows). The limits are a list apart, because their lists are long (theorems' `limits_hold`).
use Rattle.std.specs.Prelude.{ℕ, zero, suc, ◌+◌, ◌*◌, List, [], ◌∷◌, ◌++◌, map, pos, negsuc, take, set, replicate}
use Prim.Native.String.{String}
use Rattle.std.proofs.Math.Option.{none, some}
use Rattle.paper.specs.declared.Kind.TheVariants.{Primitive, Structure, Listing, Mapping}
use Rattle.paper.specs.Forest.{Forest, empty, mapped, ◌then◌}
use Rattle.paper.specs.Field.{Field, with_code}
use Rattle.paper.specs.Sound.{text}
use Rattle.paper.specs.Bytes.{from}
use Rattle.paper.specs.Encode.{row24, record_bytes, pool_bytes}
use Rattle.paper.specs.Sample.{column, primitive, required, struct, listing, mapping, T_records}
use Rattle.paper.specs.Asked.{Lending, lending, lent, T_lent, New, new, at_root, ◌under◌, Lists, entry}
use Rattle.paper.specs.Asked.{Editing, ◌to◌, relaxing, ◌into◌, edit◌drop◌add◌, edit_entry, shows, shows_coded, columns_are}
use Rattle.paper.specs.Asked.{Ask, renumber_from, identifiers_from, find, find_folding, find_number, find_above, find_numbers, find_each}
use Rattle.paper.specs.Asked.{drop◌add◌, count_edit◌drop◌add◌, request}
use Rattle.paper.specs.Asked.{choose, choose_full, of◌ask◌}
use Rattle.paper.specs.Asked.{Reply, tree, updated, ids_are, ◌with_last◌, found, nothing, visits, at_slots, refusal◌list◌place◌}
use Rattle.paper.specs.Worked.{Example, ◌gives◌}

-- ---- small trees

-- A tree with no identifiers and last id 10.
abbrev pub tree_of : Forest Field → Lending
tree_of forest = lent forest [] 10

-- Its first n records alone, with all the names.
abbrev cut : ℕ → Forest Field → Lending
cut n forest = lending (take (n * 24) (record_bytes forest)) (pool_bytes forest) [] 10

-- Its records alone, with no name.
abbrev nameless : Forest Field → Lending
nameless forest = lending (record_bytes forest) [] [] 10

-- A byte more than its records.
abbrev pub longer : Forest Field → Lending
longer forest = lending (record_bytes forest ++ 0 ∷ []) (pool_bytes forest) [] 10

-- With room for so many bytes of records, names and identifiers.
abbrev with_room : (records names identifiers : ℕ) → Lending → Lending
with_room records names identifiers given =
    record {
      records = given.records;
      pool = given.pool;
      identifiers = given.identifiers;
      last = given.last;
      version = given.version;
      room_records = records;
      room_names = names;
      room_identifiers = identifiers;
    }

-- In a format version.
abbrev in_version : (version : ℕ) → Lending → Lending
in_version version given =
    record {
      records = given.records;
      pool = given.pool;
      identifiers = given.identifiers;
      last = given.last;
      version = version;
      room_records = given.room_records;
      room_names = given.room_names;
      room_identifiers = given.room_identifiers;
    }

-- A byte less than the records of any answer may need.
abbrev narrow : Lending → Lending
narrow = with_room 24575 32768 0

-- A flag that is none of the two, which 3 refuses.
abbrev odd : String → ℕ → Forest Field
odd name id = column Primitive 4 name id empty

-- Structs within each other, all called `a`; the outermost has the highest id.
abbrev chain : ℕ → Forest Field
chain zero = empty
chain (suc n) = struct "a" (suc n) (chain n)

-- A map of structs to structs; lists of lists of structs; a map to lists of structs.
abbrev structs : Forest Field
structs = mapping "m" 1 (struct "key" 2 (primitive "a" 3) then struct "value" 4 (primitive "b" 5))

abbrev listings : Forest Field
listings = listing "l" 1 (listing "element" 2 (struct "element" 3 (primitive "a" 4)))

abbrev to_lists : Forest Field
to_lists = mapping "m" 1 (required "key" 2 then listing "value" 3 (struct "element" 4 (primitive "a" 5)))

-- A list of structs of these members.
abbrev list_of : Forest Field → Forest Field
list_of members = listing "l" 1 (struct "element" 2 members)

-- A member named `x.y`, and one whose short name below `l` is the same.
abbrev dotted : Forest Field
dotted = primitive "x.y" 3

abbrev nested : Forest Field
nested = listing "x" 4 (struct "element" 5 (primitive "y" 6))

-- A struct of a struct and a primitive.
abbrev branched : Forest Field
branched = struct "s" 0 (struct "a" 0 (primitive "b" 0) then primitive "c" 0)

-- A root with id -1 and its member.
abbrev pub minus_one : Lending
minus_one = lending (row24 4_294_967_295 0 1 1 0 1 0 0 ++ row24 2 1 1 0 0 0 0 0) (text "ab") [] 2

-- ---- rules

abbrev names : List Example
names =
    -- A short name leaves out structs that are elements or values, no list and no key.
    (of tree_of listings ask find "l.element.a" gives found (pos 4))
    ∷ (of tree_of listings ask find "l.a" gives nothing)
    ∷ (of tree_of to_lists ask find "m.value.a" gives found (pos 5))
    ∷ (of tree_of to_lists ask find "m.a" gives nothing)
    ∷ (of tree_of structs ask find "m.b" gives found (pos 5))
    ∷ (of tree_of structs ask find "m.a" gives nothing)
    ∷ (find "visits.element" gives found (pos 6))  -- 54
    -- The full name comes first; then the first entered, after its inside; a key and its value after both insides.
    ∷ (of tree_of (list_of (primitive "a" 3) then primitive "l.a" 4) ask find "l.a" gives found (pos 4))
    ∷ (of tree_of (list_of (dotted then nested)) ask find "l.x.y" gives found (pos 3))
    ∷ (of tree_of (list_of (nested then dotted)) ask find "l.x.y" gives found (pos 6))
    ∷ (of tree_of (list_of (listing "a" 5 (struct "element" 3 (primitive "element" 4)))) ask find "l.a.element"  -- 52
    gives found (pos 4))
    ∷ (of tree_of (list_of (mapping "m" 3 (required "key" 4 then struct "value" 5 (primitive "key" 6))))  -- 51
    ask find "l.m.key"
    gives found (pos 6))
    -- Ids are signed; the parent of a root and of an id that is not there is nothing.
    ∷ (find_number 7 gives found (pos 7))
    ∷ (find_number 0 gives nothing)
    ∷ (of minus_one ask find_number 4_294_967_295 gives found (negsuc 0))  -- 57
    ∷ (of minus_one ask find_above 2 gives found (negsuc 0))
    ∷ (find_above 7 gives found (pos 6))
    ∷ (find_above 1 gives nothing)  -- 56
    ∷ (find_above 99 gives nothing)
    ∷ []

-- 02, 1/13: where case is forgotten.
abbrev folded_names : List Example
folded_names =
    (find_folding "Node.Cost" gives found (pos 5))
    ∷ (find_folding "VISITS.Day" gives found (pos 7))
    ∷ (find_folding "DAY" gives nothing)
    -- The letters at both ends fold; what stands beside them does not, and no byte above 127 does.
    ∷ (of tree_of (primitive "AZaz" 1) ask find_folding "azAZ" gives found (pos 1))
    ∷ (of tree_of (primitive "@" 1) ask find_folding "`" gives nothing)  -- 147
    ∷ (of tree_of (primitive "[" 1) ask find_folding "{" gives nothing)  -- 147
    ∷ (of tree_of (primitive "Ä" 1) ask find_folding "ä" gives nothing)
    -- An exact match beside another is no help; nor are equal short names, with letters or without; slots count, not entry.
    ∷ (of tree_of (primitive "a" 1 then primitive "A" 2) ask find_folding "a" gives refusal 21 list 0 place 1)  -- 146
    ∷ (of tree_of (list_of (dotted then nested)) ask find_folding "L.X.Y" gives refusal 21 list 0 place 5)  -- 145
    ∷ (of tree_of (list_of (listing "1" 5 (struct "element" 3 (primitive "element" 4)))) ask find_folding "l.1.element"  -- 145
    gives refusal 21 list 0 place 4)
    -- A full name hides any number of short ones; of short ones alone two are too many.
    ∷ (of tree_of (list_of (primitive "a" 3 then primitive "A" 4) then primitive "L.a" 5) ask find_folding "l.A"
    gives found (pos 5))
    ∷ (of tree_of (list_of (primitive "a" 3 then primitive "A" 4)) ask find_folding "l.A" gives refusal 21 list 0 place 3)
    ∷ []

-- 02, 2/13: the slot of each id, in the order asked, as often as it is asked; ids are signed; the tree is tested if none is asked.
abbrev many_ids : List Example
many_ids =
    (find_each (9 ∷ 3 ∷ 99 ∷ 9 ∷ 6 ∷ []) gives at_slots (some 8 ∷ some 6 ∷ none ∷ some 8 ∷ some 4 ∷ []))
    ∷ (of minus_one ask find_each (2 ∷ 4_294_967_295 ∷ 1 ∷ []) gives at_slots (some 1 ∷ some 0 ∷ none ∷ []))
    ∷ (find_each [] gives at_slots [])
    ∷ (of tree_of (primitive "a" 1 then primitive "a" 2) ask find_each [] gives refusal 8 list 0 place 1)
    ∷ []

abbrev updates : List Example
updates =
    -- A map's value receives, not its key, which does by its own path; and one step is gone, no more.
    (of tree_of structs ask drop [] add (("x" under "m") ∷ []) gives (1 ∷ 2 ∷ 3 ∷ 4 ∷ 5 ∷ 11 ∷ []) with_last 11)
    ∷ (of tree_of structs ask drop [] add (("x" under "m.key") ∷ []) gives (1 ∷ 2 ∷ 3 ∷ 11 ∷ 4 ∷ 5 ∷ []) with_last 11)
    ∷ (of tree_of listings ask drop [] add (("x" under "l") ∷ []) gives refusal 16 list 3 place 0)  -- 38
    ∷ (of tree_of listings ask drop [] add (("x" under "l.element") ∷ []) gives (1 ∷ 2 ∷ 3 ∷ 4 ∷ 11 ∷ []) with_last 11)
    -- A name is taken at the root, and free if what has it is dropped; so it is under a parent (P4), and there also if the struct
    -- itself is dropped and stays (P6).
    ∷ (drop [] add (at_root "node" ∷ []) gives refusal 17 list 3 place 0)
    ∷ (drop ("node" ∷ []) add (at_root "node" ∷ []) gives (2 ∷ 6 ∷ 7 ∷ 3 ∷ 8 ∷ 9 ∷ 10 ∷ 11 ∷ []) with_last 11)
    ∷ (drop [] add (("cost" under "node") ∷ []) gives refusal 17 list 3 place 0)
    -- The base as it was is looked in; the added column alone is; a path of no bytes is a path.
    ∷ (drop [] add (new (struct "s" 0 empty) none ∷ ("x" under "s") ∷ []) gives refusal 15 list 3 place 1)  -- 35
    ∷ (of tree_of empty ask drop [] add (new (struct "s" 0 (required "a.b" 0)) none ∷ [])  -- 34
    gives (11 ∷ 12 ∷ []) with_last 12)
    ∷ (drop [] add (("x" under "") ∷ []) gives refusal 15 list 3 place 0)  -- 15
    -- Ids in preorder, entry after entry; under one parent in entry order; each record counts.
    ∷ (of tree_of empty ask drop [] add (new branched none ∷ at_root "x" ∷ [])
    gives (11 ∷ 12 ∷ 13 ∷ 14 ∷ 15 ∷ []) with_last 15)
    ∷ (drop [] add (("x" under "node") ∷ ("y" under "node") ∷ [])
    gives (1 ∷ 4 ∷ 5 ∷ 11 ∷ 12 ∷ 2 ∷ 6 ∷ 7 ∷ 3 ∷ 8 ∷ 9 ∷ 10 ∷ []) with_last 12)
    ∷ (of lent empty [] 2_147_483_646 ask drop [] add (new (struct "s" 0 (primitive "a" 0)) none ∷ [])
    gives refusal 18 list 3 place 0)
    -- A dropped element stays, and what is dropped of its members goes.
    ∷ (of tree_of (list_of (primitive "a" 3 then primitive "b" 4)) ask drop ("l.element" ∷ "l.a" ∷ []) add []  -- 46
    gives (1 ∷ 2 ∷ 4 ∷ []) with_last 10)
    -- The last id: any is taken, and the highest may be given.
    ∷ (of tree_of (primitive "a" 11) ask drop [] add [] gives (11 ∷ []) with_last 10)  -- 30
    ∷ (of lent empty [] 2_147_483_646 ask drop [] add (at_root "x" ∷ [])  -- 39
    gives (2_147_483_647 ∷ []) with_last 2_147_483_647)
    -- The places of 7 and 8: by slots, of the later one, in the rebuilt tree's order.
    ∷ (of T_lent [] 1 ask drop [] add (("x" under "node") ∷ []) gives refusal 7 list 4 place 4)  -- 27
    ∷ (of tree_of (struct "a" 1 (primitive "x" 2) then struct "a" 3 (primitive "x" 4)) ask drop [] add []  -- 24
    gives refusal 8 list 0 place 2)
    ∷ (of tree_of (struct "a" 1 (primitive "b" 2) then primitive "a.b" 3) ask drop [] add []  -- 26
    gives refusal 8 list 0 place 2)
    ∷ []

-- Lists of structs of a struct; a struct of a list of structs.
abbrev struct_in_list : Forest Field
struct_in_list = list_of (struct "s" 3 (primitive "a" 4))

abbrev list_in_struct : Forest Field
list_in_struct = struct "s" 1 (listing "l" 2 (struct "element" 3 (primitive "a" 4)))

-- 02, 3/13: an addition whose receiving struct goes.
abbrev going : List Example
going =
    -- The struct itself is dropped as a member, or a record above it: near or far, a list, a map, above a key too.
    (drop ("node" ∷ []) add (("x" under "node") ∷ []) gives refusal 22 list 3 place 0)
    ∷ (of tree_of (chain 16) ask drop ("a" ∷ []) add (("x" under "a.a.a.a.a.a.a.a.a.a.a.a.a.a.a.a") ∷ [])
    gives refusal 22 list 3 place 0)
    ∷ (drop ("parts" ∷ []) add (("x" under "parts") ∷ []) gives refusal 22 list 3 place 0)
    ∷ (of tree_of structs ask drop ("m" ∷ []) add (("x" under "m.key") ∷ []) gives refusal 22 list 3 place 0)
    ∷ (of tree_of list_in_struct ask drop ("s" ∷ []) add (("x" under "s.l") ∷ []) gives refusal 22 list 3 place 0)
    ∷ (of tree_of list_in_struct ask drop ("s.l" ∷ []) add (("x" under "s.l") ∷ []) gives refusal 22 list 3 place 0)
    -- A dropped element, key or value stays, and is no reason, nor is one above.
    ∷ (drop ("visits.element" ∷ []) add (("x" under "visits") ∷ [])
    gives (1 ∷ 4 ∷ 5 ∷ 2 ∷ 6 ∷ 7 ∷ 11 ∷ 3 ∷ 8 ∷ 9 ∷ 10 ∷ []) with_last 11)
    ∷ (of tree_of structs ask drop ("m.key" ∷ "m.value" ∷ []) add (("x" under "m.key") ∷ ("y" under "m") ∷ [])
    gives (1 ∷ 2 ∷ 3 ∷ 11 ∷ 4 ∷ 5 ∷ 12 ∷ []) with_last 12)
    ∷ (of tree_of struct_in_list ask drop ("l.element" ∷ []) add (("x" under "l.s") ∷ [])
    gives (1 ∷ 2 ∷ 3 ∷ 4 ∷ 11 ∷ []) with_last 11)
    ∷ (of tree_of struct_in_list ask drop ("l.element" ∷ []) add (("a" under "l.s") ∷ []) gives refusal 17 list 3 place 0)  -- 37
    ∷ (of tree_of struct_in_list ask drop ("l.element" ∷ "l.s" ∷ []) add (("x" under "l.s") ∷ []) gives refusal 22 list 3 place 0)
    ∷ (of tree_of struct_in_list ask drop ("l.element" ∷ "l" ∷ []) add (("x" under "l.s") ∷ []) gives refusal 22 list 3 place 0)
    -- What is dropped beneath the receiving struct, or beside it, is no reason; at the root nothing is.
    ∷ (of tree_of struct_in_list ask drop ("l.s" ∷ []) add (("x" under "l") ∷ at_root "s" ∷ []) gives (1 ∷ 2 ∷ 11 ∷ 12 ∷ []) with_last 12)
    ∷ (drop ("node" ∷ "visits" ∷ "parts" ∷ []) add (at_root "x" ∷ []) gives (11 ∷ []) with_last 11)
    ∷ []

-- 02, 7/13: the records visited. T has ten.
abbrev visiting : List Example
visiting =
    (count_edit [] drop [] add [] gives visits 10)
    ∷ (of tree_of empty ask count_edit [] drop [] add [] gives visits 0)
    -- A dropped member counts, what is inside it does not, dropped or not; a column dropped twice is dropped once.
    ∷ (count_edit [] drop ("node.cost" ∷ []) add [] gives visits 10)
    ∷ (count_edit [] drop ("node" ∷ []) add [] gives visits 8)
    ∷ (count_edit [] drop ("node" ∷ "node.cost" ∷ "node" ∷ []) add [] gives visits 8)
    ∷ (count_edit [] drop ("visits" ∷ []) add [] gives visits 8)
    ∷ (count_edit [] drop ("node" ∷ "visits" ∷ "parts" ∷ []) add [] gives visits 3)
    ∷ (of tree_of (chain 16) ask count_edit [] drop ("a.a" ∷ []) add [] gives visits 2)
    -- A dropped element, key or value stays; all inside it counts, but for what is inside a dropped member there.
    ∷ (count_edit [] drop ("visits.element" ∷ []) add [] gives visits 10)
    ∷ (of tree_of structs ask count_edit [] drop ("m.key" ∷ "m.value" ∷ []) add [] gives visits 5)
    ∷ (of tree_of struct_in_list ask count_edit [] drop ("l.element" ∷ []) add [] gives visits 4)
    ∷ (of tree_of struct_in_list ask count_edit [] drop ("l.element" ∷ "l.s" ∷ []) add [] gives visits 3)
    -- Each added record counts once, wherever it goes.
    ∷ (count_edit [] drop [] add (at_root "x" ∷ ("x" under "node") ∷ ("x" under "visits") ∷ []) gives visits 13)
    ∷ (count_edit [] drop ("node" ∷ []) add (new branched none ∷ []) gives visits 12)
    ∷ (of tree_of empty ask count_edit [] drop [] add (new branched none ∷ []) gives visits 4)
    -- Edits visit nothing more; a refusal is a refusal.
    ∷ (count_edit ("node" to "board" ∷ relaxing "node.cost" ∷ []) drop [] add [] gives visits 10)
    ∷ (count_edit [] drop ("none" ∷ []) add [] gives refusal 11 list 2 place 0)
    ∷ []

-- A required struct; one of a required column and an optional one, with a required column beside it.
abbrev holder : String → ℕ → Forest Field → Forest Field
holder = column Structure 1

abbrev pub keyed : Forest Field
keyed = holder "node" 1 (required "cost" 5 then primitive "button" 4) then required "site" 2

-- So many required structs, one in the other, then what the innermost holds.
abbrev held_by : ℕ → Forest Field → Forest Field
held_by zero members = members
held_by (suc n) members = holder "s" (suc n) (held_by n members)

-- A primitive of a type code.
abbrev of_type : (code flags : ℕ) → String → ℕ → Forest Field
of_type code flags name id = mapped (with_code code) (column Primitive flags name id empty)

-- A required list and a required map, whose insides are required too.
abbrev key_list : Forest Field → Forest Field
key_list = column Listing 1 "l" 31

abbrev key_map : Forest Field
key_map = column Mapping 1 "m" 31 (required "key" 32 then required "value" 33)

-- 9 of the base, told by an update and by a renumbering.
abbrev breaks_at : (at : ℕ) → Forest Field → (identifiers : List ℕ) → List Example
breaks_at at given identifiers =
    map (λ q. (of lent given identifiers 10 ask q) gives refusal 9 list 5 place at) ((drop [] add []) ∷ renumber_from 1 ∷ [])

-- One column alone, and an update that changes nothing.
abbrev accepts : Forest Field → Example
accepts column = (of lent column (1 ∷ []) 10 ask drop [] add []) gives (1 ∷ []) with_last 10

-- The identifier is dropped with the struct that holds it, and its id is given to another column.
abbrev given_again : Forest Field → Ask
given_again column =
    of lent (holder "node" 1 (required "cost" 5) then primitive "z" 2) (5 ∷ []) 4
    ask drop ("node" ∷ []) add (new column none ∷ [])

-- 02, 4/13: the columns that can be identifiers.
abbrev identifier_columns : List Example
identifier_columns =
    -- Each condition of the column, broken alone: it is in the tree, a primitive, required, neither float nor double.
    breaks_at 0 keyed (99 ∷ []) ++ breaks_at 0 keyed (1 ∷ []) ++ breaks_at 0 (key_list (required "element" 32)) (31 ∷ [])
    ++ breaks_at 0 key_map (31 ∷ []) ++ breaks_at 0 keyed (4 ∷ [])  -- 168
    ++ breaks_at 0 (of_type 5 1 "a" 1) (1 ∷ []) ++ breaks_at 0 (of_type 6 1 "a" 1) (1 ∷ [])
    -- No list or map above, near or far; no optional struct above, near or far.
    ++ breaks_at 0 (key_list (required "element" 32)) (32 ∷ [])  -- 170
    ++ breaks_at 0 key_map (32 ∷ []) ++ breaks_at 0 key_map (33 ∷ [])
    ++ breaks_at 0 (held_by 1 (key_list (holder "element" 32 (holder "t" 33 (required "a" 34))))) (34 ∷ [])
    ++ breaks_at 0 (struct "o" 31 (required "a" 32)) (32 ∷ [])
    ++ breaks_at 0 (struct "o" 31 (held_by 1 (required "a" 32))) (32 ∷ [])
    ++ breaks_at 0 (struct "o" 31 (held_by 14 (required "a" 32))) (32 ∷ [])
    -- The first identifier that breaks one, whichever it breaks.
    ++ breaks_at 1 keyed (5 ∷ 4 ∷ 99 ∷ []) ++ breaks_at 1 keyed (2 ∷ 99 ∷ 4 ∷ [])  -- 171
    -- Any other type code, an initial default and required structs on all levels above are no reason; one may be given twice.
    ++ map (λ code. accepts (of_type code 1 "a" 1)) (0 ∷ 4 ∷ 7 ∷ 10 ∷ 65541 ∷ [])  -- 169
    ++ accepts (of_type 0 3 "a" 1)
    ∷ (of lent (held_by 15 (required "a" 31)) (31 ∷ []) 10 ask identifiers_from 1 gives ids_are (16 ∷ []))
    ∷ (of lent keyed (5 ∷ 2 ∷ 5 ∷ []) 10 ask drop ("node.button" ∷ []) add [] gives (1 ∷ 5 ∷ 2 ∷ []) with_last 10)
    -- Of the rebuilt tree: an id that is given again is that of the new column.
    ∷ (given_again (primitive "x" 0) gives refusal 9 list 5 place 0)  -- 29
    ∷ (given_again (of_type 6 3 "x" 0) gives refusal 9 list 5 place 0)
    ∷ (given_again (of_type 3 3 "x" 0) gives (2 ∷ 5 ∷ []) with_last 5)
    ∷ []

abbrev others : List Example
others =
    -- Identifiers are mapped in the order given; a start below 0 is one like any other; an empty tree takes no number.
    (of lent keyed (2 ∷ 5 ∷ 2 ∷ []) 10 ask identifiers_from 11 gives ids_are (12 ∷ 13 ∷ 12 ∷ []))
    ∷ (of tree_of structs ask renumber_from 4_294_967_294  -- 42
    gives tree (negsuc 1 ∷ negsuc 0 ∷ pos 0 ∷ pos 1 ∷ pos 2 ∷ []))
    ∷ (of tree_of empty ask renumber_from 2_147_483_647 gives ids_are [])  -- 41
    -- A chosen key is never 20, and keeps the whole map if its value does not stay; its inside is ignored.
    ∷ (of tree_of (mapping "m" 1 (listing "key" 2 (primitive "element" 3) then primitive "value" 4)) ask choose (2 ∷ [])  -- 58
    gives ids_are (1 ∷ 2 ∷ 3 ∷ 4 ∷ []))
    ∷ (choose (8 ∷ 9 ∷ []) gives ids_are (3 ∷ 8 ∷ 9 ∷ []))  -- 59
    ∷ (of tree_of structs ask choose_full (3 ∷ []) gives ids_are [])  -- 63
    ∷ (of tree_of (struct "s" 1 empty) ask choose_full [] gives ids_are [])  -- 62
    -- 20 stands at what is met first; a chosen list is met though its members are chosen too.
    ∷ (of tree_of listings ask choose (1 ∷ 2 ∷ []) gives refusal 20 list 0 place 1)  -- 60
    ∷ (choose (2 ∷ 7 ∷ []) gives refusal 20 list 0 place 3)  -- 61
    ∷ (of tree_of (structs then listing "l" 6 (primitive "element" 7)) ask choose (4 ∷ 6 ∷ []) gives refusal 20 list 0 place 5)  -- 65
    -- A list has one child; a name of no bytes lies in its pool too; offset and length are added, not cut.
    ∷ (of tree_of (listing "l" 1 (primitive "element" 2 then primitive "element" 3)) ask find "l"  -- 12
    gives refusal 3 list 0 place 0)
    ∷ (of lending (row24 1 1 0 0 0 0 0 0) (text "a") [] 1 ask find "" gives found (pos 1))  -- 17
    ∷ (of lending (row24 1 2 0 0 0 0 0 0) (text "a") [] 1 ask find "" gives refusal 4 list 0 place 0)
    ∷ (of lending (row24 1 4_294_967_295 1 0 0 0 0 0) (text "a") [] 1 ask find "" gives refusal 4 list 0 place 0)  -- 18
    -- The place of 5: the first record of level 17, or the record count; the lower one.
    ∷ (of tree_of (chain 17) ask find "a" gives refusal 5 list 0 place 16)  -- 19
    ∷ (of cut 16 (chain 17) ask find "a" gives refusal 5 list 0 place 16)  -- 20
    ∷ (of cut 18 (chain 17 then struct "b" 18 (primitive "c" 19)) ask find "a" gives refusal 5 list 0 place 16)  -- 21
    ∷ (of cut 2 (struct "a" 1 (primitive "b" 2 then primitive "c" 3)) ask find "a" gives refusal 5 list 0 place 2)
    -- 6 goes by bytes and stands at the child; a root may be called `element`.
    ∷ (of tree_of (listing "l" 1 (primitive "Element" 2)) ask find "l" gives refusal 6 list 0 place 1)  -- 22
    ∷ (of tree_of (mapping "m" 1 (required "value" 2 then primitive "value" 3)) ask find "m"
    gives refusal 6 list 0 place 1)
    ∷ (of tree_of (mapping "m" 1 (primitive "key" 2 then primitive "key" 3)) ask find "m" gives refusal 6 list 0 place 2)
    ∷ (of tree_of empty ask drop [] add (new (listing "element" 0 (primitive "x" 0)) none ∷ [])  -- 23
    gives refusal 6 list 1 place 1)
    ∷ []

-- ---- 02, 6/13: widening

-- One column of a type code, and then of another, in each version what is told of the step.
abbrev stepping : (old new : ℕ) (version : ℕ) → Reply → Example
stepping old new version told =
    (of in_version version (tree_of (of_type old 0 "a" 1)) ask edit ("a" into new ∷ []) drop [] add []) gives told

abbrev a_step : (old new : ℕ) (version : ℕ) → Example
a_step old new version = stepping old new version (columns_are (shows_coded 1 "a" 0 new ∷ []))

abbrev no_step : (old new : ℕ) (version : ℕ) → Example
no_step old new version = stepping old new version (refusal 26 list 6 place 0)

abbrev in_both : ((version : ℕ) → Example) → List Example
in_both example = example 2 ∷ example 3 ∷ []

-- The codes from 0 to 10 in pairs, first to second: all that are no step in a version.
abbrev no_steps_to : (version old : ℕ) → (new : List ℕ) → List Example
no_steps_to version old new = map (λ code. no_step old code version) new

-- A decimal's code.
abbrev decimal : (precision scale : ℕ) → ℕ
decimal precision scale = 65536 + 256 * precision + scale

-- A list and a map of ints; a required int, a float, and a struct.
abbrev ints : Forest Field
ints =
    listing "l" 1 (of_type 2 0 "element" 2)
    then mapping "m" 3 (of_type 2 1 "key" 4 then of_type 2 0 "value" 5)

abbrev ints_are : (element key value : ℕ) → Reply
ints_are element key value =
    columns_are
    (shows 1 "l" 0 ∷ shows_coded 2 "element" 0 element ∷ shows 3 "m" 0 ∷ shows_coded 4 "key" 1 key
    ∷ shows_coded 5 "value" 0 value ∷ [])

abbrev priced : Forest Field
priced = of_type 2 1 "a" 1 then of_type 5 1 "b" 2 then struct "c" 3 empty

abbrev priced_are : (a b : ℕ) → Reply
priced_are a b = columns_are (shows_coded 1 "a" 1 a ∷ shows_coded 2 "b" 1 b ∷ shows 3 "c" 0 ∷ [])

abbrev widenings : List Example
widenings =
    -- Both versions: int to long, float to double; version 3 alone: date to timestamp and to timestamp_ns.
    in_both (a_step 2 3) ++ in_both (a_step 5 6)
    ++ a_step 4 7 3 ∷ a_step 4 8 3 ∷ no_step 4 7 2 ∷ no_step 4 8 2
    -- No other pair, not even of equal codes (199), nor with a code outside the table (198).
    ∷ no_steps_to 3 0 (from (λ code. code) 0 11) ++ no_steps_to 3 1 (from (λ code. code) 0 11)
    ++ no_steps_to 3 2 (0 ∷ 1 ∷ 2 ∷ 4 ∷ 5 ∷ 6 ∷ 7 ∷ 8 ∷ 9 ∷ 10 ∷ [])
    ++ no_steps_to 3 3 (from (λ code. code) 0 11)
    ++ no_steps_to 3 4 (0 ∷ 1 ∷ 2 ∷ 3 ∷ 4 ∷ 5 ∷ 6 ∷ 9 ∷ 10 ∷ [])
    ++ no_steps_to 3 5 (0 ∷ 1 ∷ 2 ∷ 3 ∷ 4 ∷ 5 ∷ 7 ∷ 8 ∷ 9 ∷ 10 ∷ [])
    ++ no_steps_to 3 6 (from (λ code. code) 0 11) ++ no_steps_to 3 7 (from (λ code. code) 0 11)
    ++ no_steps_to 3 8 (from (λ code. code) 0 11) ++ no_steps_to 3 9 (from (λ code. code) 0 11)
    ++ no_steps_to 3 10 (from (λ code. code) 0 11)
    -- A decimal: a higher precision, with equal scale, in both versions; from 1 to 38, a scale up to the precision.
    ++ in_both (a_step (decimal 9 2) (decimal 10 2)) ++ in_both (a_step (decimal 1 0) (decimal 38 0))
    ++ in_both (a_step (decimal 37 37) (decimal 38 37)) ++ in_both (a_step (decimal 1 1) (decimal 2 1))
    ++ in_both (no_step (decimal 9 2) (decimal 9 2)) ++ in_both (no_step (decimal 9 2) (decimal 8 2))
    ++ in_both (no_step (decimal 9 2) (decimal 10 3)) ++ in_both (no_step (decimal 9 2) (decimal 10 1))
    ++ in_both (no_step (decimal 38 2) (decimal 39 2)) ++ in_both (no_step (decimal 39 2) (decimal 40 2))
    ++ in_both (no_step (decimal 40 2) (decimal 38 2)) ++ in_both (no_step (decimal 0 0) (decimal 1 0))  -- 200
    ++ in_both (no_step (decimal 2 3) (decimal 3 3)) ++ in_both (no_step (decimal 1 3) (decimal 2 3))
    ++ in_both (no_step 2 (decimal 9 0)) ++ in_both (no_step (decimal 9 0) 3)
    -- In any role, of a key too.
    ++ (of tree_of ints ask edit ("l.element" into 3 ∷ "m.key" into 3 ∷ "m.value" into 3 ∷ []) drop [] add []
    gives ints_are 3 3 3)
    -- What is no primitive has no step; a rename, a relaxing and a widening of one column are three things (202).
    ∷ (of tree_of priced ask edit ("c" into 3 ∷ []) drop [] add [] gives refusal 26 list 6 place 0)
    ∷ (of tree_of priced ask edit ("a" to "d" ∷ relaxing "a" ∷ "a" into 3 ∷ []) drop [] add []
    gives columns_are (shows_coded 1 "d" 0 3 ∷ shows_coded 2 "b" 1 5 ∷ shows 3 "c" 0 ∷ []))
    ∷ (of tree_of priced ask edit ("a" into 3 ∷ relaxing "a" ∷ "a" to "d" ∷ []) drop [] add []
    gives columns_are (shows_coded 1 "d" 0 3 ∷ shows_coded 2 "b" 1 5 ∷ shows 3 "c" 0 ∷ []))
    -- A second widening of a column is 24, whatever its step (201); a first one whose step is none is 26.
    ∷ (of tree_of priced ask edit ("a" into 3 ∷ "a" into 3 ∷ []) drop [] add [] gives refusal 24 list 6 place 1)
    ∷ (of in_version 3 (tree_of (of_type 4 0 "a" 1)) ask edit ("a" into 7 ∷ "a" into 8 ∷ []) drop [] add []
    gives refusal 24 list 6 place 1)
    ∷ (of tree_of priced ask edit ("a" into 9 ∷ "a" into 3 ∷ []) drop [] add [] gives refusal 26 list 6 place 0)
    ∷ (of tree_of priced ask edit ("a" into 3 ∷ "b" into 6 ∷ []) drop [] add [] gives priced_are 3 6)
    -- What is dropped or added is not widened.
    ∷ (of tree_of priced ask edit ("a" into 3 ∷ []) drop ("a" ∷ []) add [] gives refusal 23 list 6 place 0)
    ∷ (of tree_of priced ask edit ("d" into 3 ∷ []) drop [] add (new (of_type 2 0 "d" 0) none ∷ []) gives refusal 23 list 6 place 0)
    -- An int identifier widened to long stays one; a float is none before it is widened, and a double none after.
    ∷ (of lent priced (1 ∷ []) 10 ask edit ("a" into 3 ∷ []) drop [] add [] gives priced_are 3 5)
    ∷ (of lent priced (2 ∷ []) 10 ask edit ("b" into 6 ∷ []) drop [] add [] gives refusal 9 list 5 place 0)
    ∷ (of lent (of_type 6 1 "b" 2) (2 ∷ []) 10 ask drop [] add [] gives refusal 9 list 5 place 0)
    -- 25 in every update, with edits or without (197); after 2, and before 3 of the base.
    ∷ map (λ version. (of in_version version (T_lent [] 10) ask drop [] add []) gives refusal 25 list 0 place 0)
    (0 ∷ 1 ∷ 4 ∷ 258 ∷ 4_294_967_295 ∷ [])
    ++ (of in_version 3 (T_lent [] 10) ask drop ("node" ∷ "visits" ∷ []) add [] gives (3 ∷ 8 ∷ 9 ∷ 10 ∷ []) with_last 10)
    ∷ (of in_version 4 (longer empty) ask drop [] add [] gives refusal 2 list 0 place 0)
    ∷ (of in_version 4 (tree_of (odd "a" 1)) ask drop [] add [] gives refusal 25 list 0 place 0)
    ∷ []

-- ---- 02, 5/13: rename and relax

-- `a` required with an initial default, and `b`.
abbrev two : Lending
two = tree_of (column Primitive 3 "a" 1 empty then primitive "b" 2)

abbrev two_are : String → (flags : ℕ) → String → Reply
two_are a flags b = columns_are (shows 1 a flags ∷ shows 2 b 0 ∷ [])

-- `keyed` with these names and flags of `node`, `cost` and `site`.
abbrev keyed_are : String → ℕ → String → ℕ → String → ℕ → Reply
keyed_are node node_flags cost cost_flags site site_flags =
    columns_are (shows 1 node node_flags ∷ shows 5 cost cost_flags ∷ shows 4 "button" 0 ∷ shows 2 site site_flags ∷ [])

-- Of `two`, without deletions and additions.
abbrev edited : List Editing → Reply → Example
edited edits told = (of two ask edit edits drop [] add []) gives told

-- Of T, without additions.
abbrev refuses : List Editing → (drops : List String) → Reply → Example
refuses edits drops told = (edit edits drop drops add []) gives told

abbrev edits : List Example
edits =
    -- A rename keeps the flags, relaxing the name and the default; both on one column, in either order.
    edited ("a" to "c" ∷ []) (two_are "c" 3 "b")
    ∷ edited (relaxing "a" ∷ []) (two_are "a" 2 "b")
    ∷ edited ("a" to "c" ∷ relaxing "a" ∷ []) (two_are "c" 2 "b")
    ∷ edited (relaxing "a" ∷ "a" to "c" ∷ []) (two_are "c" 2 "b")
    -- What is optional stays so; a column may be relaxed twice.
    ∷ edited (relaxing "b" ∷ []) (two_are "a" 3 "b")
    ∷ edited (relaxing "a" ∷ relaxing "a" ∷ []) (two_are "a" 2 "b")
    -- The present name and the empty one are names; two columns exchange theirs.
    ∷ edited ("a" to "a" ∷ []) (two_are "a" 3 "b")  -- 182
    ∷ edited ("a" to "" ∷ []) (two_are "" 3 "b")  -- 187
    ∷ edited ("a" to "b" ∷ "b" to "a" ∷ []) (two_are "b" 3 "a")  -- 185
    -- Inner columns, by their full or short names; the name of a struct stands before its members' names.
    ∷ (of lent keyed [] 10 ask edit ("node.cost" to "price" ∷ relaxing "node" ∷ "node" to "board" ∷ []) drop [] add []
    gives keyed_are "board" 0 "price" 1 "site" 1)
    ∷ (of tree_of (list_of (primitive "a" 3)) ask edit ("l.a" to "b" ∷ "l" to "k" ∷ []) drop [] add []
    gives columns_are (shows 1 "k" 0 ∷ shows 2 "element" 0 ∷ shows 3 "b" 0 ∷ []))
    -- Elements, values and their inside may be relaxed, no key, even an optional one.
    ∷ (of tree_of (listing "l" 1 (required "element" 2)) ask edit (relaxing "l.element" ∷ []) drop [] add []
    gives columns_are (shows 1 "l" 0 ∷ shows 2 "element" 0 ∷ []))
    ∷ (of tree_of (mapping "m" 1 (required "key" 2 then required "value" 3)) ask edit (relaxing "m.value" ∷ []) drop [] add []
    gives columns_are (shows 1 "m" 0 ∷ shows 2 "key" 1 ∷ shows 3 "value" 0 ∷ []))
    ∷ (of tree_of (mapping "m" 1 (primitive "key" 2 then primitive "value" 3)) ask edit (relaxing "m.key" ∷ []) drop [] add []
    gives refusal 24 list 6 place 0)  -- 181
    -- None of the three is renamed, even to its own name; a root called `element` is.
    ∷ refuses ("visits.element" to "element" ∷ []) [] (refusal 24 list 6 place 0)
    ∷ refuses ("parts.key" to "key" ∷ []) [] (refusal 24 list 6 place 0)
    ∷ refuses ("parts.value" to "value" ∷ []) [] (refusal 24 list 6 place 0)
    ∷ (of tree_of (primitive "element" 1) ask edit ("element" to "a" ∷ []) drop [] add [] gives columns_are (shows 1 "a" 0 ∷ []))
    -- A second rename, to whatever name, wherever the first stands.
    ∷ edited ("a" to "c" ∷ "a" to "d" ∷ []) (refusal 24 list 6 place 1)
    ∷ edited ("a" to "c" ∷ "a" to "c" ∷ []) (refusal 24 list 6 place 1)  -- 182
    ∷ edited ("a" to "a" ∷ relaxing "a" ∷ "b" to "c" ∷ "a" to "a" ∷ []) (refusal 24 list 6 place 3)
    -- A path finds nothing; what is dropped, or stands beneath it; what is added. A new name is no path.
    ∷ edited (relaxing "c" ∷ []) (refusal 23 list 6 place 0)
    ∷ edited ("a" to "c" ∷ relaxing "c" ∷ []) (refusal 23 list 6 place 1)  -- 183
    ∷ refuses (relaxing "node" ∷ []) ("node" ∷ []) (refusal 23 list 6 place 0)
    ∷ refuses ("node.cost" to "price" ∷ []) ("node" ∷ []) (refusal 23 list 6 place 0)
    ∷ refuses (relaxing "parts.key" ∷ []) ("parts" ∷ []) (refusal 23 list 6 place 0)
    ∷ (edit (relaxing "floor" ∷ []) drop [] add (at_root "floor" ∷ []) gives refusal 23 list 6 place 0)  -- 183
    -- A dropped element that stays survives, and so does its inside.
    ∷ (of tree_of (list_of (primitive "a" 3)) ask edit (relaxing "l.element" ∷ "l.a" to "b" ∷ []) drop ("l.element" ∷ []) add []
    gives columns_are (shows 1 "l" 0 ∷ shows 2 "element" 0 ∷ shows 3 "b" 0 ∷ []))  -- 184
    -- A dot in the new name.
    ∷ edited (relaxing "a" ∷ "a" to "." ∷ []) (refusal 13 list 6 place 1)  -- 186
    -- Additions come first: a name that a rename frees is taken, one that it takes is free and 8 finds it. A dropped one is free.
    ∷ (of two ask edit ("a" to "c" ∷ []) drop [] add (at_root "a" ∷ []) gives refusal 17 list 3 place 0)  -- 185
    ∷ (of two ask edit ("a" to "c" ∷ []) drop [] add (at_root "c" ∷ []) gives refusal 8 list 4 place 2)  -- 185
    ∷ edited ("a" to "b" ∷ []) (refusal 8 list 4 place 1)
    ∷ (of two ask edit ("b" to "a" ∷ []) drop ("a" ∷ []) add [] gives columns_are (shows 2 "a" 0 ∷ []))
    -- Where an added column has the id of a dropped one, no edit meets it.
    ∷ (of lent (primitive "a" 1 then primitive "b" 2) [] 0 ask edit ("b" to "c" ∷ []) drop ("a" ∷ []) add (at_root "d" ∷ [])
    gives columns_are (shows 2 "c" 0 ∷ shows 1 "d" 0 ∷ []))
    -- An identifier may be renamed. Relaxed, or with what stands above it relaxed, it is none.
    ∷ (of lent keyed (2 ∷ 5 ∷ []) 10 ask edit ("site" to "place" ∷ "node.cost" to "price" ∷ []) drop [] add []
    gives keyed_are "node" 1 "price" 1 "place" 1)
    ∷ (of lent keyed (2 ∷ 5 ∷ []) 10 ask edit (relaxing "node.cost" ∷ []) drop [] add [] gives refusal 9 list 5 place 1)  -- 188
    ∷ (of lent keyed (2 ∷ 5 ∷ []) 10 ask edit (relaxing "node" ∷ []) drop [] add [] gives refusal 9 list 5 place 1)
    ∷ (of lent keyed (2 ∷ []) 10 ask edit (relaxing "node" ∷ []) drop [] add [] gives keyed_are "node" 0 "cost" 1 "site" 1)
    ∷ []

-- ---- bytes and limits

-- A request of these bytes; the additions tree and the request pool are those of what is lent.
abbrev asks_for : (deletions additions edits : List ℕ) → (added : Lending) → Ask
asks_for deletions additions edits added =
    request (record {
      deletions = deletions;
      additions = additions;
      added = added.records;
      edits = edits;
      request = added.pool;
    })

abbrev lists_are : (deletions additions : List ℕ) → (added : Lending) → Ask
lists_are deletions additions = asks_for deletions additions []

-- A record named `a`, with id 1, of a kind and so many direct children; and what is told of it, with 4 for one of its bytes.
abbrev one : (kind kids : ℕ) → List ℕ
one kind kids = row24 1 0 1 kind 0 kids 0 0

abbrev with_4 : List ℕ → Reply → ℕ → Example
with_4 records told at = (of lending (set records at 4) (text "a") [] 1 ask find "a") gives told

-- The same bytes again and again.
abbrev times : ℕ → List ℕ → List ℕ
times zero bytes = []
times (suc n) bytes = bytes ++ times n bytes

-- 128 records of a kind that is none, with names of 255 bytes that no pool has, and one whose name has a last length.
abbrev long_names : (last : ℕ) → Lending
long_names last =
    lending (times 128 (row24 1 4_294_967_295 255 9 0 0 0 0) ++ row24 1 4_294_967_295 last 9 0 0 0 0) [] [] 1

abbrev zeros : ℕ → List ℕ
zeros n = replicate n 0

abbrev byte_rules : List Example
byte_rules =
    -- 3: kind, flags, byte 11, children of a primitive, bytes 14 and 15; a type code of a primitive alone; any attribute.
    map (with_4 (one 0 0) (refusal 3 list 0 place 0)) (9 ∷ 10 ∷ 11 ∷ 12 ∷ 13 ∷ 14 ∷ 15 ∷ [])
    ++ map (with_4 (one 0 0) (found (pos 1))) (16 ∷ 17 ∷ 18 ∷ 19 ∷ 20 ∷ 21 ∷ 22 ∷ 23 ∷ [])
    ++ map (with_4 (one 1 0) (refusal 3 list 0 place 0)) (16 ∷ 17 ∷ 18 ∷ 19 ∷ [])
    ++ map (with_4 (one 1 0) (found (pos 1))) (20 ∷ 21 ∷ 22 ∷ 23 ∷ [])
    ++ map (λ r. (of lending r (text "a") [] 1 ask find "a") gives refusal 3 list 0 place 0)
    (one 2 0 ∷ one 2 2 ∷ one 3 1 ∷ one 3 3 ∷ [])
    ++ map (λ r. (of lending r (text "a") [] 1 ask find "a") gives refusal 5 list 0 place 1)
    (one 1 1 ∷ one 2 1 ∷ one 3 2 ∷ [])
    -- An entry's has-path is 0 or 1, of a deletion 1; its last byte is 0; without a path offset and length are 0.
    ++ map (λ e. lists_are (set e 7 4) [] (tree_of empty) gives refusal 3 list 2 place 0) (entry 0 0 1 ∷ entry 0 0 0 ∷ [])
    ++ map (λ e. lists_are [] e (tree_of empty) gives refusal 3 list 3 place 0)
    (set (entry 0 0 1) 7 4 ∷ set (entry 0 0 0) 7 4 ∷ entry 0 0 2 ∷ entry 1 0 0 ∷ entry 0 1 0 ∷ [])
    -- A path's length has two bytes; an offset counts too.
    ++ (lists_are (entry 0 256 1) [] (lending [] (zeros 256) [] 0) gives refusal 11 list 2 place 0)
    ∷ (lists_are (entry 0 257 1) [] (lending [] (zeros 256) [] 0) gives refusal 4 list 2 place 0)
    ∷ (lists_are (entry 257 0 1) [] (lending [] (zeros 256) [] 0) gives refusal 4 list 2 place 0)
    -- 02, 5/13 and 6/13: an edit is 1, 2 or 3, its bytes 7 and 13 to 15 are 0; one that relaxes or widens has no new name.
    ∷ map (λ e. asks_for [] [] e (lending [] (zeros 9) [] 0) gives refusal 3 list 6 place 0)
    (map (λ at. set (edit_entry 1 0 0 0 0) at 4) (6 ∷ 7 ∷ 13 ∷ 14 ∷ 15 ∷ [])
    ++ edit_entry 0 0 0 0 0 ∷ edit_entry 2 0 0 1 0 ∷ edit_entry 2 0 0 0 1 ∷ edit_entry 3 0 0 0 1 ∷ edit_entry 3 0 0 3 1 ∷ [])
    -- Its path and its new name lie in the pool, at any offset, of any length.
    ++ map (λ e. asks_for [] [] e (lending [] (zeros 9) [] 0) gives refusal 4 list 6 place 0)
    (edit_entry 1 9 1 0 0 ∷ edit_entry 1 10 0 0 0 ∷ edit_entry 1 0 256 0 0 ∷ edit_entry 2 0 10 0 0 ∷ edit_entry 3 0 10 3 0
    ∷ edit_entry 1 0 0 9 1 ∷ edit_entry 1 0 0 10 0 ∷ edit_entry 1 0 0 16777216 0 ∷ edit_entry 1 0 0 0 10 ∷ [])
    ++ map (λ e. asks_for [] [] e (lending [] (zeros 9) [] 0) gives refusal 23 list 6 place 0)
    -- A new type code is no offset (203).
    (edit_entry 1 9 0 0 9 ∷ edit_entry 1 0 9 9 0 ∷ edit_entry 2 8 1 0 0 ∷ edit_entry 3 8 1 10 0 ∷ edit_entry 3 0 0 4_294_967_295 0 ∷ [])

-- The limits: what is still let through, and one more.
abbrev pub limits : List Example
limits =
    -- 64 deletions, additions, edits, identifiers; 1,024 selected ids, and as many asked for.
    (lists_are (zeros 512) [] (tree_of empty) gives refusal 3 list 2 place 0)
    ∷ (lists_are (zeros 520) [] (tree_of empty) gives refusal 2 list 0 place 0)
    ∷ (lists_are [] (zeros 512) (tree_of empty) gives refusal 10 list 3 place 0)
    ∷ (lists_are [] (zeros 520) (tree_of empty) gives refusal 2 list 0 place 0)
    ∷ (asks_for [] [] (zeros 1024) (tree_of empty) gives refusal 3 list 6 place 0)
    ∷ (asks_for [] [] (zeros 1040) (tree_of empty) gives refusal 2 list 0 place 0)
    ∷ (of lent empty (zeros 64) 0 ask renumber_from 1 gives refusal 9 list 5 place 0)
    ∷ (of lent empty (zeros 65) 0 ask drop [] add [] gives refusal 2 list 0 place 0)
    ∷ (of tree_of empty ask choose (zeros 1024) gives ids_are [])
    ∷ (of tree_of empty ask choose (zeros 1025) gives refusal 2 list 0 place 0)
    ∷ (of tree_of empty ask find_each (zeros 1024) gives at_slots (replicate 1024 none))
    ∷ (of tree_of empty ask find_each (zeros 1025) gives refusal 2 list 0 place 0)
    -- 32,768 bytes in a pool, and as the sum of the name lengths, whatever else the records hold; 1,024 records.
    ∷ (of lending [] (zeros 32768) [] 0 ask find "a" gives nothing)
    ∷ (of lending [] (zeros 32769) [] 0 ask find "a" gives refusal 2 list 0 place 0)
    ∷ (of long_names 128 ask find "a" gives refusal 3 list 0 place 0)
    ∷ (of long_names 129 ask find "a" gives refusal 2 list 0 place 0)  -- 3
    ∷ (of lending (zeros 24600) [] [] 0 ask find "a" gives refusal 2 list 0 place 0)
    -- No whole number of records, entries, ids; the additions tree's too.
    ∷ (lists_are (zeros 7) [] (tree_of empty) gives refusal 2 list 0 place 0)
    ∷ (lists_are [] (zeros 7) (tree_of empty) gives refusal 2 list 0 place 0)
    ∷ (asks_for [] [] (zeros 15) (tree_of empty) gives refusal 2 list 0 place 0)
    ∷ (lists_are [] [] (longer empty) gives refusal 2 list 0 place 0)
    ∷ []

-- ---- each refusal, once

-- The lists of a request for one addition without a tree.
abbrev no_tree : Lists
no_tree = record { deletions = []; additions = entry 0 0 0; added = []; edits = []; request = [] }

-- An addition that passes, then another.
abbrev and_then : New → List New
and_then a = at_root "floor" ∷ a ∷ []

-- The number of a refusal.
abbrev pub number_told : Reply → ℕ
number_told (tree i) = 0
number_told (updated i last) = 0
number_told (columns_are c) = 0
number_told (visits n) = 0
number_told (found i) = 0
number_told nothing = 0
number_told (at_slots s) = 0
number_told (refusal n list l place p) = n

-- From 1 to the last.
abbrev pub met : List Example
met =
    (of narrow (tree_of empty) ask choose [] gives refusal 1 list 0 place 0)  -- 2
    ∷ (of T_lent (from (λ i. i) 0 65) 10 ask renumber_from 1 gives refusal 2 list 0 place 0)  -- 11
    ∷ (of tree_of (primitive "a" 1 then odd "b" 2) ask find "a" gives refusal 3 list 0 place 1)  -- 10
    ∷ (of lending T_records (text "node") [] 10 ask choose [] gives refusal 4 list 0 place 1)
    ∷ (of cut 9 (chain 10) ask renumber_from 1 gives refusal 5 list 0 place 9)
    ∷ (of tree_of (mapping "m" 1 (required "key" 2 then primitive "worth" 3)) ask choose [] gives refusal 6 list 0 place 2)
    ∷ (of tree_of (primitive "a" 1 then primitive "b" 1) ask renumber_from 1 gives refusal 7 list 0 place 1)
    ∷ (of tree_of (primitive "a" 1 then primitive "a" 2) ask find_number 1 gives refusal 8 list 0 place 1)  -- 9
    ∷ (of lent keyed (2 ∷ 5 ∷ []) 10 ask drop ("node" ∷ []) add [] gives refusal 9 list 5 place 1)  -- 28
    ∷ (request no_tree gives refusal 10 list 3 place 0)
    ∷ (drop ("node" ∷ "floor" ∷ []) add [] gives refusal 11 list 2 place 1)
    ∷ (of lent keyed (5 ∷ []) 10 ask drop ("site" ∷ "node.cost" ∷ []) add [] gives refusal 12 list 2 place 1)
    ∷ (drop [] add and_then (at_root "a.b") gives refusal 13 list 3 place 1)
    ∷ (drop [] add and_then (new (required "a" 0) none) gives refusal 14 list 3 place 1)
    ∷ (drop [] add and_then ("a" under "day") gives refusal 15 list 3 place 1)
    ∷ (drop [] add and_then ("a" under "node.cost") gives refusal 16 list 3 place 1)
    ∷ (drop [] add and_then ("price" under "parts") gives refusal 17 list 3 place 1)
    ∷ (of T_lent [] 2_147_483_646 ask drop [] add and_then (at_root "a") gives refusal 18 list 3 place 1)
    ∷ (of tree_of (chain 16) ask drop [] add (("x" under "a.a.a.a.a.a.a.a.a.a.a.a.a.a.a.a") ∷ [])
    gives refusal 19 list 4 place 0)
    ∷ (choose (3 ∷ []) gives refusal 20 list 0 place 6)
    ∷ (of tree_of (primitive "b" 1 then primitive "A" 2 then primitive "a" 3) ask find_folding "a" gives refusal 21 list 0 place 2)
    ∷ (drop ("visits" ∷ []) add and_then ("fault" under "visits") gives refusal 22 list 3 place 1)
    ∷ (edit (relaxing "node" ∷ "floor" to "a" ∷ []) drop [] add [] gives refusal 23 list 6 place 1)
    ∷ (edit (relaxing "node" ∷ relaxing "parts.key" ∷ []) drop [] add [] gives refusal 24 list 6 place 1)
    ∷ (of in_version 4 (T_lent [] 10) ask drop [] add [] gives refusal 25 list 0 place 0)
    ∷ (edit (relaxing "node" ∷ "node.cost" into 3 ∷ []) drop [] add [] gives refusal 26 list 6 place 1)
    ∷ []

-- ---- the order: what is asked breaks two rules, and the first is told

-- Every entry, of one base: all tell the same.
abbrev each_tells : Lending → Reply → List Example
each_tells given told =
    map (λ q. (of given ask q) gives told)
    ((drop [] add []) ∷ choose [] ∷ renumber_from 1 ∷ find "a" ∷ find_folding "a" ∷ find_number 1 ∷ find_above 1 ∷ find_each [] ∷ [])

-- Of the base: 2 and 3; 3 and 4; 4 and 5; 5 and 6; 6 and 7; 7 and 8. 8 and 21. 1 and 2, where there are buffers.
abbrev base_order : List Example
base_order =
    each_tells (longer (odd "a" 1)) (refusal 2 list 0 place 0)
    ++ each_tells (nameless (primitive "a" 1 then odd "b" 2)) (refusal 3 list 0 place 1)
    ++ each_tells (lending (row24 1 0 1 1 0 1 0 0) [] [] 1) (refusal 4 list 0 place 0)
    ++ each_tells (cut 3 (listing "a" 1 (primitive "x" 2) then struct "b" 3 (primitive "c" 4))) (refusal 5 list 0 place 3)
    ++ each_tells (tree_of (primitive "a" 1 then listing "b" 1 (primitive "x" 2))) (refusal 6 list 0 place 2)
    ++ each_tells (tree_of (primitive "a" 1 then primitive "a" 2 then primitive "b" 1)) (refusal 7 list 0 place 2)
    ++ (of tree_of (primitive "a" 1 then primitive "A" 2 then primitive "a" 3) ask find_folding "a" gives refusal 8 list 0 place 2)
    ∷ map (λ q. (of narrow (longer empty) ask q) gives refusal 1 list 0 place 0)
    ((drop [] add []) ∷ choose [] ∷ renumber_from 1 ∷ find_numbers (zeros 4) 3 ∷ [])

-- No record, and identifiers of 3 bytes.
abbrev three_bytes : Lending
three_bytes =
    record {
      records = [];
      pool = [];
      identifiers = zeros 3;
      last = 0;
      version = 2;
      room_records = 0;
      room_names = 0;
      room_identifiers = 0;
    }

-- Of pruning and renumbering: 8 and 20; 8 and 9; 9 and 18. Identifiers of 3 bytes and room for 2 are 1, not 2.
abbrev own_order : List Example
own_order =
    (of tree_of (listing "a" 1 (primitive "element" 2) then primitive "a" 3) ask choose (1 ∷ [])
    gives refusal 8 list 0 place 2)
    ∷ (of lent (primitive "a" 1 then primitive "a" 2) (99 ∷ []) 10 ask renumber_from 1 gives refusal 8 list 0 place 1)
    ∷ (of T_lent (99 ∷ []) 10 ask renumber_from 2_147_483_638 gives refusal 9 list 5 place 0)
    ∷ (of with_room 24576 32768 2 three_bytes ask renumber_from 1 gives refusal 1 list 0 place 0)  -- 1
    ∷ (of with_room 24576 32768 3 three_bytes ask renumber_from 1 gives refusal 2 list 0 place 0)
    ∷ (of with_room 24576 32767 0 (tree_of empty) ask drop [] add [] gives refusal 1 list 0 place 0)
    -- The same of ids that are asked for; and their 2 comes before 3 of the base.
    ∷ (find_numbers (zeros 3) 2 gives refusal 1 list 0 place 0)
    ∷ (find_numbers (zeros 3) 3 gives refusal 2 list 0 place 0)
    ∷ (find_numbers (zeros 4) 3 gives refusal 1 list 0 place 0)
    ∷ (of tree_of (odd "a" 1) ask find_numbers (zeros 3) 3 gives refusal 2 list 0 place 0)
    ∷ []

-- Of an update's lists: base 6 and additions tree 3; its 3 and 4; 4 and 5; 5 and 6; its 6 and deletions 3; their 3 and 4; their
-- 4 and additions 3; their 3 and 4; their 4 and edits 3; their 3 and 4; their 4 and base 7; base 8 and 9; 9 and 10.
abbrev lists_order : List Example
lists_order =
    (of tree_of (listing "a" 1 (primitive "x" 2)) ask lists_are [] [] (tree_of (odd "b" 0))
    gives refusal 6 list 0 place 1)
    ∷ (lists_are [] [] (nameless (primitive "a" 0 then odd "b" 0)) gives refusal 3 list 1 place 1)
    ∷ (lists_are [] [] (lending (row24 0 0 1 1 0 1 0 0) [] [] 0) gives refusal 4 list 1 place 0)
    ∷ (lists_are [] [] (cut 3 (listing "a" 0 (primitive "x" 0) then struct "b" 0 (primitive "c" 0)))
    gives refusal 5 list 1 place 3)
    ∷ (lists_are (entry 0 0 0) [] (tree_of (listing "a" 0 (primitive "x" 0))) gives refusal 6 list 1 place 1)
    ∷ (lists_are (entry 0 9 1 ++ entry 0 0 0) [] (tree_of empty) gives refusal 3 list 2 place 1)  -- 14
    ∷ (lists_are (entry 0 9 1) (entry 1 0 0) (tree_of empty) gives refusal 4 list 2 place 0)
    ∷ (lists_are [] (entry 0 9 1 ++ entry 1 0 0) (tree_of empty) gives refusal 3 list 3 place 1)  -- 13
    ∷ (asks_for [] (entry 0 9 1) (edit_entry 0 0 0 0 0) (tree_of empty) gives refusal 4 list 3 place 0)
    ∷ (asks_for [] [] (edit_entry 1 0 9 0 0 ++ edit_entry 0 0 0 0 0) (tree_of empty) gives refusal 3 list 6 place 1)
    ∷ (of tree_of (primitive "a" 1 then primitive "b" 1) ask asks_for [] [] (edit_entry 1 0 9 0 0) (tree_of empty)
    gives refusal 4 list 6 place 0)  -- 178
    ∷ (of lent (primitive "a" 1 then primitive "a" 2) (99 ∷ []) 10 ask drop [] add [] gives refusal 8 list 0 place 1)
    ∷ (of T_lent (99 ∷ []) 10 ask request no_tree gives refusal 9 list 5 place 0)
    ∷ []

-- T, where an id passes at the first addition.
abbrev spent : Lending
spent = T_lent [] 2_147_483_647

-- Of what is decided: 10 and 11; 12 of the first deletion and 11 of the next; 11 and 12; 12 and 13; 13 and 14; 14 and 15, 16, 22, 17;
-- 16 and 22; 22 and 17; 15, 16, 22, 17 and 18; 18 of the first addition and 13 of the next; 18 and 23; 13 of the first edit and 23 of
-- the next; 24 and 13; 13 of an edit and 19; 23 and 26; 24 and 26; 26 of the first edit and 23 of the next; 26 and 19; 18 and 19;
-- 19 and 7; 7 and 8; 8 and 9 of the rebuilt tree.
abbrev decided_order : List Example
decided_order =
    (lists_are (entry 0 0 1) (entry 0 0 0) (tree_of empty) gives refusal 10 list 3 place 0)  -- 31
    ∷ (of lent keyed (5 ∷ []) 10 ask drop ("node.cost" ∷ "floor" ∷ []) add [] gives refusal 12 list 2 place 0)  -- 32
    ∷ (of lent keyed (5 ∷ []) 10 ask drop ("floor" ∷ "node.cost" ∷ []) add [] gives refusal 11 list 2 place 0)
    ∷ (of lent keyed (5 ∷ []) 10 ask drop ("node.cost" ∷ []) add (at_root "a.b" ∷ []) gives refusal 12 list 2 place 0)
    ∷ (drop [] add (new (required "a.b" 0) none ∷ []) gives refusal 13 list 3 place 0)
    ∷ (drop [] add (new (required "a" 0) (some "day") ∷ []) gives refusal 14 list 3 place 0)
    ∷ (drop [] add (new (required "a" 0) (some "node.cost") ∷ []) gives refusal 14 list 3 place 0)
    ∷ (drop ("node" ∷ []) add (new (required "a" 0) (some "node") ∷ []) gives refusal 14 list 3 place 0)
    ∷ (drop [] add (new (required "node" 0) none ∷ []) gives refusal 14 list 3 place 0)
    ∷ (drop ("node" ∷ []) add (("a" under "node.cost") ∷ []) gives refusal 16 list 3 place 0)  -- 161
    ∷ (drop ("visits" ∷ []) add (("day" under "visits") ∷ []) gives refusal 22 list 3 place 0)  -- 161
    ∷ (of spent ask drop [] add (("a" under "day") ∷ []) gives refusal 15 list 3 place 0)
    ∷ (of spent ask drop [] add (("a" under "node.cost") ∷ []) gives refusal 16 list 3 place 0)
    ∷ (of spent ask drop ("node" ∷ []) add (("a" under "node") ∷ []) gives refusal 22 list 3 place 0)
    ∷ (of spent ask drop [] add (at_root "node" ∷ []) gives refusal 17 list 3 place 0)
    ∷ (of spent ask drop [] add and_then (at_root "a.b") gives refusal 18 list 3 place 0)
    ∷ (of spent ask edit ("floor" to "a" ∷ []) drop [] add (at_root "x" ∷ []) gives refusal 18 list 3 place 0)
    ∷ (edit ("node" to "a.b" ∷ "floor" to "a" ∷ []) drop [] add [] gives refusal 13 list 6 place 0)
    ∷ (edit ("node" to "a" ∷ "node" to "a.b" ∷ []) drop [] add [] gives refusal 24 list 6 place 1)
    ∷ (edit ("visits.element" to "a.b" ∷ []) drop [] add [] gives refusal 24 list 6 place 0)
    ∷ (of tree_of (chain 16) ask edit ("a" to "a.b" ∷ []) drop [] add (("x" under "a.a.a.a.a.a.a.a.a.a.a.a.a.a.a.a") ∷ [])
    gives refusal 13 list 6 place 0)
    ∷ (edit ("node.cost" into 3 ∷ []) drop ("node" ∷ []) add [] gives refusal 23 list 6 place 0)
    ∷ (of tree_of priced ask edit ("a" into 3 ∷ "a" into 9 ∷ []) drop [] add [] gives refusal 24 list 6 place 1)  -- 201
    ∷ (edit ("node" into 3 ∷ "floor" to "a" ∷ []) drop [] add [] gives refusal 26 list 6 place 0)
    ∷ (of tree_of (chain 16) ask edit ("a" into 3 ∷ []) drop [] add (("x" under "a.a.a.a.a.a.a.a.a.a.a.a.a.a.a.a") ∷ [])
    gives refusal 26 list 6 place 0)
    ∷ (of lent (chain 16) [] 2_147_483_647 ask drop [] add (("x" under "a.a.a.a.a.a.a.a.a.a.a.a.a.a.a.a") ∷ [])
    gives refusal 18 list 3 place 0)
    ∷ (of lent (chain 16) [] 0 ask drop [] add (("x" under "a.a.a.a.a.a.a.a.a.a.a.a.a.a.a.a") ∷ [])
    gives refusal 19 list 4 place 0)
    ∷ (of T_lent [] 9 ask drop ("visits.element" ∷ []) add (("day" under "visits") ∷ []) gives refusal 7 list 4 place 10)
    ∷ (of lent keyed (5 ∷ []) 10 ask drop ("node" ∷ []) add and_then (at_root "floor") gives refusal 8 list 4 place 2)
    ∷ []

abbrev pub pinned : List Example
pinned = names ++ folded_names ++ many_ids ++ updates ++ going ++ visiting ++ identifier_columns ++ edits ++ widenings ++ others ++ byte_rules ++ met ++ base_order ++ own_order ++ lists_order ++ decided_order
