-- What is asked of a tree, T if no other is named: the questions as bytes, and the answers as they are read, in signed ids.
use Rattle.std.specs.Prelude.{ℕ, ◌+◌, ◌-◌, Bool, true, false, cond, List, [], ◌∷◌, ◌++◌, map, ltb, ℤ, pos, negsuc, length}
use Prim.Native.String.{String}
use Rattle.std.proofs.Math.Option.{Option, none, some}
use Rattle.paper.specs.Answer.{Answer, ok, refused}
use Rattle.paper.specs.Forest.{Forest, empty, ◌then◌, preorder, counts}
use Rattle.paper.specs.Field.{Field}
use Rattle.paper.specs.Rows.{Row}
use Rattle.paper.specs.Sound.{text, ids}
use Rattle.paper.specs.Bytes.{turned}
use Rattle.paper.specs.Encode.{bytes16, bytes32, encode_records, record_bytes, pool_bytes}
use Rattle.paper.specs.Lent.{Stored, Lent}
use Rattle.paper.specs.Entries.{Result, update_entry, prune_entry, renumber_entry, find_name, find_folded, find_id, find_parent, find_ids}
use Rattle.paper.specs.Sample.{primitive, T_records, T_pool}

-- ---- what is lent beside a request

-- A tree's bytes, identifiers, the last id, the format version, and the sizes of the output buffers.
pub record Lending : Type 0 where
  pub records : List ℕ
  pub pool : List ℕ
  pub identifiers : List ℕ
  pub last : ℕ
  pub version : ℕ
  pub room_records : ℕ
  pub room_names : ℕ
  pub room_identifiers : ℕ

abbrev pub id_bytes : List ℕ → List ℕ
id_bytes [] = []
id_bytes (id ∷ ids) = bytes32 id (id_bytes ids)

-- With room for any answer, in version 2.
abbrev pub lending : (records pool identifiers : List ℕ) → (last : ℕ) → Lending
lending records pool identifiers last =
    record {
      records = records;
      pool = pool;
      identifiers = id_bytes identifiers;
      last = last;
      version = 2;
      room_records = 24576;
      room_names = 32768;
      room_identifiers = length (id_bytes identifiers);
    }

abbrev pub lent : Forest Field → (identifiers : List ℕ) → (last : ℕ) → Lending
lent forest = lending (record_bytes forest) (pool_bytes forest)

abbrev pub T_lent : (identifiers : List ℕ) → (last : ℕ) → Lending
T_lent = lending T_records T_pool

-- ---- questions

-- An addition: a column, and its parent's path, if it has one. A name alone is an optional primitive.
pub record New : Type 0 where
  pub column : Forest Field
  pub parent : Option String

abbrev pub new : Forest Field → Option String → New
new column parent = record { column = column; parent = parent }

abbrev pub at_root : String → New
at_root name = new (primitive name 0) none

infix 30 ◌under◌
abbrev pub ◌under◌ : String → String → New
name under path = new (primitive name 0) (some path)

-- An edit: a path, and what its column gets: a new name, no longer required, a type code.
infix 70 ◌to◌
infix 70 ◌into◌
pub data Editing : Type 0 where
  ◌to◌ : (path name : String) → Editing
  relaxing : (path : String) → Editing
  ◌into◌ : (path : String) (code : ℕ) → Editing

-- The lists of a request, as bytes.
pub record Lists : Type 0 where
  pub deletions : List ℕ
  pub additions : List ℕ
  pub added : List ℕ
  pub edits : List ℕ
  pub request : List ℕ

infix 20 drop◌add◌
infix 20 edit◌drop◌add◌
infix 20 count_edit◌drop◌add◌
infix 15 of◌ask◌
pub data Ask : Type 0 where
  renumber_from : (start : ℕ) → Ask
  identifiers_from : (start : ℕ) → Ask
  find : String → Ask
  find_folding : String → Ask
  find_number : (id : ℕ) → Ask
  find_above : (id : ℕ) → Ask
  -- Ids as bytes, and room for so many bytes of slots.
  find_numbers : (ids : List ℕ) (room : ℕ) → Ask
  drop◌add◌ : List String → List New → Ask
  edit◌drop◌add◌ : List Editing → List String → List New → Ask
  -- How many records such an update visits.
  count_edit◌drop◌add◌ : List Editing → List String → List New → Ask
  request : Lists → Ask
  choose : List ℕ → Ask
  choose_full : List ℕ → Ask
  -- The same of what is lent.
  of◌ask◌ : Lending → Ask → Ask

abbrev pub find_each : List ℕ → Ask
find_each ids = find_numbers (id_bytes ids) (length (id_bytes ids))

-- ---- answers

-- The signed id of an id of the definitions, which is 2^31 more. `pos n` is n, and `negsuc n` is -(n + 1).
unfoldable pub signed_id : ℕ → ℤ
signed_id id = cond (ltb id 2_147_483_648) (negsuc (2_147_483_647 - id)) (pos (id - 2_147_483_648))

-- A column as an update with edits leaves it: its id, its name, its flags and its type code.
pub record Shown : Type 0 where
  pub id : ℤ
  pub name : List ℕ
  pub flags : ℕ
  pub code : ℕ

abbrev pub shows_coded : (id : ℕ) → String → (flags code : ℕ) → Shown
shows_coded id name flags code = record { id = pos id; name = text name; flags = flags; code = code }

abbrev pub shows : (id : ℕ) → String → (flags : ℕ) → Shown
shows id name flags = shows_coded id name flags 0

-- What is answered: a tree's ids in slot order, and with an update's the last id, or with edits its columns, or how many records it
-- visits; what is found; the slots of many ids; a refusal.
infix 20 refusal◌list◌place◌
pub data Reply : Type 0 where
  tree : (ids : List ℤ) → Reply
  updated : (ids : List ℤ) (last : ℤ) → Reply
  columns_are : List Shown → Reply
  visits : ℕ → Reply
  found : ℤ → Reply
  nothing : Reply
  at_slots : List (Option ℕ) → Reply
  refusal◌list◌place◌ : ℕ → ℕ → ℕ → Reply

abbrev pub ids_are : List ℕ → Reply
ids_are ids = tree (map pos ids)

infix 20 ◌with_last◌
abbrev pub ◌with_last◌ : List ℕ → ℕ → Reply
ids with_last last = updated (map pos ids) (pos last)

-- ---- the bytes of a request: its pool has the deletions' paths, then the parents' paths, then the names of the added columns,
-- then each edit's path with its new name behind it

abbrev texts : List String → List (Option (List ℕ))
texts = map (λ x. some (text x))

abbrev some_text : Option String → Option (List ℕ)
some_text none = none
some_text (some p) = some (text p)

abbrev joined : List (Option (List ℕ)) → List ℕ
joined [] = []
joined (none ∷ ps) = joined ps
joined (some p ∷ ps) = p ++ joined ps

-- An entry: a path's offset and length, and whether it has one.
abbrev pub entry : (at len has : ℕ) → List ℕ
entry at len has = bytes32 at (bytes16 len (has ∷ 0 ∷ []))

-- Path entries whose paths stand in the pool from an offset on.
abbrev path_entries : ℕ → List (Option (List ℕ)) → List ℕ
path_entries at [] = []
path_entries at (none ∷ ps) = entry 0 0 0 ++ path_entries at ps
path_entries at (some p ∷ ps) = entry at (length p) 1 ++ path_entries (at + length p) ps

abbrev columns : List New → Forest Field
columns [] = empty
columns (a ∷ adds) = a.column then columns adds

-- An edit's 16 bytes: what it does, a path's offset and length, a new name's offset (or a type code) and length.
abbrev pub edit_entry : (what at len name_at name_len : ℕ) → List ℕ
edit_entry what at len name_at name_len =
    bytes32 at (bytes16 len (what ∷ 0 ∷ bytes32 name_at (name_len ∷ 0 ∷ 0 ∷ 0 ∷ [])))

-- One whose path stands at an offset, its new name behind it.
abbrev edit_bytes : ℕ → Editing → List ℕ
edit_bytes at (path to name) =
    edit_entry 1 at (length (text path)) (at + length (text path)) (length (text name))
edit_bytes at (relaxing path) = edit_entry 2 at (length (text path)) 0 0
edit_bytes at (path into code) = edit_entry 3 at (length (text path)) code 0

abbrev edit_texts : Editing → List ℕ
edit_texts (path to name) = text path ++ text name
edit_texts (relaxing path) = text path
edit_texts (path into code) = text path

abbrev edit_entries : ℕ → List Editing → List ℕ
edit_entries at [] = []
edit_entries at (e ∷ es) = edit_bytes at e ++ edit_entries (at + length (edit_texts e)) es

abbrev edits_pool : List Editing → List ℕ
edits_pool [] = []
edits_pool (e ∷ es) = edit_texts e ++ edits_pool es

-- The lists of a request, of what it edits, what it drops and what it adds.
abbrev pub lists : List Editing → List String → List New → Lists
lists edits drops adds =
    let paths = texts drops in
    let parents = map (λ a. some_text a.parent) adds in
    let tree = columns adds in
    let at = length (joined paths) in
    let added_at = at + length (joined parents) in
    record {
      deletions = path_entries 0 paths;
      additions = path_entries at parents;
      added = encode_records added_at (preorder tree) (counts tree);
      edits = edit_entries (added_at + length (pool_bytes tree)) edits;
      request = joined paths ++ joined parents ++ pool_bytes tree ++ edits_pool edits;
    }

-- ---- the questions, put to an update or a pruner of the entries' types: T's last id is 10, no identifiers

abbrev pub AnUpdate : Type 0
AnUpdate = Stored → Lent → Answer Result

abbrev pub APruner : Type 0
APruner = (records pool selected : List ℕ) (full : Bool) (room_records room_names : ℕ) → Answer Result

abbrev pub put_update : AnUpdate → Lending → Lists → Answer Result
put_update update given asked =
    update (record { records = given.records; pool = given.pool; last = given.last })
    (record {
      identifiers = given.identifiers;
      version = given.version;
      deletions = asked.deletions;
      additions = asked.additions;
      added_records = asked.added;
      edits = asked.edits;
      request_pool = asked.request;
      room_records = given.room_records;
      room_names = given.room_names;
    })

abbrev pub put_prune : APruner → Lending → List ℕ → Bool → Answer Result
put_prune pruner given selected full =
    pruner given.records given.pool (id_bytes selected) full given.room_records given.room_names

abbrev pub put_renumber : Lending → ℕ → Answer Result
put_renumber given start =
    renumber_entry given.records given.pool given.identifiers start
    given.room_records given.room_names given.room_identifiers

abbrev pub asked_update : AnUpdate → List String → List New → Answer Result
asked_update update drops adds = put_update update (T_lent [] 10) (lists [] drops adds)

abbrev pub asked_prune : APruner → List ℕ → Bool → Answer Result
asked_prune pruner selected full = put_prune pruner (T_lent [] 10) selected full

-- ---- the answers, as they are read

abbrev pub shown : Result → List ℤ
shown result = map signed_id (ids result.tree)

abbrev tree_reply : Answer Result → Reply
tree_reply (ok result) = tree (shown result)
tree_reply (refused n l p) = refusal n list l place p

abbrev identifiers_reply : Answer Result → Reply
identifiers_reply (ok result) = tree (map signed_id result.identifiers)
identifiers_reply (refused n l p) = refusal n list l place p

abbrev pub update_reply : Answer Result → Reply
update_reply (ok result) = updated (shown result) (signed_id (turned result.last))
update_reply (refused n l p) = refusal n list l place p

abbrev shown_column : Field → Shown
shown_column f = record { id = signed_id f.id; name = f.name; flags = f.flags; code = f.code }

abbrev edits_reply : Answer Result → Reply
edits_reply (ok result) = columns_are (map shown_column (preorder result.tree))
edits_reply (refused n l p) = refusal n list l place p

abbrev visits_reply : Answer Result → Reply
visits_reply (ok result) = visits result.visited
visits_reply (refused n l p) = refusal n list l place p

abbrev find_reply : Answer (Option Row) → Reply
find_reply (ok none) = nothing
find_reply (ok (some row)) = found (signed_id row.field.id)
find_reply (refused n l p) = refusal n list l place p

abbrev slot_if : Option Row → Option ℕ
slot_if none = none
slot_if (some row) = some row.slot

abbrev slots_reply : Answer (List (Option Row)) → Reply
slots_reply (ok rows) = at_slots (map slot_if rows)
slots_reply (refused n l p) = refusal n list l place p

unfoldable pub answer_of : Lending → Ask → Reply
answer_of given (renumber_from start) = tree_reply (put_renumber given start)
answer_of given (identifiers_from start) = identifiers_reply (put_renumber given start)
answer_of given (find name) = find_reply (find_name given.records given.pool (text name))
answer_of given (find_folding name) = find_reply (find_folded given.records given.pool (text name))
answer_of given (find_number id) = find_reply (find_id given.records given.pool id)
answer_of given (find_above id) = find_reply (find_parent given.records given.pool id)
answer_of given (find_numbers ids room) = slots_reply (find_ids given.records given.pool ids room)
answer_of given (drop drops add adds) = update_reply (put_update update_entry given (lists [] drops adds))
answer_of given (edit edits drop drops add adds) =
    edits_reply (put_update update_entry given (lists edits drops adds))
answer_of given (count_edit edits drop drops add adds) =
    visits_reply (put_update update_entry given (lists edits drops adds))
answer_of given (request asked) = update_reply (put_update update_entry given asked)
answer_of given (choose selected) = tree_reply (put_prune prune_entry given selected false)
answer_of given (choose_full selected) = tree_reply (put_prune prune_entry given selected true)
answer_of given (of other ask asked) = answer_of other asked

unfoldable pub answer : Ask → Reply
answer = answer_of (T_lent [] 10)
