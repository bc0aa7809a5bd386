-- 02, 4/13: what is answered is accepted again with its own identifiers: those that an update was lent, those that a
-- renumbering answered. Over bytes: what was answered can be lent again.
use Rattle.std.specs.Prelude.{ℕ, ◌<◌, ◌≡◌, true, List, [], length, take}
use Rattle.paper.specs.Answer.{ok}
use Rattle.paper.specs.Forest.{Forest, size}
use Rattle.paper.specs.Field.{Field}
use Rattle.paper.specs.Sound.{sound}
use Rattle.paper.specs.Promotions.{known_version}
use Rattle.paper.specs.Lists.{id_list}
use Rattle.paper.specs.Limits.{room}
use Rattle.paper.specs.Lent.{Lent}
use Rattle.paper.specs.Entries.{Result, update_entry}
use Rattle.paper.specs.Outcome.{leaves, out_identifiers}
use Rattle.theorems.specs.Stored.{bytes_of}

-- A request that asks for nothing.
abbrev pub nothing_with : (identifiers : List ℕ) (version room_records room_names : ℕ) → Lent
nothing_with identifiers version room_records room_names =
    record {
      identifiers = identifiers;
      version = version;
      deletions = [];
      additions = [];
      added_records = [];
      edits = [];
      request_pool = [];
      room_records = room_records;
      room_names = room_names;
    }

-- Of an answer's tree, and of bytes of identifiers.
pub record PassesAgain (tree : Forest Field) (identifiers : List ℕ) : Type 0 where
  -- 7 to 9 accept the tree with them.
  pub accepted : sound 0 tree (id_list identifiers) ≡ ok tt
  -- So does an update, from 1 on, that is lent the bytes of both, names a known version and asks for nothing. It answers that
  -- tree, and the last id that it was given, and visits every record.
  pub lent_again : (last version room_records room_names : ℕ) → last < 4294967296 → known_version version ≡ true
      → room room_records room_names ≡ true
      → update_entry (bytes_of tree last) (nothing_with identifiers version room_records room_names)
      ≡ ok (record { tree = tree; identifiers = []; last = last; visited = size tree })

-- Of what an accepted renumbering answers to so many bytes of identifiers.
pub record IdentifiersAgain (identifiers : List ℕ) (result : Result) : Type 0 where
  -- Its bytes of identifiers are read as the identifiers that it answers,
  pub reads : id_list (out_identifiers result) ≡ result.identifiers
  -- and stand at the front of its buffer, as many as were lent.
  pub in_buffer : (old : List ℕ) → take (length identifiers) (leaves out_identifiers (ok result) old) ≡ out_identifiers result
  -- With them its tree passes again.
  pub passes : PassesAgain result.tree (out_identifiers result)
