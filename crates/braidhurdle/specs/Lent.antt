-- What an update's C function is lent, in the order of its parameters.
use Rattle.std.specs.Prelude.{ℕ, List}
use Rattle.paper.specs.Lent.{Stored, Lent}

abbrev pub stored : (records pool : List ℕ) (last : ℕ) → Stored
stored records pool last = record { records = records; pool = pool; last = last }

abbrev pub lent : (identifiers : List ℕ) (version : ℕ) (deletions additions added_records edits request_pool : List ℕ)
    (room_records room_names : ℕ) → Lent
lent identifiers version deletions additions added_records edits request_pool room_records room_names =
    record {
      identifiers = identifiers;
      version = version;
      deletions = deletions;
      additions = additions;
      added_records = added_records;
      edits = edits;
      request_pool = request_pool;
      room_records = room_records;
      room_names = room_names;
    }
