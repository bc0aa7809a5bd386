-- What the lent slices hold: the two trees of an update, each with its pool, and the edits; and the lists of its request.
use Rattle.std.specs.Prelude.{ℕ, List, []}
use Rattle.record.specs.declared.Trees.{Trees as LentTrees}
use Rattle.record.specs.declared.Lists.{Lists as LentLists}
use Rattle.paper.specs.Lent.{Stored, Lent}

pub record Trees : Type 0 where
  pub records : List ℕ
  pub pool : List ℕ
  pub added_records : List ℕ
  pub request_pool : List ℕ
  pub edits : List ℕ

pub record Lists : Type 0 where
  pub identifiers : List ℕ
  pub deletions : List ℕ
  pub additions : List ℕ

abbrev pub trees_in : LentTrees → Trees
trees_in lent =
    record {
      records = lent.records.now;
      pool = lent.pool.now;
      added_records = lent.added_records.now;
      request_pool = lent.request_pool.now;
      edits = lent.edits.now;
    }

abbrev pub lists_in : LentLists → Lists
lists_in lent =
    record {
      identifiers = lent.identifiers.now;
      deletions = lent.deletions.now;
      additions = lent.additions.now;
    }

abbrev pub lent_trees : (records pool added_records request_pool edits : List ℕ) → Trees
lent_trees records pool added_records request_pool edits =
    record {
      records = records;
      pool = pool;
      added_records = added_records;
      request_pool = request_pool;
      edits = edits;
    }

-- One tree, lent as both, with no edits.
abbrev pub alone : (records pool : List ℕ) → Trees
alone records pool = lent_trees records pool records pool []

-- The same as the paper has them.
abbrev pub stored_in : Trees → (last : ℕ) → Stored
stored_in trees last = record { records = trees.records; pool = trees.pool; last = last }

abbrev pub lent_in : Trees → Lists → (version room_records room_names : ℕ) → Lent
lent_in trees lists version room_records room_names =
    record {
      identifiers = lists.identifiers;
      version = version;
      deletions = lists.deletions;
      additions = lists.additions;
      added_records = trees.added_records;
      edits = trees.edits;
      request_pool = trees.request_pool;
      room_records = room_records;
      room_names = room_names;
    }
