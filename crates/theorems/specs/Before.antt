-- The update as it was before 02, 5/13, in its own words. What it calls is as it was; but `dotless` took no list, and
-- gave 3, and `entries_ok` asked `path_in` of entries of 8 bytes. Its answer told no number of records visited, which
-- came with 02, 7/13.
use Rattle.std.specs.Prelude.{ℕ, Bool, true, ◌&&◌, List, [], eqb, length}
use Rattle.std.proofs.Math.Option.{Option, none}
use Rattle.paper.specs.Answer.{Answer, ok, refused, ◌>>=◌, ◌>>◌}
use Rattle.paper.specs.Refusals.{roomy, limited, matched, rebuilt_within}
use Rattle.paper.specs.Forest.{Forest, siblings}
use Rattle.paper.specs.Field.{Field, id_of, kind_of, with_id}
use Rattle.paper.specs.Sound.{sound, within}
use Rattle.paper.specs.Update.{Schema, deleted, placed_all}
use Rattle.paper.specs.Update as Update
use Rattle.paper.specs.Rebuild.{Addition, arrivals, rebuilt}
use Rattle.paper.specs.Bytes.{turned}
use Rattle.paper.specs.Lists.{ok_deletion, ok_addition, path_in, entries_ok, deletion_paths, addition_paths, id_list}
use Rattle.paper.specs.Decode.{decode}
use Rattle.paper.specs.Limits.{room, whole, sized, sized_ids}
use Rattle.paper.specs.Lent.{Stored}
use Rattle.paper.specs.Lent as Today
use Rattle.paper.specs.Entries.{schema_in}
use Rattle.paper.specs.Entries as Entries

-- ---- over forests

pub record Request : Type 0 where
  pub identifiers : List ℕ
  pub deletions : List (List ℕ)
  pub additions : List (Option (List ℕ))
  pub added : Forest Field

pub record Plan : Type 0 where
  pub dropped : List ℕ
  pub parents : List (Option ℕ)
  pub last : ℕ

unfoldable pub planned : Schema → Request → Answer Plan
planned schema request = do
  sound 0 schema.tree request.identifiers
  matched (eqb (siblings request.added) (length request.additions))
  dropped ← deleted schema.tree request.identifiers 0 request.deletions
  placed ← placed_all schema.tree dropped schema.last 0 request.additions request.added
  ok (record { dropped = dropped; parents = placed.parents; last = placed.last })

abbrev pub added : Schema → Request → Plan → List (Addition Field)
added schema request plan = arrivals with_id schema.last plan.parents request.added

unfoldable pub carried_out : Schema → Request → Plan → Answer Schema
carried_out schema request plan = do
  let tree = rebuilt id_of kind_of plan.dropped (added schema request plan) none true schema.tree
  rebuilt_within (within tree)
  sound 4 tree request.identifiers
  ok (record { tree = tree; last = plan.last })

unfoldable pub update : Schema → Request → Answer Schema
update schema request = planned schema request >>= carried_out schema request

-- ---- over bytes

pub record Lent : Type 0 where
  pub identifiers : List ℕ
  pub deletions : List ℕ
  pub additions : List ℕ
  pub added_records : List ℕ
  pub request_pool : List ℕ
  pub room_records : ℕ
  pub room_names : ℕ

unfoldable pub sized_update : Stored → Lent → Bool
sized_update stored lent =
    sized_ids 64 stored.records stored.pool lent.identifiers
    && ((whole 8 64 lent.deletions && whole 8 64 lent.additions)
    && sized lent.added_records lent.request_pool)

abbrev pub request_in : Lent → Forest Field → Request
request_in lent added =
    record {
      identifiers = id_list lent.identifiers;
      deletions = deletion_paths lent.request_pool lent.deletions;
      additions = addition_paths lent.request_pool lent.additions;
      added = added;
    }

pub record Result : Type 0 where
  pub tree : Forest Field
  pub identifiers : List ℕ
  pub last : ℕ

unfoldable pub update_entry : Stored → Lent → Answer Result
update_entry stored lent = do
  roomy (room lent.room_records lent.room_names)
  limited (sized_update stored lent)
  tree ← decode 0 stored.records stored.pool
  added ← decode 1 lent.added_records lent.request_pool
  entries_ok 2 8 ok_deletion path_in lent.deletions lent.request_pool
  entries_ok 3 8 ok_addition path_in lent.additions lent.request_pool
  updated ← update (schema_in stored tree) (request_in lent added)
  ok (record { tree = updated.tree; identifiers = []; last = turned updated.last })

-- ---- what is asked today, but for the edits

abbrev pub request_before : Update.Request → Request
request_before request =
    record {
      identifiers = request.identifiers;
      deletions = request.deletions;
      additions = request.additions;
      added = request.added;
    }

abbrev pub lent_before : Today.Lent → Lent
lent_before lent =
    record {
      identifiers = lent.identifiers;
      deletions = lent.deletions;
      additions = lent.additions;
      added_records = lent.added_records;
      request_pool = lent.request_pool;
      room_records = lent.room_records;
      room_names = lent.room_names;
    }

-- ---- what is answered today, but for its number of records visited

abbrev pub result_before : Answer Entries.Result → Answer Result
result_before (ok result) = ok (record { tree = result.tree; identifiers = result.identifiers; last = result.last })
result_before (refused n l p) = refused n l p
