-- The front of the paper's `update_entry`: from the lengths of the lent buffers to the last entry.
use Rattle.std.specs.Prelude.{ℕ, ◌≡◌}
use Rattle.paper.specs.Answer.{Answer, ok, refused, ◌>>=◌, ◌>>◌}
use Rattle.paper.specs.Refusals.{roomy, limited, versioned}
use Rattle.paper.specs.Forest.{Forest, siblings}
use Rattle.paper.specs.Field.{Field}
use Rattle.paper.specs.Lists.{ok_deletion, ok_addition, path_in, ok_edit, edit_in, entries_ok}
use Rattle.paper.specs.Decode.{decode}
use Rattle.paper.specs.Limits.{room, sized_update}
use Rattle.paper.specs.Promotions.{known_version}
use Rattle.record.specs.Answers.{Check}
use Rattle.record.specs.Says.{refusal_of, checked}
use Rattle.record.specs.Trees.{Trees, Lists, stored_in, lent_in}
use Rattle.update_request.specs.Answers.{Opened}
use Rattle.std.specs.Prelude.{Ok, Err}

-- The two trees that were read.
pub record Forests : Type 0 where
  pub base : Forest Field
  pub added : Forest Field

abbrev pub both_trees : Forest Field → Forest Field → Forests
both_trees base added = record { base = base; added = added }

unfoldable pub trees_read : Trees → Answer Forests
trees_read l = do
  base ← decode 0 l.records l.pool
  added ← decode 1 l.added_records l.request_pool
  ok (both_trees base added)

abbrev pub all_lists : Trees → Lists → Answer (Unit {0})
all_lists l lists = do
  entries_ok 2 8 ok_deletion path_in lists.deletions l.request_pool
  entries_ok 3 8 ok_addition path_in lists.additions l.request_pool
  entries_ok 6 16 ok_edit edit_in l.edits l.request_pool

unfoldable pub listed : Trees → Lists → Check
listed l lists = checked (all_lists l lists)

unfoldable pub readable : Trees → Lists → Answer Forests
readable l lists = do
  base ← decode 0 l.records l.pool
  added ← decode 1 l.added_records l.request_pool
  entries_ok 2 8 ok_deletion path_in lists.deletions l.request_pool
  entries_ok 3 8 ok_addition path_in lists.additions l.request_pool
  entries_ok 6 16 ok_edit edit_in l.edits l.request_pool
  ok (both_trees base added)

unfoldable pub opening : Trees → Lists → (last version room_records room_names : ℕ) → Answer Forests
opening l lists last version room_records room_names = do
  roomy (room room_records room_names)
  limited (sized_update (stored_in l last) (lent_in l lists version room_records room_names))
  versioned (known_version version)
  readable l lists

-- What the code says of it.
unfoldable pub opened : Answer Forests → Opened
opened (ok both) = Ok ((siblings both.base), (siblings both.added))
opened (refused n l p) = Err (refusal_of n l p)

-- Whatever the last id is.
pub record Opens (l : Trees) (lists : Lists) (version room_records room_names : ℕ) (r : Opened) : Type 0 where
  pub says : (last : ℕ) → r ≡ opened (opening l lists last version room_records room_names)
