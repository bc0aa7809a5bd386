-- What 2 asks of all that an update is lent, whatever version it names and whatever room its buffers have.
use Rattle.std.specs.Prelude.{ℕ, ◌≡◌, Bool}
use Rattle.paper.specs.Limits.{sized_update}
use Rattle.record.specs.Trees.{Trees, Lists, stored_in, lent_in}

pub record SizedUpdate (trees : Trees) (lists : Lists) (r : Bool) : Type 0 where
  pub says : (last version room_records room_names : ℕ)
      → r ≡ sized_update (stored_in trees last) (lent_in trees lists version room_records room_names)
