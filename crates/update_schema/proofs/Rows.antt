-- A store in one row of what was decided leaves the others.
use Prim.Native.Nat.{ℕ}
use mathlib.Core.Path.{◌≡◌, ◌∙◌}
use mathlib.Core.List.{List}
use lib.ListN.{set, length-set}
use Rattle.update_rebuild.specs.Planned.{drops_in, unders_in, firsts_in, starts_in, DecisionsRoom}
use Rattle.update_rebuild.specs.Answers.{Under}
use Rattle.update_rebuild.specs.declared.Decisions.{Decisions}

-- ---- an id is stored

pub drops_stored : (d : Decisions) (k v : ℕ) → DecisionsRoom d → DecisionsRoom (record { drops = set d.drops k v; unders = d.unders; firsts = d.firsts; starts = d.starts })
drops_stored d k v r = record { drops_room = length-set d.drops k v ∙ r.drops_room; unders_room = r.unders_room; firsts_room = r.firsts_room; starts_room = r.starts_room }

-- ---- a place is stored

-- What holds of the rows of the additions, where the row of the dropped ids is as it was.
pub record Held (P : (unders : List Under) (firsts starts : List ℕ) → Type 0) (old d : Decisions) : Type 0 where
  pub holds : P (unders_in d) (firsts_in d) (starts_in d)
  pub room : DecisionsRoom d
  pub same_drops : drops_in d ≡ drops_in old

pub place_stored : (P : (unders : List Under) (firsts starts : List ℕ) → Type 0) (old d : Decisions) (k : ℕ) (u : Under) (f a : ℕ) → DecisionsRoom d → drops_in d ≡ drops_in old → P (set (unders_in d) k u) (set (firsts_in d) k f) (set (starts_in d) k a) → Held P old (record { drops = d.drops; unders = set d.unders k u; firsts = set d.firsts k f; starts = set d.starts k a })
place_stored P old d k u f a r q p =
    record {
      holds = p;
      room = record { drops_room = r.drops_room; unders_room = length-set (unders_in d) k u ∙ r.unders_room; firsts_room = length-set (firsts_in d) k f ∙ r.firsts_room; starts_room = length-set (starts_in d) k a ∙ r.starts_room };
      same_drops = q;
    }
