-- The wrong programs of 01, told from the right ones by P4, two additions, P8 and P9.
use Rattle.std.specs.Prelude.{ℕ, ◌≡◌, false, [], ◌∷◌}
use Rattle.paper.specs.Answer.{Answer, ok, refused}
use Rattle.paper.specs.Entries.{Result, update_entry}
use Rattle.paper.specs.Outcome.{Changed, changed}
use Rattle.paper.specs.Sample.{T}
use Rattle.paper.specs.Asked.{AnUpdate, APruner, asked_update, asked_prune, at_root, ◌under◌}

-- ---- updates

abbrev pub P4 : AnUpdate → Answer Result
P4 update = asked_update update ("node.cost" ∷ []) (("cost" under "node") ∷ [])

-- A deletion and two additions, one under a struct, one at the root. 01's P5 served before 02, 3/13: it is 22 now.
abbrev pub two_added : AnUpdate → Answer Result
two_added update = asked_update update ("visits" ∷ []) (("fault" under "node") ∷ at_root "floor" ∷ [])

-- P4 with its first entry alone, the deletion; the other with the first entry of each list alone.
abbrev pub P4_first : AnUpdate → Answer Result
P4_first update = asked_update update ("node.cost" ∷ []) []

abbrev pub two_added_first : AnUpdate → Answer Result
two_added_first update = asked_update update ("visits" ∷ []) (("fault" under "node") ∷ [])

-- What an accepted answer says.
abbrev pub counted : (records names last_id visited : ℕ) → Changed
counted records names last_id visited =
    record { refusal = 0; list = 0; place = 0; records = records; names = names; last_id = last_id; visited = visited }

-- What an update can't be that answers P4 and the two additions as the paper does.
pub record RightUpdate (update : AnUpdate) : Type 0 where
  pub not_all_down : (n l p : ℕ) → P4 update ≡ refused n l p → ⊥
  pub not_no_op : (result : Result) → P4 update ≡ ok result → result.tree ≡ T → ⊥
  pub not_first_alone : (P4 update ≡ P4_first update_entry → ⊥) × (two_added update ≡ two_added_first update_entry → ⊥)
  -- Record count, name bytes, last id and records visited are these, so no made-up ones.
  pub P4_counts : changed (P4 update) ≡ counted 10 48 11 11
  pub two_added_counts : changed (two_added update) ≡ counted 9 42 12 10

-- ---- pruners

abbrev pub P8 : APruner → Answer Result
P8 pruner = asked_prune pruner (7 ∷ []) false

abbrev pub P9 : APruner → Answer Result
P9 pruner = asked_prune pruner (1 ∷ []) false

-- A pruner that answers P8 and P9 as the paper does hands back no constant tree.
pub record RightPruner (pruner : APruner) : Type 0 where
  pub accepts : (n l p : ℕ) → (P8 pruner ≡ refused n l p → ⊥) × (P9 pruner ≡ refused n l p → ⊥)
  pub not_constant : (result result' : Result) → P8 pruner ≡ ok result → P9 pruner ≡ ok result'
      → result.tree ≡ result'.tree → ⊥
