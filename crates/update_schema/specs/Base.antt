-- What was tested before anything is decided: the base as a plan of itself, and a list of entries.
use Rattle.std.specs.Prelude.{ℕ, ◌+◌, ◌*◌, ◌<◌, ◌≤◌, ◌≡◌, List, true, length}
use Rattle.std.proofs.Math.Option.{none}
use Rattle.paper.specs.Answer.{ok, lowest}
use Rattle.paper.specs.Bytes.{kids_at, ok_bytes, in_pool}
use Rattle.paper.specs.Decode.{fields}
use Rattle.paper.specs.Layout.{Part, roots}
use Rattle.paper.specs.Lists.{path_in}
use Rattle.paper.specs.Sound.{ids}
use Rattle.laws.proofs.Basics.{Distinct}
use Rattle.record.specs.Trees.{Trees}
use Rattle.record_entries.specs.declared.PathList.{PathList}
use Rattle.record_entries.specs.Rule.{width_of, inside_of}
use Rattle.plan.specs.Plan.{plan_fields, Plan}
use Rattle.plan.specs.Table.{sources, numbers, members}
use Rattle.plan.specs.declared.PlanRows.{PlanRows}

-- The n records of the base, with their trees, are the plan, and no id of it stands twice.
pub record Based (l : Trees) (xs is ks : List ℕ) (n : ℕ) : Type 0 where
  pub plan : Plan l xs is ks n
  pub trees : Part
  pub read : roots 0 (kids_at l.records) n n 0 ≡ ok trees
  pub tree : plan_fields l xs is ks n ≡ fields l.pool l.records trees.trees
  pub whole : n * 24 ≤ length l.records
  pub bytes : lowest (ok_bytes l.records) 0 n ≡ none
  pub named : lowest (in_pool (length l.pool) l.records) 0 n ≡ none
  pub own : Distinct (ids (plan_fields l xs is ks n))

-- So many entries of a list, and what they point to is in the request pool.
pub record Entries (list : PathList) (request entries : List ℕ) (total : ℕ) : Type 0 where
  pub whole : total * width_of list ≤ length entries
  pub few : total ≤ 64
  pub pathed : lowest (inside_of list (length request) entries) 0 total ≡ none

-- The addition k, with its path in the request pool, and its column at a slot of the additions tree.
pub record Addition (request added additions : List ℕ) (k slot : ℕ) : Type 0 where
  pub few : k < 64
  pub entry : k * 8 + 8 ≤ length additions
  pub pathed : path_in (length request) additions k ≡ true
  pub column : slot * 24 + 24 ≤ length added
  pub named : in_pool (length request) added slot ≡ true

-- The same of the tables.
abbrev pub BasedIn : Trees → (plan : PlanRows) (n : ℕ) → Type 0
BasedIn l plan n = Based l (sources plan) (numbers plan) (members plan) n

abbrev pub AdditionIn : Trees → (additions : List ℕ) (k slot : ℕ) → Type 0
AdditionIn l additions k slot = Addition l.request_pool l.added_records additions k slot
