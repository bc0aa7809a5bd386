-- What the planner's functions ask and what they leave.
use Rattle.std.specs.Prelude.{ℕ, ◌+◌, ◌-◌, ◌*◌, ◌≤◌, ◌<◌, ◌≡◌, Bool, true, ◌&&◌, cond, List, leb, length, get_or, replicate}
use Rattle.std.proofs.Math.Option.{Option}
use Rattle.std.proofs.lemmas.List.Edits.{sets}
use Rattle.paper.specs.Forest.{Forest, empty, size, siblings, levels}
use Rattle.paper.specs.Field.{is_struct}
use Rattle.paper.specs.Bytes.{turned, rec_at, kind_at, kids_at, from}
use Rattle.paper.specs.Layout.{roots}
use Rattle.paper.specs.Rebuild.{Addition, arriving}
use Rattle.tree.specs.Read.{part, reads}
use Rattle.tree.specs.Says.{rooted}
use Rattle.std.specs.Prelude.{Ok, Some, None}
use Rattle.plan.specs.Plan.{Source}
use Rattle.plan.specs.Table.{sources, numbers, members, LaidIn}
use Rattle.update_rebuild.specs.declared.Given.{Given}
use Rattle.update_rebuild.specs.declared.Place.{Place}
use Rattle.update_rebuild.specs.Answers.{Step, Under}
use Rattle.update_rebuild.specs.declared.Head.{Head}
use Rattle.update_rebuild.specs.Sources.{additions, rebuilt_row, rebuilt_one, passed}
use Rattle.plan.specs.declared.PlanRows.{PlanRows}
use Rattle.update_rebuild.specs.declared.Decisions.{Decisions}

-- ---- what is asked

-- where additions go is told by 32 bits
abbrev pub Word : Under → Type 0
Word u = (x : ℕ) → u ≡ Some x → x < 4294967296

-- n records of which a row of c trees from slot k on was read
pub record Readable (records : List ℕ) (n lv c k : ℕ) : Type 0 where
  pub whole : n * 24 ≤ length records
  pub small : n ≤ 1024
  pub within : k ≤ n
  pub levels : lv ≤ 16
  pub read : reads 0 (kids_at records) n lv c k ≡ true

-- a record at slot k with a level left for it, whose inside was read
pub record Inside (records : List ℕ) (n lv k : ℕ) : Type 0 where
  pub there : k < n
  pub low : 0 < lv
  pub most : lv ≤ 16
  pub inside : Readable records n (lv - 1) (kids_at records k) (k + 1)

-- the additions: each of `total` has a parent, and its tree in the n added records
pub record Resolved (added : List ℕ) (n : ℕ) (unders : List Under) (firsts : List ℕ) (total : ℕ) : Type 0 where
  pub whole : n * 24 ≤ length added
  pub small : n ≤ 1024
  pub few : total ≤ 64
  pub under : (j : ℕ) → j < total → Word (get_or unders j None)
  pub first : (j : ℕ) → j < total → get_or firsts j 0 ≤ n
  pub tree : (j : ℕ) → j < total → reads 1 (kids_at added) n 16 1 (get_or firsts j 0) ≡ true

-- The rows of what was decided.
abbrev pub drops_in : Decisions → List ℕ
drops_in decisions = decisions.drops

abbrev pub unders_in : Decisions → List Under
unders_in decisions = decisions.unders

abbrev pub firsts_in : Decisions → List ℕ
firsts_in decisions = decisions.firsts

abbrev pub starts_in : Decisions → List ℕ
starts_in decisions = decisions.starts

-- Four rows of 64 numbers.
pub record DecisionsRoom (decisions : Decisions) : Type 0 where
  pub drops_room : length (drops_in decisions) ≡ 64
  pub unders_room : length (unders_in decisions) ≡ 64
  pub firsts_room : length (firsts_in decisions) ≡ 64
  pub starts_room : length (starts_in decisions) ≡ 64

-- Nothing is decided: rows of zeros, and root lists.
unfoldable pub nothing_decided : Decisions
nothing_decided =
    record {
      drops = replicate 64 0;
      unders = replicate 64 None;
      firsts = replicate 64 0;
      starts = replicate 64 0;
    }

abbrev pub ResolvedIn : (added : List ℕ) (given : Given) (decisions : Decisions) → Type 0
ResolvedIn added given decisions =
    Resolved added given.added (unders_in decisions) (firsts_in decisions) given.additions

abbrev pub additions_in : (added : List ℕ) (given : Given) (decisions : Decisions) → List (Addition Source)
additions_in added given decisions =
    additions added given.added (unders_in decisions) (firsts_in decisions) (starts_in decisions) given.additions

-- n records that were read, with c roots
pub record Based (records : List ℕ) (n c : ℕ) : Type 0 where
  pub whole : n * 24 ≤ length records
  pub small : n ≤ 1024
  pub rooted : Ok c ≡ rooted 0 (roots 0 (kids_at records) n n 0)

-- ---- what is left

-- t was planned from i on after c siblings and v records visited, with lv levels left for it, and d dropped members were passed
pub record Whole (t : Forest Source) (d past lv i c v : ℕ) (plan : PlanRows) (w : Place) (plan' : PlanRows) : Type 0 where
  pub next : w.next ≡ past
  pub at : w.at ≡ i + size t
  pub count : w.count ≡ c + siblings t
  pub visited : w.visited ≡ v + (size t + d)
  pub low : levels t ≤ lv
  pub room : w.at ≤ 1024
  pub laid : LaidIn t i plan plan'

-- Record 1,025 or a level too many would be planned.
pub record Over (t : Forest Source) (lv i : ℕ) : Type 0 where
  pub over : levels t ≤ lv → i + size t ≤ 1024 → ⊥

abbrev pub PlannedBy : Step → (t : Forest Source) (d past lv i c v : ℕ) (plan plan' : PlanRows) → Type 0
PlannedBy (Some w) t d past lv i c v plan plan' = Whole t d past lv i c v plan w plan'
PlannedBy None t d past lv i c v plan plan' = Over t lv i

pub record Planned (t : Forest Source) (d past lv i c v : ℕ) (plan : PlanRows) (r : Step) (plan' : PlanRows) : Type 0 where
  pub by : PlannedBy r t d past lv i c v plan plan'

-- The n added records from slot k on stand in the plan from place i on, with ids from `id` on, and the rest is as it was.
pub record AddedIn (kids : ℕ → ℕ) (k n id : ℕ) (plan : PlanRows) (i : ℕ) (plan' : PlanRows) : Type 0 where
  pub sources_set : sources plan' ≡ sets (sources plan) i (from (λ j. 1024 + j) k n)
  pub numbers_set : numbers plan' ≡ sets (numbers plan) i (from (λ j. turned (id + (j - k))) k n)
  pub members_set : members plan' ≡ sets (members plan) i (from kids k n)

pub record HeadOf (records : List ℕ) (k : ℕ) (h : Head) : Type 0 where
  pub id : h.id ≡ (rec_at records k).id
  pub members : h.members ≡ kids_at records k
  pub opens : h.under.opens ≡ is_struct (kind_at records k)
  pub under : h.under.q ≡ Some (rec_at records k).id
  pub word : Word h.under.q

-- A walk stands at w: all four of its numbers are these.
pub record StandsAt (next at count visited : ℕ) (w : Place) : Type 0 where
  pub is : w ≡ record { next = next; at = at; count = count; visited = visited }

-- The end of a row: additions follow the members of the root list or of a struct.
unfoldable pub closing : List (Addition Source) → Option ℕ → (open? : Bool) → Forest Source
closing adds q open? = cond open? (arriving adds q) empty

abbrev pub RowPlanned : (records dropped : List ℕ) (adds : List (Addition Source)) (n lv c k : ℕ) (q : Option ℕ) (open? : Bool) (plan : PlanRows) (i : ℕ) (r : Step) (plan' : PlanRows) → Type 0
RowPlanned records dropped adds n lv c k q open? plan i r plan' =
    Planned (rebuilt_row records dropped adds q open? (part 0 (kids_at records) n lv c k).trees)
    (passed records dropped open? (part 0 (kids_at records) n lv c k).trees) (part 0 (kids_at records) n lv c k).next lv i 0 0 plan r plan'

abbrev pub OnePlanned : (records dropped : List ℕ) (adds : List (Addition Source)) (n lv k : ℕ) (plan : PlanRows) (i c v : ℕ) (r : Step) (plan' : PlanRows) → Type 0
OnePlanned records dropped adds n lv k plan i c v r plan' =
    Planned (rebuilt_one records dropped adds n lv k)
    (passed records dropped (is_struct (kind_at records k)) (part 0 (kids_at records) n (lv - 1) (kids_at records k) (k + 1)).trees)
    (part 0 (kids_at records) n (lv - 1) (kids_at records k) (k + 1)).next lv i c v plan r plan'

-- ---- the whole

-- The limits on records and levels.
unfoldable pub fits : Forest Source → Bool
fits t = leb (size t) 1024 && leb (levels t) 16

unfoldable pub verdict : (n d : ℕ) → Forest Source → Step
verdict n d t = cond (fits t) (Some (record { next = n; at = size t; count = siblings t; visited = size t + d })) None

-- t is the plan of n records, of which d dropped members were passed.
pub record Rebuilds (t : Forest Source) (d n : ℕ) (plan : PlanRows) (r : Step) (plan' : PlanRows) : Type 0 where
  pub answer : r ≡ verdict n d t
  pub laid : fits t ≡ true → LaidIn t 0 plan plan'
