-- What the two walks of pruning leave.
use Rattle.std.specs.Prelude.{ℕ, ◌+◌, ◌-◌, ◌*◌, ◌≤◌, ◌<◌, ◌≡◌, Bool, List, eqb, length, get_or}
use Rattle.paper.specs.declared.Role.{Role}
use Rattle.paper.specs.Forest.{Forest, empty, node, size, siblings, mapped}
use Rattle.paper.specs.Field.{first}
use Rattle.paper.specs.Bytes.{kind_at, kids_at, slots}
use Rattle.paper.specs.declared.Role.TheVariants.{Member}
use Rattle.tree.specs.Answers.{Walked}
use Rattle.tree_walk.specs.There.{row_of, There}
use Rattle.tree.specs.Says.{walked_to}
use Rattle.plan.specs.Sources.{id_bits, own_source}
use Rattle.plan.specs.Table.{planned_at, LaidIn, CopiedIn}
use Rattle.prune_columns.specs.declared.Step.{Step}
use Rattle.prune_columns.specs.Split.{first_direct, projected}
use Rattle.plan.specs.declared.PlanRows.{PlanRows}

-- Which slots are chosen, by an array of marks.
unfoldable pub marked : List ℕ → ℕ → Bool
marked marks k = eqb (get_or marks k 0) 1

-- The first walk: refusal 20, or the slot after the trees.
pub record Checked (records marks : List ℕ) (full : Bool) (lv c k : ℕ) (r : Role) (w : Walked) : Type 0 where
  pub says : w ≡ walked_to 20 0 (row_of records lv c k).next (first_direct (marked marks) (kind_at records) full r k (row_of records lv c k).trees)

-- The second walk: the trees t are planned from place i on, and no other place has changed; the next slot is `past`.
pub record Planned (records : List ℕ) (t : Forest ℕ) (past : ℕ) (plan : PlanRows) (i : ℕ) (r : Step) (plan' : PlanRows) : Type 0 where
  pub next : r.next ≡ past
  pub at : r.at ≡ i + size t
  pub count : r.count ≡ siblings t
  pub room : r.at ≤ r.next
  pub laid : LaidIn (mapped (own_source records) t) i plan plan'

-- Trees that stand there; places up to i are planned.
pub record Row (records : List ℕ) (lv c k i : ℕ) : Type 0 where
  pub there : There records lv c k
  pub room : i ≤ k

-- What is kept of c siblings from slot k on, of which the first has a role.
abbrev pub Kept : (records marks : List ℕ) (full : Bool) (r : Role) (lv c k : ℕ) (plan : PlanRows) (i : ℕ) (x : Step) (plan' : PlanRows) → Type 0
Kept records marks full r lv c k = Planned records (projected (marked marks) (kind_at records) full r (row_of records lv c k).trees) (row_of records lv c k).next

-- The record at slot k with its inside, which has lv levels left; places up to i are planned.
pub record Spot (records : List ℕ) (lv k i : ℕ) : Type 0 where
  pub record_in : k < slots records
  pub inside : There records lv (kids_at records k) (k + 1)
  pub room : i ≤ k

-- The same, with the record's own place passed.
pub record Behind (records : List ℕ) (lv k i : ℕ) : Type 0 where
  pub record_in : k < slots records
  pub inside : There records lv (kids_at records k) (k + 1)
  pub room : i ≤ k + 1

abbrev pub tree_at : List ℕ → (lv k : ℕ) → Forest ℕ
tree_at records lv k = node k (row_of records lv (kids_at records k) (k + 1)).trees empty

abbrev pub KeptWhole : (records : List ℕ) (lv k : ℕ) (plan : PlanRows) (i : ℕ) (x : Step) (plan' : PlanRows) → Type 0
KeptWhole records lv k = Planned records (tree_at records lv k) (row_of records lv (kids_at records k) (k + 1)).next

-- The record with what its type yields, and what its type yields.
abbrev pub yield_at : (records marks : List ℕ) (full : Bool) (lv k : ℕ) → Forest ℕ
yield_at records marks full lv k = projected (marked marks) (kind_at records) full (first (kind_at records k)) (row_of records lv (kids_at records k) (k + 1)).trees

abbrev pub KeptYield : (records marks : List ℕ) (full : Bool) (lv k : ℕ) (plan : PlanRows) (i : ℕ) (x : Step) (plan' : PlanRows) → Type 0
KeptYield records marks full lv k = Planned records (node k (yield_at records marks full lv k) empty) (row_of records lv (kids_at records k) (k + 1)).next

abbrev pub KeptInside : (records marks : List ℕ) (full : Bool) (lv k : ℕ) (plan : PlanRows) (i : ℕ) (x : Step) (plan' : PlanRows) → Type 0
KeptInside records marks full lv k = Planned records (yield_at records marks full lv k) (row_of records lv (kids_at records k) (k + 1)).next

-- What is kept of a record that is no key.
abbrev pub KeptOne : (records marks : List ℕ) (full : Bool) (lv k : ℕ) (plan : PlanRows) (i : ℕ) (x : Step) (plan' : PlanRows) → Type 0
KeptOne records marks full lv k = Planned records (projected (marked marks) (kind_at records) full Member (tree_at records lv k)) (row_of records lv (kids_at records k) (k + 1)).next

-- The records from slot a to slot e may be planned from place i on.
pub record Span (records : List ℕ) (a e i : ℕ) : Type 0 where
  pub ordered : a ≤ e
  pub bytes : e * 24 ≤ length records
  pub few : e ≤ 1024
  pub room : i ≤ a

-- The records from slot a to slot e, which are c trees, are planned as they stand, from place i on.
pub record Copied (records : List ℕ) (a e c : ℕ) (plan : PlanRows) (i : ℕ) (r : Step) (plan' : PlanRows) : Type 0 where
  pub step : r ≡ record { next = e; at = i + (e - a); count = c }
  pub copied : CopiedIn records a (e - a) plan i plan'

-- The record at slot k is planned at place i, with the members that stand behind it.
pub record Stored (records : List ℕ) (k : ℕ) (inside : Step) (plan : PlanRows) (i : ℕ) (r : Step) (plan' : PlanRows) : Type 0 where
  pub step : r ≡ record { next = inside.next; at = inside.at; count = 1 }
  pub planned : plan' ≡ planned_at plan i k (id_bits records k) inside.count
