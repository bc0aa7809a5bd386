-- One addition: its column in the additions tree, its ids, and the paper's step.
use Rattle.std.specs.Prelude.{ℕ, suc, ◌+◌, ◌*◌, ◌<◌, ◌≤◌, ◌≡◌, true, cond, List, eqb, ltb, length, get_or}
use Rattle.std.proofs.Math.Option.{Option, none}
use Rattle.paper.specs.Answer.{Answer, ok, refused, ◌>>=◌, ◌>>◌, among, lowest}
use Rattle.paper.specs.Refusals.{dotless, fillable, ids_left}
use Rattle.paper.specs.Forest.{Forest, size}
use Rattle.paper.specs.Field.{Field, highest, with_id}
use Rattle.paper.specs.Bytes.{turned, kids_at, field_at, in_pool, from}
use Rattle.paper.specs.Decode.{fields}
use Rattle.paper.specs.Lists.{parent_path}
use Rattle.paper.specs.Update.{placed, Placed, placed_all}
use Rattle.record.specs.Says.{refusal_of}
use Rattle.record_entries.specs.declared.PathList.TheVariants.{Additions}
use Rattle.tree.specs.Read.{part, reads}
use Rattle.paper.specs.Rebuild.{arrivals}
use Rattle.laws.proofs.Natural.{mapped_all}
use Rattle.record.specs.Trees.{Trees, lent_trees}
use Rattle.plan.specs.Plan.{planned_field}
use Rattle.plan.specs.Table.{fields_in}
use Rattle.update_dropped.specs.declared.Dropped.{Dropped}
use Rattle.update_dropped.specs.Set.{dropped_ids}
use Rattle.update_rebuild.specs.declared.Given.{Given}
use Rattle.update_rebuild.specs.Sources.{parent, additions}
use Rattle.update_rebuild.specs.Planned.{Word, drops_in, unders_in, firsts_in, starts_in}
use Rattle.update_schema.specs.Answers.{Decided, Spotted}
use Rattle.std.specs.Prelude.{Ok, Err, None}
use Rattle.update_rebuild.specs.Answers.{Under}
use Rattle.update_schema.specs.Base.{Entries}
use Rattle.update_schema.specs.declared.Spot.{Spot}
use Rattle.plan.specs.declared.PlanRows.{PlanRows}
use Rattle.update_rebuild.specs.declared.Decisions.{Decisions}

-- How many records the column at a slot of the m added records has.
unfoldable pub column_size : (added : List ℕ) (m slot : ℕ) → ℕ
column_size added m slot = suc (size (part 1 (kids_at added) m 15 (kids_at added slot) (slot + 1)).trees)

-- 18, or the spot of an addition that has its place.
unfoldable pub numbered : (under : Under) (last k slot records : ℕ) → Spotted
numbered under last k slot records =
    cond (ltb highest (last + records)) (Err (refusal_of 18 3 k)) (Ok (record { under = under; start = turned (suc last); last = last + records; next = slot + records }))

-- One step of the paper's `placed_all`: 13, 14, then 15, 16, 22, 17, then 18.
unfoldable pub one_placed : Forest Field → List ℕ → (last k : ℕ) → Option (List ℕ) → Field → Forest Field → Answer (Option ℕ)
one_placed t dropped last k p f m = do
  dotless 3 k (among 46 f.name)
  fillable k (eqb f.flags 1)
  q ← placed t dropped k f.name p
  ids_left 3 k (ltb highest (suc (last + size m)))
  ok q

-- What it says of an addition: its place, its ids, and the slot behind it.
pub record Settled (a : Answer (Option ℕ)) (last slot records : ℕ) (s : Spot) : Type 0 where
  pub goes : a ≡ ok (parent s.under)
  pub under : Word s.under
  pub start : s.start ≡ turned (suc last)
  pub end : s.last ≡ last + records
  pub most : s.last < 4294967296
  pub next : s.next ≡ slot + records

abbrev pub SpottedBy : Spotted → (a : Answer (Option ℕ)) (last slot records : ℕ) → Type 0
SpottedBy (Ok s) a last slot records = Settled a last slot records s
SpottedBy (Err r) a last slot records = a ≡ refused r.number r.list r.place

pub record OneSpotted (t : Forest Field) (dropped request added additions : List ℕ) (m last k slot : ℕ) (r : Spotted) : Type 0 where
  pub by : SpottedBy r (one_placed t dropped last k (parent_path request additions k) (field_at request added slot) (fields request added (part 1 (kids_at added) m 15 (kids_at added slot) (slot + 1)).trees)) last slot (column_size added m slot)

-- ---- all additions

-- The m added records of which so many roots were read, one for each entry.
pub record Columns (request added additions : List ℕ) (total m : ℕ) : Type 0 where
  pub entries : Entries Additions request additions total
  pub whole : m * 24 ≤ length added
  pub small : m ≤ 1024
  pub read : reads 1 (kids_at added) m 16 total 0 ≡ true
  pub named : lowest (in_pool (length request) added) 0 m ≡ none

-- The places in the first row, as the paper has them.
unfoldable pub parents_in : List Under → ℕ → List (Option ℕ)
parents_in unders total = from (λ j. parent (get_or unders j None)) 0 total

-- What the paper says of all additions.
unfoldable pub all_placed : Forest Field → (dropped request added additions : List ℕ) (total m last : ℕ) → Answer Placed
all_placed t dropped request added additions total m last = placed_all t dropped last 0 (from (parent_path request additions) 0 total) (fields request added (part 1 (kids_at added) m 16 total 0).trees)

-- The places in the row and the last id consumed are the paper's, each addition's tree was read, and the three rows are the paper's arrivals.
pub record Placings (a : Answer Placed) (request added : List ℕ) (total m given last : ℕ) (unders : List Under) (firsts starts : List ℕ) : Type 0 where
  pub is : a ≡ ok (record { parents = parents_in unders total; last = last })
  pub most : last < 4294967296
  pub under : (j : ℕ) → j < total → Word (get_or unders j None)
  pub first : (j : ℕ) → j < total → get_or firsts j 0 ≤ m
  pub tree : (j : ℕ) → j < total → reads 1 (kids_at added) m 16 1 (get_or firsts j 0) ≡ true
  pub arrive : (pool base edits : List ℕ) → mapped_all (planned_field (lent_trees base pool added request edits)) (additions added m unders firsts starts total) ≡ arrivals with_id given (parents_in unders total) (fields request added (part 1 (kids_at added) m 16 total 0).trees)

abbrev pub PlacesBy : Decided → Answer Placed → (request added : List ℕ) (total m given : ℕ) (unders : List Under) (firsts starts : List ℕ) → Type 0
PlacesBy (Ok e) a request added total m given unders firsts starts = Placings a request added total m given e unders firsts starts
PlacesBy (Err r) a request added total m given unders firsts starts = a ≡ refused r.number r.list r.place

pub record PlacesAll (t : Forest Field) (dropped request added additions : List ℕ) (total m last : ℕ) (r : Decided) (unders : List Under) (firsts starts : List ℕ) : Type 0 where
  pub by : PlacesBy r (all_placed t dropped request added additions total m last) request added total m last unders firsts starts

-- The same of the tables; the row of the dropped ids is as it was.
abbrev pub ColumnsIn : Trees → (additions : List ℕ) → Given → Type 0
ColumnsIn l additions given = Columns l.request_pool l.added_records additions given.additions given.added

pub record PlacesIn (l : Trees) (additions : List ℕ) (given : Given) (plan : PlanRows) (dropped : Dropped) (r : Decided) (old new : Decisions) : Type 0 where
  pub places : PlacesAll (fields_in l plan given.base) (dropped_ids dropped) l.request_pool l.added_records additions
      given.additions given.added given.last r (unders_in new) (firsts_in new) (starts_in new)
  pub same_drops : drops_in new ≡ drops_in old
