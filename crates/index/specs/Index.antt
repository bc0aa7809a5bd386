-- An index of a planned tree: what look-ups need. And what the look-ups answer, in the paper's words.
use Rattle.std.specs.Prelude.{ℕ, ◌<◌, ◌≤◌, ◌≡◌, true, List, [], get_or}
use Rattle.std.proofs.Math.Option.{Option, none, some}
use Rattle.paper.specs.declared.Role.TheVariants.{Member}
use Rattle.paper.specs.Answer.{same, repeated, ok}
use Rattle.paper.specs.Bytes.{turned, slots}
use Rattle.paper.specs.Decode.{decode}
use Rattle.paper.specs.Limits.{sized}
use Rattle.paper.specs.Lists.{id_list}
use Rattle.paper.specs.Rows.{look_id, look_parent}
use Rattle.paper.specs.Sound.{sound}
use Rattle.record.specs.Answers.{Check, Found}
use Rattle.std.specs.Prelude.{Ok, Some, None}
use Rattle.record.specs.Says.{tested, checked, found_row}
use Rattle.record.specs.Trees.{Trees}
use Rattle.tree.specs.Read.{fine}
use Rattle.plan.specs.Plan.{kids_in}
use Rattle.plan.specs.Table.{numbers, members, PlanIn, fields_in, Roomy, TakenIn}
use Rattle.index_ids.specs.Ids.{id_in}
use Rattle.index_ids.specs.Table.{ups_in, Rooms, Within}
use Rattle.index_ids.specs.Path.{IdsChained}
use Rattle.plan.specs.Walk.{trees_of}
use Rattle.index_names.specs.Full.{fulls}
use Rattle.index_names.specs.Told.{Raised}
use Rattle.plan.specs.Named.{name_in, kind_in}
use Rattle.plan.specs.Named.{names_in}
use Rattle.index_names.specs.Table.{SpeltIn, TaggedIn}
use Rattle.index_full_names.specs.Filed.{NamesFiled}
use Rattle.index_short_names.specs.Seek.{seek_in}
use Rattle.plan.specs.declared.PlanRows.{PlanRows}

-- Places above fall.
pub record Falling (m : ℕ) (us : List ℕ) : Type 0 where
  pub falls : (k : ℕ) → k < m → get_or us k 0 ≤ k

-- The index of m planned records, over the two tables.
pub record Index (l : Trees) (plan : PlanRows) (m : ℕ) (index : List (List ℕ)) : Type 0 where
  pub rooms : Rooms index
  pub by_id : IdsChained (numbers plan) index m
  pub raised : Raised (members plan) m (ups_in index)
  pub spelt : SpeltIn l plan m index
  pub tagged : TaggedIn l plan m index
  pub by_name : NamesFiled l plan index m

-- The answer to 8, and what is left: places above, lengths and tags always, the index of full names where there is no fault.
pub record NamesIndexed (l : Trees) (plan : PlanRows) (m list : ℕ) (r : Check) (old new : List (List ℕ)) : Type 0 where
  pub answer : r ≡ tested 8 list (repeated same [] 0 (fulls (names_in l plan) [] (trees_of (kids_in (members plan)) m)))
  pub within : Within 3 8 old new
  pub raised : Raised (members plan) m (ups_in new)
  pub spelt : SpeltIn l plan m new
  pub tagged : TaggedIn l plan m new
  pub filed : r ≡ (Ok tt) → NamesFiled l plan new m

-- The answer to 7, 8 and 9 of a planned tree, and the index that is left where there is no fault. Its rows keep their room.
pub record Indexing (l : Trees) (plan : PlanRows) (m list : ℕ) (identifiers : List ℕ) (r : Check) (old new : List (List ℕ)) : Type 0 where
  pub answer : r ≡ checked (sound list (fields_in l plan m) (id_list identifiers))
  pub index : r ≡ (Ok tt) → Index l plan m new
  pub rooms : Rooms new

-- A slot that was found, with its id.
abbrev pub at_slot : (id slot : ℕ) → Found
at_slot id k = Some ((record { 0 = turned id }), (record { 0 = k }))

unfoldable pub found_slot : List ℕ → Option ℕ → Found
found_slot is none = None
found_slot is (some k) = at_slot (id_in is k) k

-- The look-up of an id, and of the record above one: whatever the plan draws on.
pub record ById (plan : PlanRows) (m id : ℕ) (r : Found) : Type 0 where
  pub finds : (l : Trees) → PlanIn l plan m → r ≡ found_row (look_id (fields_in l plan m) (turned id))

pub record ByParent (plan : PlanRows) (index : List (List ℕ)) (m id : ℕ) (r : Found) : Type 0 where
  pub finds : (l : Trees) → PlanIn l plan m → Raised (members plan) m (ups_in index)
      → r ≡ found_row (look_parent (fields_in l plan m) (turned id))

-- The first entered short name.
abbrev pub short_slot : Trees → (xs ks : List ℕ) → ℕ → List ℕ → Option ℕ
short_slot l xs ks m x = seek_in (name_in l xs) (kind_in l xs) Member (some x) none (trees_of (kids_in ks) m)

-- A base whose records passed 2 to 6, lent beside whatever else.
pub record Readable (l : Trees) (n : ℕ) : Type 0 where
  pub limits : sized l.records l.pool ≡ true
  pub count : n ≡ slots l.records
  pub decodes : fine (decode 0 l.records l.pool) ≡ true

-- The base as a plan of itself: the refusal of 7 to 9, or the plan with its index. The tree is the plan's in any case.
pub record BaseIndexed (l : Trees) (n : ℕ) (identifiers : List ℕ) (r : Check) (old new : PlanRows) (index : List (List ℕ)) : Type 0 where
  pub taken : TakenIn l.records n old new
  pub planned : PlanIn l new n
  pub tree : decode 0 l.records l.pool ≡ ok (fields_in l new n)
  pub answer : r ≡ checked (sound 0 (fields_in l new n) (id_list identifiers))
  pub indexed : r ≡ (Ok tt) → Index l new n index
  pub roomy : Roomy new
  pub rooms : Rooms index
