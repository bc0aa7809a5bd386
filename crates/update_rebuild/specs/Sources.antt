-- The paper's rebuild over sources: slots of the base, and slots of the additions tree with fresh ids.
use Rattle.std.specs.Prelude.{ℕ, ◌+◌, ◌-◌, Bool, true, List, length, get_or, None, Some}
use Rattle.std.proofs.Math.Option.{Option, none, some}
use Rattle.paper.specs.declared.Kind.{Kind}
use Rattle.paper.specs.Forest.{Forest, empty, node, mapped}
use Rattle.paper.specs.Field.{is_struct}
use Rattle.paper.specs.Bytes.{turned, rec_at, kind_at, kids_at, from}
use Rattle.paper.specs.Layout.{roots}
use Rattle.paper.specs.Gone.{outermost}
use Rattle.paper.specs.Rebuild.{Addition, fresh, rebuilt}
use Rattle.tree.specs.Read.{got, part}
use Rattle.plan.specs.Plan.{Source}
use Rattle.update_rebuild.specs.Answers.{Under}

abbrev pub base_source : (records : List ℕ) → ℕ → Source
base_source records k = record { slot = k; id = (rec_at records k).id }

-- The record at slot k of the additions tree, with the id i.
abbrev pub added_source : ℕ → ℕ → Source
added_source i k = record { slot = 1024 + k; id = turned i }

abbrev pub source_id : Source → ℕ
source_id a = turned a.id

-- The kind of a record of the base.
abbrev pub source_kind : (records : List ℕ) → Source → Kind
source_kind records a = kind_at records a.slot

-- Where additions go: the root list, or the struct whose id has the 32 bits x.
unfoldable pub parent : Under → Option ℕ
parent None = none
parent (Some x) = some (turned x)

-- The tree at slot k of the n added records, with ids from that of the 32 bits `start` on.
unfoldable pub added_tree : (added : List ℕ) (n k start : ℕ) → Forest Source
added_tree added n k start = fresh added_source (turned start) (part 1 (kids_at added) n 16 1 k).trees

abbrev pub addition_at : (added : List ℕ) (n : ℕ) (unders : List Under) (firsts starts : List ℕ) → ℕ → Addition Source
addition_at added n unders firsts starts j =
    record { parent = parent (get_or unders j None); tree = added_tree added n (get_or firsts j 0) (get_or starts j 0) }

unfoldable pub additions : (added : List ℕ) (n : ℕ) (unders : List Under) (firsts starts : List ℕ) (total : ℕ) → List (Addition Source)
additions added n unders firsts starts total = from (addition_at added n unders firsts starts) 0 total

-- What is planned of siblings of the base, under q.
unfoldable pub rebuilt_row : (records dropped : List ℕ) → List (Addition Source) → Option ℕ → (open? : Bool) → Forest ℕ → Forest Source
rebuilt_row records dropped adds q open? t =
    rebuilt source_id (source_kind records) dropped adds q open? (mapped (base_source records) t)

-- What is planned of the record at slot k, which stays: itself, and its inside rebuilt.
unfoldable pub rebuilt_one : (records dropped : List ℕ) → List (Addition Source) → (n lv k : ℕ) → Forest Source
rebuilt_one records dropped adds n lv k =
    node
    (base_source records k)
    (rebuilt_row records dropped adds (some (turned (rec_at records k).id)) (is_struct (kind_at records k)) (part 0 (kids_at records) n (lv - 1) (kids_at records k) (k + 1)).trees)
    empty

-- How many dropped members are passed among siblings of the base, and below them.
unfoldable pub passed : (records dropped : List ℕ) → (open? : Bool) → Forest ℕ → ℕ
passed records dropped open? t =
    length (outermost (λ k. turned (rec_at records k).id) (kind_at records) dropped open? t)

-- The base of n records, rebuilt.
unfoldable pub rebuilt_base : (records : List ℕ) (n : ℕ) (dropped : List ℕ) → List (Addition Source) → Forest Source
rebuilt_base records n dropped adds = rebuilt_row records dropped adds none true (got (roots 0 (kids_at records) n n 0)).trees

-- How many dropped members are passed in it.
unfoldable pub passed_base : (records : List ℕ) (n : ℕ) (dropped : List ℕ) → ℕ
passed_base records n dropped = passed records dropped true (got (roots 0 (kids_at records) n n 0)).trees
