-- The struct that receives additions, by its slot, and what stands at a slot.
use Rattle.std.specs.Prelude.{ℕ, ◌+◌, ◌<◌, ◌≡◌, true, cond, List}
use Rattle.std.proofs.Math.Option.{Option, none, some}
use Rattle.paper.specs.declared.Kind.{Kind}
use Rattle.paper.specs.declared.Kind.TheVariants.{Primitive, Structure, Listing, Mapping}
use Rattle.paper.specs.Forest.{Forest}
use Rattle.paper.specs.Field.{Field, is_struct}
use Rattle.paper.specs.Bytes.{turned, rec_at, kind_at, kids_at, field_at}
use Rattle.paper.specs.Decode.{fields}
use Rattle.paper.specs.Rows.{Row}
use Rattle.paper.specs.Update.{Receiver}
use Rattle.tree.specs.Read.{part, reads}
use Rattle.std.specs.Prelude as code
use Rattle.update_parents.specs.Answers.{Target}

abbrev pub struct_at : List ℕ → ℕ → Option ℕ
struct_at records j = cond (is_struct (kind_at records j)) (some j) none

-- After the key, which has its inside, comes the value.
unfoldable pub value_slot : (records : List ℕ) (n k : ℕ) → ℕ
value_slot records n k = (part 0 (kids_at records) n 14 (kids_at records (k + 1)) (k + 1 + 1)).next

abbrev pub step_from : (records : List ℕ) (n k : ℕ) → Kind → Option ℕ
step_from records n k Primitive = none
step_from records n k Structure = some k
step_from records n k Listing = struct_at records (k + 1)
step_from records n k Mapping = struct_at records (value_slot records n k)

-- The slot of the struct that receives additions under the record at slot k: itself, a list's element, a map's value.
unfoldable pub receiving : (records : List ℕ) (n k : ℕ) → Option ℕ
receiving records n k = step_from records n k (kind_at records k)

unfoldable pub targeted : Option ℕ → Target
targeted none = code.None
targeted (some k) = code.Some (record { 0 = k })

-- The members of the struct at slot k.
unfoldable pub members_at : (pool records : List ℕ) (n k : ℕ) → Forest Field
members_at pool records n k = fields pool records (part 0 (kids_at records) n 15 (kids_at records k) (k + 1)).trees

-- What the paper says of it.
abbrev pub receiver_at : (pool records : List ℕ) (n : ℕ) → Option ℕ → Option Receiver
receiver_at pool records n none = none
receiver_at pool records n (some k) = some (record { id = turned (rec_at records k).id; members = members_at pool records n k })

-- A row is the record at its slot, whose inside was read.
pub record Stands (pool records : List ℕ) (n : ℕ) (r : Row) : Type 0 where
  pub there : r.slot < n
  pub read : reads 0 (kids_at records) n 15 (kids_at records r.slot) (r.slot + 1) ≡ true
  pub field : r.field ≡ field_at pool records r.slot
  pub inside : r.inside ≡ fields pool records (part 0 (kids_at records) n 15 (kids_at records r.slot) (r.slot + 1)).trees
