-- The role of a record of the base, by the place above it; and what is asked of an edit, by what it does.
use Rattle.std.specs.Prelude.{ℕ, zero, suc, ◌<◌, ◌≡◌, Bool, false, not, ◌&&◌, cond, List, eqb, leb, get_or}
use Rattle.paper.specs.declared.Kind.{Kind}
use Rattle.paper.specs.declared.Role.{Role}
use Rattle.paper.specs.declared.Role.TheVariants.{Member}
use Rattle.paper.specs.Answer.{among}
use Rattle.paper.specs.Bytes.{kind_at, field_at}
use Rattle.paper.specs.Field.{first, after, is_member, is_key, is_primitive}
use Rattle.paper.specs.Promotions.{allowed}
use Rattle.paper.specs.Rows.{Row}
use Rattle.record_entries.specs.declared.What.{What}
use Rattle.record_entries.specs.declared.What.TheVariants.{Rename, Relax, Widen}
use Rattle.plan.specs.Plan.{low_part}

-- A root is a member. Under a record the first one stands right behind it.
unfoldable pub role_under : (records : List ℕ) (above slot : ℕ) → Role
role_under records zero slot = Member
role_under records (suc p) slot = cond (eqb slot (suc p)) (first (kind_at records p)) (after (first (kind_at records p)))

-- `us` has the place above each slot.
abbrev pub role_at : (records us : List ℕ) (slot : ℕ) → Role
role_at records us slot = role_under records (get_or us slot 0) slot

-- A row is the record at its slot, in its role.
pub record Stood (pool records : List ℕ) (n : ℕ) (us : List ℕ) (r : Row) : Type 0 where
  pub there : r.slot < n
  pub field : r.field ≡ field_at pool records r.slot
  pub role : r.role ≡ role_at records us r.slot

-- Whether a role forbids what an edit does.
abbrev pub forbids : What → Role → Bool
forbids Rename role = not (is_member role)
forbids Relax role = is_key role
forbids Widen role = false

-- Whether a column of a mark would be renamed, or widened, a second time.
abbrev pub repeats : What → (mark : ℕ) → Bool
repeats Rename mark = leb 2 (low_part mark)
repeats Relax mark = false
repeats Widen mark = leb 256 mark

-- Whether an edit gives a name that has a dot.
abbrev pub dots : What → (name : List ℕ) → Bool
dots Rename name = among 46 name
dots Relax name = false
dots Widen name = false

-- Whether a column of a kind and an old code may not get a new one.
abbrev pub stepless : What → (version : ℕ) → Kind → (old new : ℕ) → Bool
stepless Rename version kind old new = false
stepless Relax version kind old new = false
stepless Widen version kind old new = not (is_primitive kind && allowed version old new)
