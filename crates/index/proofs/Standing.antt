-- A row that a look-up finds is the record at its slot (laws' `Sited`), and its name is in the pool.
use Prim.Native.Nat.{ℕ, ◌<◌}
use mathlib.Core.Path.{◌≡◌}
use mathlib.Core.Bool.{true}
use mathlib.Core.List.{List}
use lib.ListN.{length}
use Rattle.paper.specs.Rows.{Row}
use Rattle.paper.specs.Bytes.{in_pool, field_at, slots}
use Rattle.paper.specs.Limits.{sized}
use Rattle.laws.proofs.Sited.{Sited, name_sited, folded_sited, id_sited, parent_sited}
use Rattle.plan.proofs.Taking.{decoded_named}
use Rattle.index.specs.Finds.{FoundIn, by_name, by_folded, by_id, by_parent}

-- 2 was passed; the record at the row's slot is in the list, its name in the pool, and its field is the row's.
pub record Here (s pool : List ℕ) (r : Row) : Type 0 where
  pub limits : sized s pool ≡ true
  pub there : r.slot < slots s
  pub pooled : in_pool (length pool) s r.slot ≡ true
  pub field : r.field ≡ field_at pool s r.slot

module _ (s pool : List ℕ) where
  here : (r : Row) → Sited s pool r → Here s pool r
  here r h =
      record {
        limits = h.limits;
        there = h.there;
        pooled = decoded_named 0 s pool h.tree h.decodes r.slot h.there;
        field = h.field;
      }

  pub row_here : (r : Row) → FoundIn s pool r → Here s pool r
  row_here r (by_name x e) = here r (name_sited s pool r x e)
  row_here r (by_folded x e) = here r (folded_sited s pool r x e)
  row_here r (by_id i e) = here r (id_sited s pool r i e)
  row_here r (by_parent i e) = here r (parent_sited s pool r i e)
