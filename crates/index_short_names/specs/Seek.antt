-- A walk that looks for a short name in the order of entry and carries what is left of it, over slots.
use Rattle.std.specs.Prelude.{ℕ, ◌≡◌, cond, List}
use Rattle.std.proofs.Math.Option.{Option, none, some}
use Rattle.std.proofs.Common.{ControlFlow, Continue, Break}
use Rattle.record.specs.declared.Slot.{Slot}
use Rattle.paper.specs.declared.Kind.{Kind}
use Rattle.paper.specs.declared.Role.{Role}
use Rattle.paper.specs.Answer.{or_else}
use Rattle.paper.specs.Forest.{Forest, empty, node}
use Rattle.paper.specs.Field.{first, after}
use Rattle.paper.specs.Layout.{Part}
use Rattle.paper.specs.Rows.{skipped, late}
use Rattle.index_ids.specs.Chain.{held}
use Rattle.index_turns.specs.Turn.{left_at, inside, own}
use Rattle.index_short_names.specs.declared.Turn.{Turn}

-- A slot that was found, which breaks a walk off; or the slot behind a row in which there is none.
abbrev pub Sighting : Type 0
Sighting = ControlFlow Slot Slot

-- What is asked of the record at slot k.
pub record Turned (name : ℕ → List ℕ) (kind : ℕ → Kind) (role : Role) (x : List ℕ) (pos k : ℕ) (t : Turn) : Type 0 where
  pub members : t.role ≡ first (kind k)
  pub left : left_at x t.pos ≡ inside (skipped role (kind k)) (left_at x pos) (name k)
  pub mine : held t.me ≡ own (left_at x pos) (name k) k

-- The first entered slot whose short name is what is left, or what waits.
unfoldable pub seek_in : (ℕ → List ℕ) → (ℕ → Kind) → Role → Option (List ℕ) → Option ℕ → Forest ℕ → Option ℕ
seek_in name kind role left wait empty = wait
seek_in name kind role left wait (node k m n) =
    or_else (seek_in name kind (first (kind k)) (inside (skipped role (kind k)) left (name k)) none m)
    (cond (late role) (seek_in name kind (after role) left (or_else wait (own left (name k) k)) n) (or_else (own left (name k) k) (seek_in name kind (after role) left wait n)))

unfoldable pub outcome : Option ℕ → ℕ → Sighting
outcome none next = Continue (record { 0 = next })
outcome (some k) next = Break (record { 0 = k })

-- What a walk over a row answers: the slot that it finds, or where the row ends.
unfoldable pub sighting : (ℕ → List ℕ) → (ℕ → Kind) → Role → Option (List ℕ) → Option ℕ → Part → Sighting
sighting name kind role left wait p = outcome (seek_in name kind role left wait p.trees) p.next
