-- A walk that looks for names whose case is forgotten, in slot order, and carries what is left of the asked name, over slots.
use Rattle.std.specs.Prelude.{ℕ, Bool, ◌&&◌, cond, List, [], ◌∷◌, ◌++◌}
use Rattle.std.specs.Prelude.{Some, None}
use Rattle.std.proofs.Math.Option.{Option}
use Rattle.std.proofs.Common.{ControlFlow, Continue, Break}
use Rattle.record.specs.declared.Slot.{Slot}
use Rattle.record.specs.Answers.{FoundSlot}
use Rattle.paper.specs.declared.Kind.{Kind}
use Rattle.paper.specs.declared.Role.{Role}
use Rattle.paper.specs.declared.Role.TheVariants.{Member}
use Rattle.paper.specs.Forest.{Forest, empty, node}
use Rattle.paper.specs.Field.{first, after}
use Rattle.paper.specs.Folded.{folded}
use Rattle.paper.specs.Layout.{Part}
use Rattle.paper.specs.Rows.{skipped}
use Rattle.record.specs.Trees.{Trees}
use Rattle.plan.specs.Named.{names_in, kinds_in}
use Rattle.plan.specs.Walk.{walk_in}
use Rattle.index_turns.specs.Turn.{left_is, left_at, inside}
use Rattle.plan.specs.declared.PlanRows.{PlanRows}

-- The slot of a second match, which breaks a walk off; or the slot behind a row, and the one match up to there.
abbrev pub Met : Type 0
Met = ControlFlow Slot (Slot × FoundSlot)

abbrev pub folded_in : Trees → (plan : PlanRows) → ℕ → List ℕ
folded_in l plan k = folded (names_in l plan k)

-- The slots, in slot order, whose name is what is left.
unfoldable pub matched : (ℕ → List ℕ) → (ℕ → Kind) → (short : Bool) → Role → Option (List ℕ) → Forest ℕ → List ℕ
matched name kind short role left empty = []
matched name kind short role left (node k m n) =
    let rest = matched name kind short (first (kind k)) (inside (short && skipped role (kind k)) left (name k)) m ++ matched name kind short (after role) left n in
    cond (left_is left (name k)) (k ∷ rest) rest

-- Behind these slots, where `one` is a match before them.
unfoldable pub met : (one : FoundSlot) → List ℕ → (next : ℕ) → Met
met one [] next = Continue ((record { 0 = next }), one)
met None (k ∷ ks) next = met (Some (record { 0 = k })) ks next
met (Some s) (k ∷ ks) next = Break (record { 0 = k })

-- What a walk over a row answers.
unfoldable pub meeting : (ℕ → List ℕ) → (ℕ → Kind) → (short : Bool) → Role → Option (List ℕ) → (one : FoundSlot) → Part → Met
meeting name kind short role left one p = met one (matched name kind short role left p.trees) p.next

-- What a walk over all rows answers, by their full names or by their short ones.
abbrev pub level : Trees → (plan : PlanRows) (m : ℕ) (short : Bool) (x : List ℕ) → Met
level l plan m short x = meeting (folded_in l plan) (kinds_in l plan) short Member (left_at (folded x) 0) None (walk_in plan m 16 m 0)
