-- A plan's rows keep their room.
use Prim.Native.Nat.{ℕ}
use mathlib.Core.Path.{◌≡◌, ◌∙◌}
use mathlib.Core.List.{List, map}
use lib.ListN.{length-replicate}
use lib.Seq.{sets, length-sets}
use Rattle.paper.specs.Forest.{Forest, preorder, counts}
use Rattle.paper.specs.Bytes.{kids_at, from}
use Rattle.tree.specs.Read.{itself}
use Rattle.plan.specs.Plan.{Source, slot_of, bits_of}
use Rattle.plan.specs.Sources.{id_bits}
use Rattle.plan.specs.Table.{sources, numbers, members, Roomy, no_rows, LaidIn, CopiedIn}
use Rattle.plan.specs.declared.PlanRows.{PlanRows}

pub roomy_fresh : Roomy no_rows
unfolding no_rows
roomy_fresh = let e = length-replicate {A = ℕ} 1024 0 in record { sources_room = e; numbers_room = e; members_room = e }

module _ (i : ℕ) (plan plan' : PlanRows) where
  stored_roomy : (xs is ks : List ℕ) → sources plan' ≡ sets (sources plan) i xs → numbers plan' ≡ sets (numbers plan) i is → members plan' ≡ sets (members plan) i ks → Roomy plan → Roomy plan'
  stored_roomy xs is ks ex ei ek r =
      record {
        sources_room = rw ex (length-sets (sources plan) i xs) ∙ r.sources_room;
        numbers_room = rw ei (length-sets (numbers plan) i is) ∙ r.numbers_room;
        members_room = rw ek (length-sets (members plan) i ks) ∙ r.members_room;
      }

  pub laid_roomy : (t : Forest Source) → LaidIn t i plan plan' → Roomy plan → Roomy plan'
  laid_roomy t h = stored_roomy (map slot_of (preorder t)) (map bits_of (preorder t)) (counts t) h.sources_set h.numbers_set h.members_set

  -- With k and i zero this is of `TakenIn`.
  pub copied_roomy : (s : List ℕ) (k n : ℕ) → CopiedIn s k n plan i plan' → Roomy plan → Roomy plan'
  copied_roomy s k n h = stored_roomy (from itself k n) (from (id_bits s) k n) (from (kids_at s) k n) h.sources_set h.numbers_set h.members_set
