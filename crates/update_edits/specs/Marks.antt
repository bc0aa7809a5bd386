-- The marks that edits leave on slots of the base, and the sources that carry them (`plan`'s Plan has their numbers).
use Rattle.std.specs.Prelude.{ℕ, ◌+◌, ◌-◌, ◌*◌, ◌/◌, ◌%◌, ◌<◌, ◌≡◌, cond, List, eqb, ltb, length, get_or, replicate}
use Rattle.std.proofs.lemmas.List.Edits.{sets}
use Rattle.paper.specs.Bytes.{field_at, from}
use Rattle.paper.specs.Lists.{edit_at}
use Rattle.paper.specs.Edits.{Edited, edit_fields}
use Rattle.record.specs.Trees.{Trees}
use Rattle.record_entries.specs.declared.What.{What}
use Rattle.record_entries.specs.declared.What.TheVariants.{Rename, Relax, Widen}
use Rattle.record_entries.specs.Rule.{what_of}
use Rattle.plan.specs.Plan.{Source, low_part, source_field, Sits}
use Rattle.plan.specs.Table.{sources, numbers, members}
use Rattle.update_edits.specs.Edit.{Tells}
use Rattle.plan.specs.declared.PlanRows.{PlanRows}

-- A mark with the edit k, which keeps what other edits left.
abbrev pub mark_with : What → (k mark : ℕ) → ℕ
mark_with Rename k mark = mark / 256 * 256 + (mark % 2 + 2 * (k + 1))
mark_with Relax k mark = mark + (1 - mark % 2)
mark_with Widen k mark = low_part mark + 256 * (k + 1)

abbrev pub marked_by : (edits : List ℕ) (k mark : ℕ) → ℕ
marked_by edits k mark = mark_with (what_of (edit_at edits k).what) k mark

-- The source that a mark makes of a slot of the base.
unfoldable pub as_marked : (mark slot : ℕ) → ℕ
as_marked mark slot = cond (eqb mark 0) slot (2048 + slot + 1024 * mark)

abbrev pub marked : (marks : List ℕ) (slot : ℕ) → ℕ
marked marks slot = as_marked (get_or marks slot 0) slot

-- A source as its mark has it: one of the base alone has a mark.
unfoldable pub remarked : (marks : List ℕ) (x : ℕ) → ℕ
remarked marks x = cond (ltb x 1024) (marked marks x) x

abbrev pub remark : (marks : List ℕ) → Source → Source
remark marks a = record { slot = remarked marks a.slot; id = a.id }

-- No slot has a mark.
abbrev pub Unmarked : (marks : List ℕ) → Type 0
Unmarked marks = marks ≡ replicate 1024 0

-- The marks of n slots carry what was decided: each slot, as its mark leaves it, is its column as the edits leave it.
pub record Carries (l : Trees) (n : ℕ) (marks : List ℕ) (decided : List Edited) : Type 0 where
  pub room : length marks ≡ 1024
  pub field : (s : ℕ) → s < n → source_field l (marked marks s) ≡ edit_fields decided (field_at l.pool l.records s)
  pub sits : (s : ℕ) → s < n → Sits l (marked marks s)
  pub told : Tells l.records n marks decided

-- The first m sources are as their marks have them, and all else is as it was.
pub record RemarkedIn (marks : List ℕ) (m : ℕ) (plan plan' : PlanRows) : Type 0 where
  pub sources_set : sources plan' ≡ sets (sources plan) 0 (from (λ i. remarked marks (get_or (sources plan) i 0)) 0 m)
  pub numbers_same : numbers plan' ≡ numbers plan
  pub members_same : members plan' ≡ members plan
