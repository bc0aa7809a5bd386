-- The end of an update: the rebuilt tree's limits and its 7 to 9, then the answer and the bytes that are left.
use Rattle.std.specs.Prelude.{ℕ, ◌+◌, ◌≤◌, ◌≡◌, true, List, [], ◌∷◌, length}
use Rattle.std.proofs.Math.Option.{none}
use Rattle.paper.specs.Answer.{Answer, ok, ◌>>◌}
use Rattle.paper.specs.Refusals.{rebuilt_within}
use Rattle.paper.specs.Forest.{Forest, size, siblings}
use Rattle.paper.specs.Field.{Field, id_of, kind_of}
use Rattle.paper.specs.Bytes.{turned, slots}
use Rattle.paper.specs.Decode.{decode}
use Rattle.paper.specs.Limits.{sized}
use Rattle.paper.specs.Lists.{id_list}
use Rattle.paper.specs.Sound.{sound, within}
use Rattle.paper.specs.Edits.{Edited, edited_tree}
use Rattle.paper.specs.Gone.{outermost}
use Rattle.paper.specs.Rebuild.{rebuilt}
use Rattle.paper.specs.Entries.{Result}
use Rattle.paper.specs.Outcome.{for_records, for_names, Answers}
use Rattle.laws.proofs.Natural.{mapped_all}
use Rattle.record.specs.Answers.{Changed}
use Rattle.record.specs.Says.{changes}
use Rattle.record.specs.Trees.{Trees}
use Rattle.plan.specs.Plan.{planned_field}
use Rattle.plan.specs.Table.{Roomy}
use Rattle.index_ids.specs.Table.{Rooms}
use Rattle.update_edits.specs.Marks.{Unmarked, Carries}
use Rattle.update_rebuild.specs.declared.Given.{Given}
use Rattle.update_rebuild.specs.Planned.{drops_in, ResolvedIn, additions_in}
use Rattle.update_dropped.specs.Gathered.{row_ids}
use Rattle.plan.specs.declared.PlanRows.{PlanRows}
use Rattle.update_rebuild.specs.declared.Decisions.{Decisions}

-- 7 to 9 of a rebuilt tree, then the answer with the bits of the last id and the number of records visited.
unfoldable pub sounded : Forest Field → (identifiers : List ℕ) → (last visited : ℕ) → Answer Result
sounded tree identifiers last visited = do
  sound 4 tree identifiers
  ok (record { tree = tree; identifiers = []; last = last; visited = visited })

-- 19 before them.
unfoldable pub limited_sounded : Forest Field → (identifiers : List ℕ) → (last visited : ℕ) → Answer Result
limited_sounded tree identifiers last visited = do
  rebuilt_within (within tree)
  sounded tree identifiers last visited

-- Both trees passed 2 to 6, the base with so many roots; the additions are resolved, and the marks carry edits; the tables have their
-- room; the buffers passed 1.
pub record Rebuildable (l : Trees) (identifiers : List ℕ) (given : Given) (roots : ℕ) (decisions : Decisions) (marks : List ℕ) (plan : PlanRows) (index : List (List ℕ)) (out_records out_names : List ℕ) : Type 0 where
  pub base : Forest Field
  pub added : Forest Field
  pub base_limits : sized l.records l.pool ≡ true
  pub base_read : decode 0 l.records l.pool ≡ ok base
  pub added_read : decode 1 l.added_records l.request_pool ≡ ok added
  pub base_count : given.base ≡ slots l.records
  pub added_count : given.added ≡ slots l.added_records
  pub root_count : roots ≡ siblings base
  pub few : length identifiers ≤ 256
  pub few_drops : given.deletions ≤ 64
  pub resolved : ResolvedIn l.added_records given decisions
  pub edits : List Edited
  pub carries : Carries l given.base marks edits
  pub unmarked : given.edits ≡ 0 → Unmarked marks
  pub plan_room : Roomy plan
  pub index_room : Rooms index
  pub records_room : 24576 ≤ length out_records
  pub names_room : 32768 ≤ length out_names

-- The base rebuilt by what was decided.
unfoldable pub rebuilt_tree : Trees → Given → (decisions : Decisions) → List Edited → (base : Forest Field) → Forest Field
rebuilt_tree l given decisions edits base =
    rebuilt id_of kind_of (row_ids (drops_in decisions) given.deletions)
    (mapped_all (planned_field l) (additions_in l.added_records given decisions)) none true (edited_tree edits base)

-- The records visited: those of the rebuilt tree, and the dropped members that are passed.
abbrev pub visited_in : Given → (decisions : Decisions) → (base tree : Forest Field) → ℕ
visited_in given decisions base tree =
    size tree + length (outermost id_of kind_of (row_ids (drops_in decisions) given.deletions) true base)

-- It is what is answered and written, with the edits that the marks carry.
pub record Ends (l : Trees) (identifiers : List ℕ) (given : Given) (decisions : Decisions) (marks out_records out_names : List ℕ) (r : Changed) (out_records' out_names' : List ℕ) : Type 0 where
  pub ends : (base : Forest Field) → decode 0 l.records l.pool ≡ ok base → (edits : List Edited) → Carries l given.base marks edits
      → Answers changes
      (limited_sounded (rebuilt_tree l given decisions edits base) (id_list identifiers) (turned given.last)
      (visited_in given decisions base (rebuilt_tree l given decisions edits base)))
      (for_records out_records ∷ for_names out_names ∷ []) r (out_records' ∷ out_names' ∷ [])
