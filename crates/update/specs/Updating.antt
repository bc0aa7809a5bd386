-- The parts of an update between its bytes: what passed 1 to 9, and what is decided of it before the rebuild.
use Rattle.std.specs.Prelude.{ℕ, ◌<◌, ◌≡◌, true, List}
use Rattle.paper.specs.Answer.{Answer, ok, refused}
use Rattle.paper.specs.Forest.{Forest, siblings}
use Rattle.paper.specs.Field.{Field, with_id}
use Rattle.paper.specs.Bytes.{slots}
use Rattle.paper.specs.Decode.{decode}
use Rattle.paper.specs.Lists.{entries, id_list}
use Rattle.paper.specs.Limits.{sized_update}
use Rattle.paper.specs.Sound.{sound}
use Rattle.paper.specs.Edits.{Edited}
use Rattle.paper.specs.Update.{Plan, schema, planned}
use Rattle.paper.specs.Rebuild.{arrivals}
use Rattle.paper.specs.Entries.{request_in}
use Rattle.laws.proofs.Natural.{mapped_all}
use Rattle.record.specs.declared.Refusal.{Refusal}
use Rattle.record.specs.Trees.{Trees, Lists, stored_in, lent_in}
use Rattle.plan.specs.Plan.{planned_field}
use Rattle.plan.specs.Table.{PlanIn, fields_in}
use Rattle.index.specs.Index.{Index}
use Rattle.update_edits.specs.Marks.{Unmarked, Carries}
use Rattle.update_rebuild.specs.declared.Given.{Given}
use Rattle.update_rebuild.specs.Planned.{drops_in, unders_in, ResolvedIn, additions_in, DecisionsRoom}
use Rattle.update_request.specs.Opened.{both_trees, readable}
use Rattle.update_schema.specs.Answers.{Decided}
use Rattle.std.specs.Prelude.{Ok, Err}
use Rattle.update_dropped.specs.Gathered.{row_ids}
use Rattle.update_schema.specs.Additions.{parents_in}
use Rattle.plan.specs.declared.PlanRows.{PlanRows}
use Rattle.update_rebuild.specs.declared.Decisions.{Decisions}

-- How much is lent, the last id, and the format version.
abbrev pub given_in : Trees → Lists → (last version : ℕ) → Given
given_in l lists last version =
    record {
      base = slots l.records;
      added = slots l.added_records;
      deletions = entries 8 lists.deletions;
      additions = entries 8 lists.additions;
      edits = entries 16 l.edits;
      last = last;
      version = version;
    }

-- What is lent passed 2 to 6 as these two trees.
pub record Passed (l : Trees) (lists : Lists) : Type 0 where
  pub base : Forest Field
  pub added : Forest Field
  pub limits : (last version room_records room_names : ℕ)
      → sized_update (stored_in l last) (lent_in l lists version room_records room_names) ≡ true
  pub read : readable l lists ≡ ok (both_trees base added)

-- The base, as a plan of itself, passed 7 to 9; so many columns are added; there is room for what is decided, and no mark yet.
pub record Decidable (l : Trees) (lists : Lists) (last columns : ℕ) (plan : PlanRows) (index : List (List ℕ)) (decisions : Decisions) (marks : List ℕ) : Type 0 where
  pub passed : Passed l lists
  pub count : columns ≡ siblings passed.added
  pub low : last < 4294967296
  pub is_plan : PlanIn l plan (slots l.records)
  pub tree : decode 0 l.records l.pool ≡ ok (fields_in l plan (slots l.records))
  pub is_sound : sound 0 (fields_in l plan (slots l.records)) (id_list lists.identifiers) ≡ ok tt
  pub has_index : Index l plan (slots l.records) index
  pub room : DecisionsRoom decisions
  pub unmarked : Unmarked marks

-- What the paper's `planned` says of the trees that were read.
abbrev pub planned_in : Trees → Lists → (last version : ℕ) (base added : Forest Field) → Answer Plan
planned_in l lists last version base added = planned (schema base last) (request_in (lent_in l lists version 0 0) added)

-- The paper's plan is in the decisions and the marks: the dropped ids, the places, the trees that arrive, and the edits.
pub record Settled (l : Trees) (lists : Lists) (last version : ℕ) (base added : Forest Field) (decisions : Decisions) (marks : List ℕ) (consumed : ℕ) : Type 0 where
  pub edits : List Edited
  pub is : planned_in l lists last version base added
      ≡ ok (record {
        dropped = row_ids (drops_in decisions) (entries 8 lists.deletions);
        parents = parents_in (unders_in decisions) (entries 8 lists.additions);
        last = consumed;
        edits = edits;
      })
  pub carries : Carries l (slots l.records) marks edits
  pub most : consumed < 4294967296
  pub resolved : ResolvedIn l.added_records (given_in l lists last version) decisions
  pub arrive : mapped_all (planned_field l) (additions_in l.added_records (given_in l lists last version) decisions)
      ≡ arrivals with_id last (parents_in (unders_in decisions) (entries 8 lists.additions)) added

-- The base's 7 to 9 were passed, so this is 10 to 18 and 22, then 23, 24, 13 and 26 of the edits.
pub record Settles (l : Trees) (lists : Lists) (last version : ℕ) (r : Decided) (decisions : Decisions) (marks : List ℕ) : Type 0 where
  pub accepted : (base added : Forest Field) → readable l lists ≡ ok (both_trees base added) → (consumed : ℕ) → r ≡ Ok consumed
      → Settled l lists last version base added decisions marks consumed
  pub unmarked : entries 16 l.edits ≡ 0 → Unmarked marks
  pub refusal : (base added : Forest Field) → readable l lists ≡ ok (both_trees base added) → (x : Refusal) → r ≡ Err x
      → planned_in l lists last version base added ≡ refused x.number x.list x.place
