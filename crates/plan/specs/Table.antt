-- A plan as one table: its three rows by their names, and what is said of a plan, said of its table.
use Rattle.std.specs.Prelude.{ℕ, ◌≡◌, List, map, length, set, replicate}
use Rattle.std.proofs.lemmas.List.Edits.{sets}
use Rattle.paper.specs.Forest.{Forest, preorder, counts}
use Rattle.paper.specs.Field.{Field}
use Rattle.paper.specs.Bytes.{kids_at, from}
use Rattle.tree.specs.Read.{itself}
use Rattle.record.specs.Trees.{Trees}
use Rattle.plan.specs.Plan.{Source, slot_of, bits_of, Plan, plan_fields}
use Rattle.plan.specs.Draft.{Draft}
use Rattle.plan.specs.Sources.{id_bits, Inside}
use Rattle.plan.specs.declared.PlanRows.{PlanRows}

abbrev pub sources : PlanRows → List ℕ
sources plan = plan.sources

abbrev pub numbers : PlanRows → List ℕ
numbers plan = plan.numbers

abbrev pub members : PlanRows → List ℕ
members plan = plan.members

-- Three rows of 1,024 numbers.
pub record Roomy (plan : PlanRows) : Type 0 where
  pub sources_room : length (sources plan) ≡ 1024
  pub numbers_room : length (numbers plan) ≡ 1024
  pub members_room : length (members plan) ≡ 1024

-- Rows of zeros.
unfoldable pub no_rows : PlanRows
no_rows =
    record {
      sources = replicate 1024 0;
      numbers = replicate 1024 0;
      members = replicate 1024 0;
    }

abbrev pub PlanIn : Trees → (plan : PlanRows) (m : ℕ) → Type 0
PlanIn l plan m = Plan l (sources plan) (numbers plan) (members plan) m

abbrev pub DraftIn : Trees → (plan : PlanRows) (m : ℕ) → Type 0
DraftIn l plan m = Draft l (sources plan) (numbers plan) (members plan) m

abbrev pub fields_in : Trees → (plan : PlanRows) (m : ℕ) → Forest Field
fields_in l plan m = plan_fields l (sources plan) (numbers plan) (members plan) m

abbrev pub InsideIn : Trees → (plan : PlanRows) (m : ℕ) → Type 0
InsideIn l plan m = Inside l.records l.added_records l.edits (sources plan) m

-- One record was planned at a place.
abbrev pub planned_at : (plan : PlanRows) (at source id kids : ℕ) → PlanRows
planned_at plan at source id kids =
    record {
      sources = set (sources plan) at source;
      numbers = set (numbers plan) at id;
      members = set (members plan) at kids;
    }

-- The records of t stand in the table from place i on, and the rest is as it was.
pub record LaidIn (t : Forest Source) (i : ℕ) (plan plan' : PlanRows) : Type 0 where
  pub sources_set : sources plan' ≡ sets (sources plan) i (map slot_of (preorder t))
  pub numbers_set : numbers plan' ≡ sets (numbers plan) i (map bits_of (preorder t))
  pub members_set : members plan' ≡ sets (members plan) i (counts t)

-- The n records of a list from slot k on stand in the table from place i on, each as its own source, and the rest is as it was.
pub record CopiedIn (records : List ℕ) (k n : ℕ) (plan : PlanRows) (i : ℕ) (plan' : PlanRows) : Type 0 where
  pub sources_set : sources plan' ≡ sets (sources plan) i (from itself k n)
  pub numbers_set : numbers plan' ≡ sets (numbers plan) i (from (id_bits records) k n)
  pub members_set : members plan' ≡ sets (members plan) i (from (kids_at records) k n)

-- The n records of a list stand in the table as a plan of themselves.
abbrev pub TakenIn : (records : List ℕ) (n : ℕ) (plan plan' : PlanRows) → Type 0
TakenIn records n plan plan' = CopiedIn records 0 n plan 0 plan'
