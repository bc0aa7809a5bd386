-- One deletion and one addition, as the paper decides them once the look-up has answered.
use Rattle.std.specs.Prelude.{ℕ, suc, ◌+◌, ◌<◌, ◌≡◌, Bool, true, not, ◌&&◌, cond, List, eqb, ltb, length}
use Rattle.std.proofs.Math.Option.{Option, none, some}
use Rattle.paper.specs.Answer.{Answer, ok, refused, ◌>>=◌, ◌>>◌, among, lowest}
use Rattle.paper.specs.Refusals.{found_column, no_identifier, dotless, fillable, found_parent, found_struct, standing, free_name}
use Rattle.paper.specs.Forest.{Forest}
use Rattle.paper.specs.Field.{Field, highest}
use Rattle.paper.specs.Rows.{Row}
use Rattle.paper.specs.Bytes.{turned, rec_at, name_of, in_pool, ok_bytes}
use Rattle.paper.specs.Decode.{fields}
use Rattle.paper.specs.Gone.{gone_columns}
use Rattle.paper.specs.Update.{root_taken, member_taken, receiver}
use Rattle.record.specs.declared.FieldId.{FieldId}
use Rattle.record.specs.declared.Slot.{Slot}
use Rattle.record.specs.Answers.{Found}
use Rattle.std.specs.Prelude.{Ok, Err, Some, None}
use Rattle.record.specs.Says.{refusal_of, found_row}
use Rattle.tree.specs.Read.{Standing}
use Rattle.update_gone.specs.Gone.{base_slots, slot_id, ids_gone}
use Rattle.update_parents.specs.Target.{members_at, Stands}
use Rattle.update_decide.specs.Answers.{Dropping, Going, Fresh}

-- The id of a row has 32 bits.
unfoldable pub Known : Option Row → Type 0
Known none = Unit {0}
Known (some r) = r.field.id < 4294967296

-- ---- a deletion: 11 finds no column, 12 finds an identifier

unfoldable pub dropped_id : Option Row → (identifiers : List ℕ) → (k : ℕ) → Answer ℕ
dropped_id o identifiers k = do
  r ← found_column k o
  no_identifier k (among r.field.id identifiers)
  ok r.field.id

unfoldable pub drops : Answer ℕ → Dropping
drops (ok i) = Ok (record { 0 = turned i })
drops (refused n l p) = Err (refusal_of n l p)

pub record Deleted (f : Found) (identifiers : List ℕ) (k : ℕ) (r : Dropping) : Type 0 where
  pub says : (o : Option Row) → Known o → f ≡ found_row o → r ≡ drops (dropped_id o identifiers k)

-- ---- an addition

-- 13 and 14 of the added column at a slot
unfoldable pub unbarred : (pool records : List ℕ) (slot k : ℕ) → Answer (Unit {0})
unbarred pool records slot k = do
  dotless 3 k (among 46 (name_of pool records slot))
  fillable k (eqb (rec_at records slot).flags 1)

unfoldable pub goes : Answer (Option ℕ) → Going
goes (ok none) = Ok None
goes (ok (some i)) = Ok (Some (turned i))
goes (refused n l p) = Err (refusal_of n l p)

-- 17 at the root
unfoldable pub root_place : Option Row → (dropped : List ℕ) → (k : ℕ) → Answer (Option ℕ)
root_place o dropped k = do
  free_name k (root_taken o dropped)
  ok none

pub record AtRoot (f : Found) (dropped : List ℕ) (k : ℕ) (r : Going) : Type 0 where
  pub says : (o : Option Row) → Known o → f ≡ found_row o → r ≡ goes (root_place o dropped k)

-- Whether a name is taken in the struct at a slot
unfoldable pub taken_at : (pool records : List ℕ) (n slot : ℕ) (dropped x : List ℕ) → Bool
taken_at pool records n slot dropped x = not (among (slot_id records slot) dropped) && member_taken (members_at pool records n slot) x dropped

-- 22, then 17, under the struct at a slot
unfoldable pub under_place : (pool records : List ℕ) (n slot : ℕ) (dropped : List ℕ) (k : ℕ) (x : List ℕ) → Answer (Option ℕ)
under_place pool records n slot dropped k x = do
  standing k (among (slot_id records slot) (ids_gone records n dropped))
  free_name k (taken_at pool records n slot dropped x)
  ok (some (slot_id records slot))

-- A record at a slot, in a list whose names are in their pool.
pub record Sited (pool records : List ℕ) (n slot : ℕ) : Type 0 where
  pub stands : Standing 0 records n 15 slot
  pub named : lowest (in_pool (length pool) records) 0 n ≡ none

-- 15 the path finds nothing, 16 leads to no struct, 22 to one that goes, then 17
unfoldable pub parent_place : Forest Field → Option Row → (dropped : List ℕ) → (k : ℕ) → (x : List ℕ) → Answer (Option ℕ)
parent_place tree o dropped k x = do
  r ← found_parent k o
  struct ← found_struct k (receiver r.field r.inside r.field.kind)
  standing k (among struct.id (gone_columns dropped tree))
  free_name k (not (among struct.id dropped) && member_taken struct.members x dropped)
  ok (some struct.id)

-- What was found is a record of the list, and its bytes are in order.
pub record FoundSited (pool records : List ℕ) (n : ℕ) (f : Found) : Type 0 where
  pub at : (x : FieldId) (p : Slot) → f ≡ Some (x, p) → Sited pool records n p.0 × (ok_bytes records p.0 ≡ true)

pub record UnderParent (f : Found) (pool records : List ℕ) (n : ℕ) (dropped : List ℕ) (k : ℕ) (x : List ℕ) (r : Going) : Type 0 where
  pub says : (o : Option Row) → ((row : Row) → o ≡ some row → Stands pool records n row) → f ≡ found_row o → r ≡ goes (parent_place (fields pool records (base_slots records n)) o dropped k x)

-- 18; ids from last + 1 on
unfoldable pub freshly : (last records k : ℕ) → Fresh
freshly last records k = cond (ltb highest (last + records)) (Err (refusal_of 18 3 k)) (Ok ((turned (suc last)), (last + records)))
