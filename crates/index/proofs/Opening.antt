-- A base that passed 2 to 6 is a plan of itself (plan's `base_plan`), so its index answers for the tree that it decodes to. Of lent
-- bytes `read` of the paper is 2 to 6, then 7 and 8 with no identifiers. `search basing`, `search opening`, `search finding`.
use mathlib.Core.Path.{◌≡◌, refl, sym, ap, ◌∙◌}
use mathlib.Core.Bool.{Bool, true, false, true≢false}
use mathlib.Core.List.{List, []}
use Prim.Native.Nat.{ℕ, ◌*◌, ◌/◌, ◌≤◌}
use native.Mathlib.Omega.{arith}
use lib.ListN.{length}
use Rattle.paper.specs.Answer.{Answer, ok, refused, ◌>>=◌}
use Rattle.paper.specs.Bytes.{from}
use Rattle.paper.specs.Decode.{decode}
use Rattle.paper.specs.Entries.{read, find_name, find_id, find_parent}
use Rattle.paper.specs.Field.{Field}
use Rattle.paper.specs.Forest.{Forest}
use Rattle.paper.specs.Limits.{sized}
use Rattle.paper.specs.Lists.{id_list}
use Rattle.paper.specs.Refusals.{limited}
use Rattle.paper.specs.Rows.{look_name}
use Rattle.paper.specs.Sound.{sound}
use Rattle.record.specs.declared.Refusal.{Refusal}
use Rattle.record.specs.Answers.{Check, Found}
use Rattle.std.specs.Prelude.{Ok, Err}
use Rattle.record.specs.Says.{found_row, looked}
use Rattle.record.specs.Trees.{Trees, alone}
use Rattle.record.proofs.Testing.{refused_as, checked_ok, checked_refused}
use Rattle.laws.proofs.Basics.{refused≢ok, bind_is, bind_not, bind_assoc}
use Rattle.laws.proofs.Fitting.{sized_slots}
use Rattle.tree.specs.Answers.{Shaped}
use Rattle.tree.specs.Read.{fine}
use Rattle.tree.specs.Says.{decoded}
use Rattle.tree.specs.Only.{only_read}
use Rattle.tree.proofs.Deciding.{decode_refused, decode_ok}
use Rattle.plan.specs.Table.{PlanIn, fields_in, Roomy, TakenIn}
use Rattle.plan.proofs.Rooms.{copied_roomy}
use Rattle.plan.proofs.Taking.{Based, base_plan}
use Rattle.index.specs.Index.{Indexing, Index, Readable, BaseIndexed, ById, ByParent}
use Rattle.plan.specs.declared.PlanRows.{PlanRows}

-- ---- the base as a plan of itself

was_fine : (P : Type 0) (x : Answer (Forest Field)) → fine x ≡ true → ((t : Forest Field) → x ≡ ok t → P) → P
was_fine P (ok t) e f = f t refl
was_fine P (refused n l p) e f = absurd (true≢false (sym e))

module _ (l : Trees) (n : ℕ) (h : Readable l n) where
  pub base_bytes : n * 24 ≤ length l.records
  base_bytes = let e = h.count in omega arith

  pub base_few : n ≤ 1024
  base_few = rw h.count (sized_slots l.records l.pool h.limits).0

  module _ (old new : PlanRows) (room : Roomy old) (k : TakenIn l.records n old new) where
    based : (t : Forest Field) → decode 0 l.records l.pool ≡ ok t → Based l t new n
    based t e = base_plan 0 l t n old new h.limits e h.count room k

    pub base_planned : PlanIn l new n
    base_planned = was_fine _ (decode 0 l.records l.pool) h.decodes λ t e. (based t e).plan

    pub base_indexed : (identifiers : List ℕ) (r : Check) (index index' : List (List ℕ)) → Indexing l new n 0 identifiers r index index' → BaseIndexed l n identifiers r old new index'
    base_indexed identifiers r index index' x = was_fine _ (decode 0 l.records l.pool) h.decodes λ t e.
        record {
          taken = k;
          planned = base_planned;
          tree = e ∙ ap ok (sym (based t e).tree);
          answer = x.answer;
          indexed = x.index;
          roomy = copied_roomy 0 old new l.records 0 n k room;
          rooms = x.rooms;
        }

pub ruleset basing = (base_bytes, base_few, base_planned, base_indexed)

-- ---- 2 to 6

read_is : (s pool : List ℕ) → read s pool ≡ (only_read s pool >>= λ t. sound 0 t [] >>= λ _. ok t)
unfolding read only_read
read_is s pool = sym (bind_assoc (limited (sized s pool)) (λ _. decode 0 s pool) (λ t. sound 0 t [] >>= λ _. ok t))

-- What 2 to 6 told: a refusal of `read`, or a base that can be read.
module _ (s pool : List ℕ) (w : Shaped) (ew : w ≡ decoded (only_read s pool)) where
  pub unread : (x : Refusal) → w ≡ Err x → read s pool ≡ refused_as x
  unread x h = read_is s pool ∙ bind_not (only_read s pool) _ _ _ _ (decode_refused (only_read s pool) w x ew h)

  pub readable : (k : ℕ) → w ≡ Ok k → Readable (alone s pool) (length s / 24)
  unfolding only_read ◌>>=◌
  readable k ed = decode_ok _ (only_read s pool) w k ew ed λ t e _. go t (sized s pool) refl e
    where
      go : (t : Forest Field) (b : Bool) → sized s pool ≡ b → (limited b >>= λ _. decode 0 s pool) ≡ ok t → Readable (alone s pool) (length s / 24)
      go t true q h = record { limits = q; count = refl; decodes = rw h }
      go t false q h = absurd (refused≢ok h)

-- ---- 7 and 8 of a base that was read

-- The refusal of 2 to 8, or the plan of the tree that lent bytes hold, with its index.
pub record Opened (records pool : List ℕ) (r : Check) (plan : PlanRows) (m : ℕ) (index : List (List ℕ)) : Type 0 where
  pub refusal : (x : Refusal) → r ≡ Err x → read records pool ≡ refused_as x
  pub tree : r ≡ (Ok tt) → read records pool ≡ ok (fields_in (alone records pool) plan m)
  pub planned : r ≡ (Ok tt) → PlanIn (alone records pool) plan m
  pub indexed : r ≡ (Ok tt) → Index (alone records pool) plan m index

module _ (s pool : List ℕ) (w : Shaped) (ew : w ≡ decoded (only_read s pool)) (k : ℕ) (ed : w ≡ Ok k) where
  was_read : only_read s pool ≡ decode 0 s pool
  unfolding only_read ◌>>=◌
  was_read = rw (readable s pool w ew k ed).limits

  pub opened : (r : Check) (old plan : PlanRows) (index : List (List ℕ)) → BaseIndexed (alone s pool) (length s / 24) [] r old plan index → Opened s pool r plan (length s / 24) index
  unfolding id_list from
  opened r old plan index b =
      let u = fields_in (alone s pool) plan (length s / 24) in
      let whole : read s pool ≡ (sound 0 u [] >>= λ _. ok u) = read_is s pool ∙ bind_is (only_read s pool) _ u (was_read ∙ b.tree) in
      record {
        refusal = λ x q. whole ∙ bind_not (sound 0 u []) _ _ _ _ (checked_refused (sound 0 u []) r x b.answer q);
        tree = λ q. whole ∙ bind_is (sound 0 u []) _ tt (checked_ok (sound 0 u []) r b.answer q);
        planned = λ q. b.planned;
        indexed = b.indexed;
      }

pub test_refused : (s pool : List ℕ) (plan : PlanRows) (m : ℕ) (index : List (List ℕ)) (r : Check) → Opened s pool r plan m index → (y : Refusal) → r ≡ Err y → read s pool ≡ refused_as y
test_refused s pool plan m index r o = o.refusal

pub ruleset reading = (unread, test_refused)

-- ---- the entries

module _ (s pool : List ℕ) (y : Refusal) (e : read s pool ≡ refused_as y) where
  pub name_refused : (x : List ℕ) → Err y ≡ looked (find_name s pool x)
  unfolding find_name looked ◌>>=◌
  name_refused x = rw e

  pub id_refused : (i : ℕ) → Err y ≡ looked (find_id s pool i)
  unfolding find_id looked ◌>>=◌
  id_refused i = rw e

  pub parent_refused : (i : ℕ) → Err y ≡ looked (find_parent s pool i)
  unfolding find_parent looked ◌>>=◌
  parent_refused i = rw e

module _ (s pool : List ℕ) (plan : PlanRows) (m : ℕ) (index : List (List ℕ)) (r : Check) (o : Opened s pool r plan m index) (q : r ≡ (Ok tt)) (h : Found) where
  pub name_looked : (x : List ℕ) → h ≡ found_row (look_name (fields_in (alone s pool) plan m) x) → Ok h ≡ looked (find_name s pool x)
  unfolding find_name looked ◌>>=◌
  name_looked x e = rw (o.tree q, e)

  pub id_looked : (i : ℕ) → ById plan m i h → Ok h ≡ looked (find_id s pool i)
  unfolding find_id looked ◌>>=◌
  id_looked i e = rw (o.tree q, e.finds (alone s pool) (o.planned q))

  pub parent_looked : (i : ℕ) → ByParent plan index m i h → Ok h ≡ looked (find_parent s pool i)
  unfolding find_parent looked ◌>>=◌
  parent_looked i e = rw (o.tree q, e.finds (alone s pool) (o.planned q) (o.indexed q).raised)

pub ruleset finding = (reading, name_refused, id_refused, parent_refused, name_looked, id_looked, parent_looked)
