-- Without edits an update that names a known version answers what it answered before 02, 5/13: no other step of it asks or
-- changes more. Only how many records it visits is new.
use Prim.Native.Nat.{ℕ}
use mathlib.Core.Path.{◌≡◌, refl, ap, ◌∙◌}
use mathlib.Core.Bool.{Bool, true, ◌&&◌, and-true}
use mathlib.Core.List.{List, []}
use mathlib.Core.Option.{Option}
use lib.Dec.{eqb}
use lib.ListN.{length}
use Rattle.paper.specs.Answer.{Answer, ok, refused, ◌>>=◌}
use Rattle.paper.specs.Refusals.{roomy, limited, versioned, matched}
use Rattle.paper.specs.Forest.{siblings}
use Rattle.paper.specs.Sound.{sound}
use Rattle.paper.specs.Edits.{edited_all}
use Rattle.paper.specs.Update.{Request, Schema, deleted, placed_all, planned}
use Rattle.paper.specs.Rebuild.{carried_out, update}
use Rattle.paper.specs.Bytes.{turned, from}
use Rattle.paper.specs.Promotions.{known_version}
use Rattle.paper.specs.Lists.{ok_deletion, ok_addition, path_in, ok_edit, edit_in, entries_ok, edit_list}
use Rattle.paper.specs.Decode.{decode}
use Rattle.paper.specs.Limits.{room, whole, sized, sized_ids, sized_update}
use Rattle.paper.specs.Lent.{Stored, Lent}
use Rattle.paper.specs.Entries.{Result, schema_in, request_in, update_entry}
use Rattle.laws.proofs.Basics.{bind_is}
use Rattle.theorems.specs.Before as Before
use Rattle.theorems.specs.Before.{request_before, lent_before, result_before}
use Rattle.theorems.proofs.Passing.{unedited, nothing_edited}

-- Steps that are one, and steps after which all goes the same way.
then_same : {A : Type 0} (x : Answer A) (f : A → Answer Result) (g : A → Answer Before.Result)
    → ((a : A) → result_before (f a) ≡ g a) → result_before (x >>= f) ≡ (x >>= g)
unfolding ◌>>=◌
then_same (ok a) f g h = h a
then_same (refused n l p) f g h = refl

both_then : {A P Q B : Type 0} (x : Answer A) (f : A → Answer P) (f' : A → Answer Q) (g : P → Answer B) (g' : Q → Answer B)
    → ((a : A) → (f a >>= g) ≡ (f' a >>= g')) → ((x >>= f) >>= g) ≡ ((x >>= f') >>= g')
unfolding ◌>>=◌
both_then (ok a) f f' g g' h = h a
both_then (refused n l p) f f' g g' h = refl

unchanged : (s : Schema) (q : Request) (ds : List ℕ) (parents : List (Option ℕ)) (last : ℕ)
    → q.edits ≡ []
    → ((edited_all s.tree ds 0 [] q.edits >>= λ es. ok (record { dropped = ds; parents = parents; last = last; edits = es }))
    >>= carried_out s q)
    ≡ (ok (record { dropped = ds; parents = parents; last = last }) >>= Before.carried_out s (request_before q))
unfolding edited_all carried_out Before.carried_out ◌>>=◌
unchanged s q ds parents last e = rw (e, unedited s.tree)

no_edits : (v : ℕ) (pool : List ℕ) → edit_list v pool [] ≡ []
unfolding edit_list from
no_edits v pool = refl

pub as_before : (s : Schema) (q : Request) → q.edits ≡ [] → update s q ≡ Before.update s (request_before q)
unfolding update planned Before.update Before.planned
as_before s q e =
    both_then (sound 0 s.tree q.identifiers) _ _ _ _ λ _.
    both_then (matched (eqb (siblings q.added) (length q.additions))) _ _ _ _ λ _.
    both_then (deleted s.tree q.identifiers 0 q.deletions) _ _ _ _ λ ds.
    both_then (placed_all s.tree ds s.last 0 q.additions q.added) _ _ _ _ λ a.
    unchanged s q ds a.parents a.last e

-- ---- over bytes

sized_before : (s : Stored) (q : Lent) → q.edits ≡ [] → sized_update s q ≡ Before.sized_update s (lent_before q)
unfolding sized_update Before.sized_update whole
sized_before s q e =
    let lists = whole 8 64 q.deletions && whole 8 64 q.additions in
    rw e
    (ap (λ (b : Bool). sized_ids 64 s.records s.pool q.identifiers && (b && sized q.added_records q.request_pool))
    (and-true lists))

pub as_before_stored : (s : Stored) (q : Lent) → known_version q.version ≡ true → q.edits ≡ []
    → result_before (update_entry s q) ≡ Before.update_entry s (lent_before q)
unfolding update_entry Before.update_entry
as_before_stored s q known e =
    then_same (roomy (room q.room_records q.room_names)) _ _ λ _.
    rw (sized_before s q e)
    (then_same (limited (Before.sized_update s (lent_before q))) _ _ λ _.
    ap result_before (bind_is (versioned (known_version q.version)) _ (tt {0}) (rw known))
    ∙
    then_same (decode 0 s.records s.pool) _ _ λ t.
    then_same (decode 1 q.added_records q.request_pool) _ _ λ n.
    then_same (entries_ok 2 8 ok_deletion path_in q.deletions q.request_pool) _ _ λ _.
    then_same (entries_ok 3 8 ok_addition path_in q.additions q.request_pool) _ _ λ _.
    ap result_before
    (bind_is (entries_ok 6 16 ok_edit edit_in q.edits q.request_pool) _ (tt {0}) (rw e (nothing_edited q.request_pool)))
    ∙ then_same (update (schema_in s t) (request_in q n)) _ _ (λ _. refl)
    ∙ ap (λ (a : Answer Schema). a >>= λ u. ok (record { tree = u.tree; identifiers = []; last = turned u.last }))
    (as_before (schema_in s t) (request_in q n) (rw e (no_edits q.version q.request_pool))))
