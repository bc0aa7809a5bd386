-- An addition: its own name and flags, the place that it goes to, its ids.
use Prim.Native.Nat.{ℕ, ◌+◌, ◌<◌, ◌≤◌}
use mathlib.Core.Path.{◌≡◌, refl, sym, ap, ◌∙◌}
use mathlib.Core.Bool.{Bool, true, false}
use mathlib.Core.List.{List}
use mathlib.Core.Option.{Option, none, some}
use native.Mathlib.Numerals.{add-one}
use borrow.Author.Tests.{eq-eqb, ne_eqb, lt-ltb, le-ltb}
use Rattle.paper.specs.Answer.{◌>>=◌, among}
use Rattle.paper.specs.Rows.{Row}
use Rattle.paper.specs.Bytes.{turned, rec_at, name_of}
use Rattle.laws.proofs.Words.{turned_twice}
use Rattle.record.specs.declared.FieldId.{FieldId}
use Rattle.record.specs.declared.Slot.{Slot}
use Rattle.std.specs.Prelude.{Ok, Err, Some, None}
use Rattle.record.specs.Answers.{Found}
use Rattle.record.specs.Says.{found_row, refusal_of, checked}
use Rattle.update_gone.specs.Gone.{slot_id, ids_gone}
use Rattle.update_decide.specs.Answers.{Going}
use Rattle.update_decide.specs.Entry.{Known, unbarred, goes, root_place, AtRoot, taken_at, under_place, freshly}
use Rattle.update_decide.proofs.Deleting.{at_none, nothing_some, id_back}

-- ---- 13 and 14

module _ (pool s : List ℕ) (k p : ℕ) (y : List ℕ) (b : Bool) (ey : y ≡ name_of pool s k) (eb : b ≡ among 46 y) where
  dot : among 46 (name_of pool s k) ≡ b
  dot = ap (λ (z : List ℕ). among 46 z) (sym ey) ∙ sym eb

  pub added_dot : b ≡ true → Err (refusal_of 13 3 p) ≡ checked (unbarred pool s k p)
  unfolding unbarred ◌>>=◌ checked
  added_dot q = rw (dot, q)

  module _ (q : b ≡ false) where
    pub added_required : (f : ℕ) → f ≡ (rec_at s k).flags → f ≡ 1 → Err (refusal_of 14 3 p) ≡ checked (unbarred pool s k p)
    unfolding unbarred ◌>>=◌ checked
    added_required f e g = rw (dot, q, ← e, eq-eqb f 1 g)

    pub added_fine : (f : ℕ) → f ≡ (rec_at s k).flags → (f ≡ 1 → ⊥) → (Ok tt) ≡ checked (unbarred pool s k p)
    unfolding unbarred ◌>>=◌ checked
    added_fine f e g = rw (dot, q, ← e, ne_eqb f 1 g)

pub ruleset adding = (added_dot, added_required, added_fine)

-- ---- at the root

pub root_free : (f : Found) (ds : List ℕ) (k : ℕ) → f ≡ None → AtRoot f ds k (Ok None)
unfolding root_place ◌>>=◌ goes
root_free f ds k e = record { says = λ o. go o }
  where
    go : (o : Option Row) → Known o → f ≡ found_row o → ◌≡◌ {A = Going} (Ok None) (goes (root_place o ds k))
    go none h q = refl
    go (some r) h q = absurd (nothing_some r (sym e ∙ q))

module _ (f : Found) (ds : List ℕ) (k : ℕ) (x : FieldId) (p : Slot) (b : Bool) (e : f ≡ Some (x, p)) (eb : b ≡ among (turned x.0) ds) where
  asked : (r : Row) → Known (some r) → f ≡ found_row (some r) → among r.field.id ds ≡ b
  asked r h q = ap (λ (z : ℕ). among z ds) (sym (id_back f x p r e h q)) ∙ sym eb

  pub root_dropped : b ≡ true → AtRoot f ds k (Ok None)
  unfolding root_place ◌>>=◌ goes
  root_dropped t = record { says = λ o. go o }
    where
      go : (o : Option Row) → Known o → f ≡ found_row o → ◌≡◌ {A = Going} (Ok None) (goes (root_place o ds k))
      go none h q = absurd (at_none x p (sym e ∙ q))
      go (some r) h q = rw (asked r h q, t)

  pub root_stands : b ≡ false → AtRoot f ds k (Err (refusal_of 17 3 k))
  unfolding root_place ◌>>=◌ goes
  root_stands t = record { says = λ o. go o }
    where
      go : (o : Option Row) → Known o → f ≡ found_row o → Err (refusal_of 17 3 k) ≡ goes (root_place o ds k)
      go none h q = absurd (at_none x p (sym e ∙ q))
      go (some r) h q = rw (asked r h q, t)

pub ruleset rooting = (root_free, root_dropped, root_stands)

-- ---- under a struct

module _ (pool s : List ℕ) (n slot : ℕ) (ds : List ℕ) (k : ℕ) (x : List ℕ) (b : Bool) (eb : b ≡ among (slot_id s slot) (ids_gone s n ds)) where
  pub under_gone : b ≡ true → Err (refusal_of 22 3 k) ≡ goes (under_place pool s n slot ds k x)
  unfolding under_place ◌>>=◌ goes
  under_gone t = rw (← eb, t)

  module _ (t : b ≡ false) (g : Bool) (eg : g ≡ taken_at pool s n slot ds x) where
    pub under_taken : g ≡ true → Err (refusal_of 17 3 k) ≡ goes (under_place pool s n slot ds k x)
    unfolding under_place ◌>>=◌ goes
    under_taken q = rw (← eb, t, ← eg, q)

    pub under_free : (i : ℕ) → g ≡ false → i ≡ (rec_at s slot).id → i < 4294967296 → ◌≡◌ {A = Going} (Ok (Some i)) (goes (under_place pool s n slot ds k x))
    unfolding under_place ◌>>=◌ goes
    under_free i q ei hi = rw (← eb, t, ← eg, q, ← ei, turned_twice i hi)

pub ruleset joining = (under_gone, under_taken, under_free)

-- ---- 18

pub fresh_over : (last m k : ℕ) → 4294967295 < last + m → Err (refusal_of 18 3 k) ≡ freshly last m k
unfolding freshly
fresh_over last m k h = rw (lt-ltb 4294967295 (last + m) h)

pub fresh_ids : (last m k start : ℕ) → last + m ≤ 4294967295 → start ≡ turned (last + 1) → Ok (start, (last + m)) ≡ freshly last m k
unfolding freshly
fresh_ids last m k start h e = rw (le-ltb 4294967295 (last + m) h, e, add-one last)

pub ruleset assigning = (fresh_over, fresh_ids)
