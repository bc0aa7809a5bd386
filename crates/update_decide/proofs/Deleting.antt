-- A deletion: the look-up's id is the row's, and the set gets it.
use Prim.Native.Nat.{ℕ, ◌+◌, ◌-◌, ◌/◌, ◌<◌, ◌≤◌}
use mathlib.Core.Path.{◌≡◌, refl, sym, ap, ◌∙◌}
use mathlib.Core.Bool.{Bool, true, false, ◌||◌}
use mathlib.Core.List.{List}
use mathlib.Core.Option.{Option, none, some}
use native.Mathlib.Omega.{arith}
use borrow.Author.Tests.{eq-eqb, ne_eqb}
use lib.Dec.{eqb}
use lib.ListN.{length}
use Rattle.paper.specs.Answer.{◌>>=◌, among}
use Rattle.paper.specs.Rows.{Row}
use Rattle.paper.specs.Bytes.{turned, from}
use Rattle.paper.specs.Lists.{id_at, id_list}
use Rattle.laws.proofs.Words.{turned_twice}
use Rattle.laws.proofs.Runs.{from_step, from_done, from_all}
use Rattle.record.specs.declared.FieldId.{FieldId}
use Rattle.record.specs.declared.Slot.{Slot}
use Rattle.record.specs.Answers.{Found}
use Rattle.std.specs.Prelude.{Ok, Err, Some, None}
use Rattle.record.specs.Says.{found_row, refusal_of}
use Rattle.update_decide.specs.Entry.{Known, dropped_id, drops, Deleted}

-- ---- the identifiers

pub record Seeking (s : List ℕ) (n x i : ℕ) : Type 0 where
  pub within : i ≤ n
  pub same : among x (id_list s) ≡ among x (from (id_at s) i (n - i))

pub seek_starts : (s : List ℕ) (x : ℕ) → Seeking s (length s / 4) x 0
unfolding id_list
seek_starts s x = record { within = omega arith; same = ap (λ (l : List ℕ). among x l) (sym (from_all (id_at s) (length s / 4))) }

module _ (s : List ℕ) (n b i : ℕ) (H : Seeking s n (turned b) i) where
  pub seek_ends : n ≤ i → false ≡ among (turned b) (id_list s)
  seek_ends l = sym (H.same ∙ ap (λ (z : List ℕ). among (turned b) z) (from_done (id_at s) i n l))

  step : i < n → among (turned b) (id_list s) ≡ (eqb (turned b) (id_at s i) || among (turned b) (from (id_at s) (i + 1) (n - (i + 1))))
  step l = H.same ∙ ap (λ (z : List ℕ). among (turned b) z) (from_step (id_at s) i n l)

  pub seek_found : (a : ℕ) → i < n → id_at s i ≡ turned a → b ≡ a → true ≡ among (turned b) (id_list s)
  seek_found a l e f = sym (step l ∙ ap (λ (z : Bool). z || among (turned b) (from (id_at s) (i + 1) (n - (i + 1)))) (eq-eqb (turned b) (id_at s i) (ap turned f ∙ sym e)))

  pub seek_goes : (a : ℕ) → i < n → b < 4294967296 → a < 4294967296 → id_at s i ≡ turned a → (b ≡ a → ⊥) → Seeking s n (turned b) (i + 1)
  seek_goes a l hb ha e f =
      record {
        within = omega arith;
        same = step l ∙ ap (λ (z : Bool). z || among (turned b) (from (id_at s) (i + 1) (n - (i + 1)))) (ne_eqb (turned b) (id_at s i) (λ q. f (sym (turned_twice b hb) ∙ ap turned (q ∙ e) ∙ turned_twice a ha)));
      }

-- ---- one deletion

known : (r : Row) → Known (some r) → r.field.id < 4294967296
unfolding Known
known r h = h

found_is : (x : FieldId) (k : Slot) (r : Row) → Some (x, k) ≡ found_row (some r) → x.0 ≡ turned r.field.id
unfolding found_row
found_is x k r e =
    let p : (x, k) ≡ (record { 0 = turned r.field.id }, record { 0 = r.slot }) = cc in
    ap (λ (q : FieldId × Slot). q.0.0) p

pub at_none : (x : FieldId) (k : Slot) → Some (x, k) ≡ found_row none → ⊥
unfolding found_row
at_none x k e = let z : ◌≡◌ {A = ℕ} 0 1 = cc in omega arith

pub nothing_some : (r : Row) → None ≡ found_row (some r) → ⊥
unfolding found_row
nothing_some r e = let z : ◌≡◌ {A = ℕ} 0 1 = cc in omega arith

pub drop_nothing : (f : Found) (ids : List ℕ) (k : ℕ) → f ≡ None → Deleted f ids k (Err (refusal_of 11 2 k))
unfolding dropped_id ◌>>=◌ drops
drop_nothing f ids k e = record { says = λ o. go o }
  where
    go : (o : Option Row) → Known o → f ≡ found_row o → Err (refusal_of 11 2 k) ≡ drops (dropped_id o ids k)
    go none h q = refl
    go (some r) h q = absurd (nothing_some r (sym e ∙ q))

pub id_back : (f : Found) (x : FieldId) (p : Slot) (r : Row) → f ≡ Some (x, p) → Known (some r) → f ≡ found_row (some r) → turned x.0 ≡ r.field.id
id_back f x p r e h q = ap turned (found_is x p r (sym e ∙ q)) ∙ turned_twice r.field.id (known r h)

module _ (f : Found) (ids : List ℕ) (k : ℕ) (x : FieldId) (p : Slot) (b : Bool) (e : f ≡ Some (x, p)) (eb : b ≡ among (turned x.0) ids) where
  asked : (r : Row) → Known (some r) → f ≡ found_row (some r) → among r.field.id ids ≡ b
  asked r h q = ap (λ (z : ℕ). among z ids) (sym (id_back f x p r e h q)) ∙ sym eb

  pub drop_identifier : b ≡ true → Deleted f ids k (Err (refusal_of 12 2 k))
  unfolding dropped_id ◌>>=◌ drops
  drop_identifier t = record { says = λ o. go o }
    where
      go : (o : Option Row) → Known o → f ≡ found_row o → Err (refusal_of 12 2 k) ≡ drops (dropped_id o ids k)
      go none h q = absurd (at_none x p (sym e ∙ q))
      go (some r) h q = rw (asked r h q, t)

  pub drop_goes : b ≡ false → Deleted f ids k (Ok x)
  unfolding dropped_id ◌>>=◌ drops
  drop_goes t = record { says = λ o. go o }
    where
      go : (o : Option Row) → Known o → f ≡ found_row o → Ok x ≡ drops (dropped_id o ids k)
      go none h q = absurd (at_none x p (sym e ∙ q))
      go (some r) h q = rw (asked r h q, t, ← (found_is x p r (sym e ∙ q)))

pub ruleset seeking = (seek_starts, seek_ends, seek_found, seek_goes)

pub ruleset deleting = (drop_nothing, drop_identifier, drop_goes)
