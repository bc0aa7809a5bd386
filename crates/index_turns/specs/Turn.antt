-- What a walk that looks for a name carries, and what it meets at a record, over slots.
use Rattle.std.specs.Prelude.{ℕ, ◌+◌, ◌≡◌, Bool, true, false, ◌&&◌, cond, List, [], ◌∷◌, ◌++◌, eqb, ltb, length, drop}
use Rattle.std.proofs.Math.Option.{Option, none, some}
use Rattle.paper.specs.declared.Role.{Role}
use Rattle.paper.specs.Answer.{same}
use Rattle.paper.specs.Field.{first}
use Rattle.paper.specs.Folded.{folded}
use Rattle.paper.specs.Rows.{skipped}
use Rattle.std.specs.Prelude.{Some, None}
use Rattle.record.specs.Answers.{FoundSlot}
use Rattle.record.specs.Trees.{Trees}
use Rattle.plan.specs.Named.{names_in, kinds_in}
use Rattle.index_turns.specs.declared.Fit.{Fit}
use Rattle.index_turns.specs.declared.Fit.TheVariants.{Whole, Prefix, Neither}
use Rattle.index_turns.specs.declared.Inside.{Inside}
use Rattle.plan.specs.declared.PlanRows.{PlanRows}

-- A name as it is compared: as it is, or folded.
unfoldable pub spelt : (folding : Bool) → List ℕ → List ℕ
spelt true x = folded x
spelt false x = x

-- What is left of x behind p, if x begins with p.
abbrev pub strip : List ℕ → List ℕ → Option (List ℕ)
strip [] x = some x
strip (a ∷ p) [] = none
strip (a ∷ p) (b ∷ x) = cond (eqb a b) (strip p x) none

abbrev pub then_strip : Option (List ℕ) → List ℕ → Option (List ℕ)
then_strip none q = none
then_strip (some z) q = strip q z

abbrev pub left_is : Option (List ℕ) → List ℕ → Bool
left_is none y = false
left_is (some z) y = same y z

-- What is left of x from a position on; a position behind its end leaves nothing to look for.
unfoldable pub left_at : List ℕ → ℕ → Option (List ℕ)
left_at x pos = cond (ltb (length x) pos) none (some (drop pos x))

-- A name against what is left: 1 where it is that, 2 where it and a dot begin it, else 0.
unfoldable pub fits : List ℕ → List ℕ → ℕ
fits [] [] = 1
fits [] (b ∷ y) = cond (eqb b 46) 2 0
fits (a ∷ p) [] = 0
fits (a ∷ p) (b ∷ y) = cond (eqb a b) (fits p y) 0

-- The number of an answer to that.
abbrev pub fit_number : Fit → ℕ
fit_number Whole = 1
fit_number Prefix = 2
fit_number Neither = 0

-- Where what is left inside a record begins: the same where its name is skipped, behind its name and the dot, or behind the end.
unfoldable pub deeper : (skip : Bool) → (fit pos len end : ℕ) → ℕ
deeper skip fit pos len end = cond skip pos (cond (eqb fit 2) (pos + len + 1) (end + 1))

-- What is left inside a record; the same where its name is skipped.
abbrev pub inside : Bool → Option (List ℕ) → List ℕ → Option (List ℕ)
inside skip left name = cond skip left (then_strip left (name ++ (46 ∷ [])))

abbrev pub own : Option (List ℕ) → List ℕ → ℕ → Option ℕ
own left name k = cond (left_is left name) (some k) none

-- The same of the slot, as the code has it.
abbrev pub own_slot : (fit slot : ℕ) → FoundSlot
own_slot fit k = cond (eqb fit 1) (Some (record { 0 = k })) None

-- What is inside the record at slot k for a search; full names skip no record.
pub record Entered (l : Trees) (plan : PlanRows) (short : Bool) (role : Role) (f : ℕ) (x : List ℕ) (pos k : ℕ) (r : Inside) : Type 0 where
  pub members : r.role ≡ first (kinds_in l plan k)
  pub goes : r.pos ≡ deeper (short && skipped role (kinds_in l plan k)) f pos (length (names_in l plan k)) (length x)
