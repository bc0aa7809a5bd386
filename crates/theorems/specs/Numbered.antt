-- Each refusal has one number: what the definitions of paper/specs/Refusals.antt give. That no number is given elsewhere is
-- seen by `tools/refusals`.
use Rattle.std.specs.Prelude.{ℕ, ◌≡◌, Bool, true, false, List, [], ◌∷◌}
use Rattle.std.proofs.Math.Option.{Option, none, some}
use Rattle.paper.specs.Answer.{Answer, ok, refused}
use Rattle.paper.specs.Refusals.{last_refusal, roomy, limited, unbroken, pooled, misshapen, named, own_ids, own_names}
use Rattle.paper.specs.Refusals.{identified, matched, found_column, no_identifier, dotless, fillable, found_parent}
use Rattle.paper.specs.Refusals.{found_struct, free_name, ids_left, rebuilt_within, chosen_directly, ambiguous, standing}
use Rattle.paper.specs.Refusals.{surviving, permitted, versioned, stepped}
use Rattle.theorems.specs.Numbers.{range}

-- No refusal, or one of this number.
pub data Only {A : Type 0} (number : ℕ) : Answer A → Type 0 where
  fine : {a : A} → Only number (ok a)
  told : {list place : ℕ} → Only number (refused number list place)

abbrev pub number_of : {A : Type 0} → Answer A → ℕ
number_of (ok a) = 0
number_of (refused n l p) = n

-- The number of each definition, where what it asks for does not hold.
abbrev pub numbers_given : List ℕ
numbers_given =
    let absent : Option ℕ = none in
    number_of (roomy false) ∷ number_of (limited false) ∷ number_of (unbroken 0 (some 0)) ∷ number_of (pooled 0 (some 0))
    ∷ number_of {A = ℕ} (misshapen 0 0) ∷ number_of (named 0 (some 0)) ∷ number_of (own_ids 0 (some 0))
    ∷ number_of (own_names 0 (some 0)) ∷ number_of (identified (some 0)) ∷ number_of (matched false)
    ∷ number_of (found_column 0 absent) ∷ number_of (no_identifier 0 true) ∷ number_of (dotless 0 0 true)
    ∷ number_of (fillable 0 true) ∷ number_of (found_parent 0 absent) ∷ number_of (found_struct 0 absent)
    ∷ number_of (free_name 0 true) ∷ number_of (ids_left 0 0 true) ∷ number_of (rebuilt_within false)
    ∷ number_of {A = ℕ} (chosen_directly 0) ∷ number_of {A = ℕ} (ambiguous 0) ∷ number_of (standing 0 true)
    ∷ number_of (surviving 0 absent) ∷ number_of (permitted 0 true) ∷ number_of (versioned false)
    ∷ number_of (stepped 0 true) ∷ []

pub record OneNumberEach : Type 1 where
  -- From 1 to the last, each once;
  pub in_a_row : numbers_given ≡ range 1 last_refusal
  -- and whatever it is asked, a definition gives no number but its own.
  pub of_1 : (enough : Bool) → Only 1 (roomy enough)
  pub of_2 : (within : Bool) → Only 2 (limited within)
  pub of_3 : (list : ℕ) (broken : Option ℕ) → Only 3 (unbroken list broken)
  pub of_4 : (list : ℕ) (outside : Option ℕ) → Only 4 (pooled list outside)
  pub of_5 : {A : Type 0} (list place : ℕ) → Only {A = A} 5 (misshapen list place)
  pub of_6 : (list : ℕ) (misnamed : Option ℕ) → Only 6 (named list misnamed)
  pub of_7 : (list : ℕ) (again : Option ℕ) → Only 7 (own_ids list again)
  pub of_8 : (list : ℕ) (again : Option ℕ) → Only 8 (own_names list again)
  pub of_9 : (broken : Option ℕ) → Only 9 (identified broken)
  pub of_10 : (equal : Bool) → Only 10 (matched equal)
  pub of_11 : {A : Type 0} (place : ℕ) (column : Option A) → Only 11 (found_column place column)
  pub of_12 : (place : ℕ) (identifier : Bool) → Only 12 (no_identifier place identifier)
  pub of_13 : (list place : ℕ) (dot : Bool) → Only 13 (dotless list place dot)
  pub of_14 : (place : ℕ) (bare : Bool) → Only 14 (fillable place bare)
  pub of_15 : {A : Type 0} (place : ℕ) (parent : Option A) → Only 15 (found_parent place parent)
  pub of_16 : {A : Type 0} (place : ℕ) (struct : Option A) → Only 16 (found_struct place struct)
  pub of_17 : (place : ℕ) (taken : Bool) → Only 17 (free_name place taken)
  pub of_18 : (list place : ℕ) (pass : Bool) → Only 18 (ids_left list place pass)
  pub of_19 : (within : Bool) → Only 19 (rebuilt_within within)
  pub of_20 : {A : Type 0} (slot : ℕ) → Only {A = A} 20 (chosen_directly slot)
  pub of_21 : {A : Type 0} (second : ℕ) → Only {A = A} 21 (ambiguous second)
  pub of_22 : (place : ℕ) (gone : Bool) → Only 22 (standing place gone)
  pub of_23 : {A : Type 0} (place : ℕ) (column : Option A) → Only 23 (surviving place column)
  pub of_24 : (place : ℕ) (forbidden : Bool) → Only 24 (permitted place forbidden)
  pub of_25 : (known : Bool) → Only 25 (versioned known)
  pub of_26 : (place : ℕ) (barred : Bool) → Only 26 (stepped place barred)
