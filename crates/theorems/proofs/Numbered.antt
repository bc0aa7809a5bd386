-- Each definition of a refusal gives its own number: by cases of what it is asked.
use Prim.Native.Nat.{ℕ}
use mathlib.Core.Path.{refl}
use mathlib.Core.Bool.{Bool, true, false, not}
use mathlib.Core.Option.{Option, none, some}
use Rattle.paper.specs.Answer.{fault, fault_if, demand}
use Rattle.theorems.specs.Numbered.{Only, fine, told, OneNumberEach}

only_fault : (n l : ℕ) (o : Option ℕ) → Only n (fault n l o)
only_fault n l none = fine
only_fault n l (some p) = told

only_if : (n l p : ℕ) (b : Bool) → Only n (fault_if n l p b)
only_if n l p false = fine
only_if n l p true = told

only_demand : {A : Type 0} (n l p : ℕ) (o : Option A) → Only n (demand n l p o)
only_demand n l p none = told
only_demand n l p (some a) = fine

pub one_number_each : OneNumberEach
one_number_each =
    record {
      in_a_row = refl;
      of_1 = λ b. only_if 1 0 0 (not b);
      of_2 = λ b. only_if 2 0 0 (not b);
      of_3 = only_fault 3;
      of_4 = only_fault 4;
      of_5 = λ l p. told;
      of_6 = only_fault 6;
      of_7 = only_fault 7;
      of_8 = only_fault 8;
      of_9 = only_fault 9 5;
      of_10 = λ b. only_if 10 3 0 (not b);
      of_11 = only_demand 11 2;
      of_12 = only_if 12 2;
      of_13 = only_if 13;
      of_14 = only_if 14 3;
      of_15 = only_demand 15 3;
      of_16 = only_demand 16 3;
      of_17 = only_if 17 3;
      of_18 = only_if 18;
      of_19 = λ b. only_if 19 4 0 (not b);
      of_20 = λ k. told;
      of_21 = λ k. told;
      of_22 = only_if 22 3;
      of_23 = only_demand 23 6;
      of_24 = only_if 24 6;
      of_25 = λ b. only_if 25 0 0 (not b);
      of_26 = only_if 26 6;
    }
