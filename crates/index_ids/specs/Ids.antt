-- Ids of slots: refusal 7. An array holds the 32 bits of each slot's id.
use Rattle.std.specs.Prelude.{ℕ, ◌%◌, Bool, List, [], eqb, get_or}
use Rattle.paper.specs.Answer.{repeated}
use Rattle.paper.specs.Bytes.{turned, from}
use Rattle.record.specs.Answers.{Check}
use Rattle.record.specs.Says.{tested}
use Rattle.index_ids.specs.Chain.{new_at}

-- The bucket of an id: the ten lowest of its 32 bits.
unfoldable pub bucket_of : ℕ → ℕ
bucket_of id = turned id % 1024

-- The id of a slot.
abbrev pub id_in : List ℕ → ℕ → ℕ
id_in is k = turned (get_or is k 0)

abbrev pub is_id : List ℕ → ℕ → ℕ → Bool
is_id is i j = eqb i (id_in is j)

abbrev pub new_id : List ℕ → ℕ → Bool
new_id is k = new_at (λ i j. eqb (id_in is i) (id_in is j)) k

-- The ids of m slots.
abbrev pub ids_in : List ℕ → ℕ → List ℕ
ids_in is m = from (id_in is) 0 m

-- refusal 7: an id equals an earlier one
unfoldable pub rule_7 : ℕ → List ℕ → ℕ → Check
rule_7 list is m = tested 7 list (repeated eqb [] 0 (ids_in is m))
