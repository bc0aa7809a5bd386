-- Refusal 8, and what a search for a full name asks of each slot.
use Rattle.std.specs.Prelude.{ℕ, Bool, List, []}
use Rattle.paper.specs.Answer.{same, repeated}
use Rattle.paper.specs.Bytes.{from}
use Rattle.record.specs.Answers.{Check}
use Rattle.record.specs.Says.{tested}
use Rattle.record.specs.Trees.{Trees}
use Rattle.plan.specs.Named.{name_in}
use Rattle.index_ids.specs.Chain.{new_at}
use Rattle.index_names.specs.Hash.{tag_of, tag_bucket}
use Rattle.index_names.specs.Full.{full_at}

abbrev pub name_bucket : Trees → List ℕ → List ℕ → ℕ → ℕ
name_bucket l xs us k = tag_bucket (tag_of (full_at (name_in l xs) us k))

abbrev pub same_name : Trees → List ℕ → List ℕ → ℕ → ℕ → Bool
same_name l xs us k j = same (full_at (name_in l xs) us k) (full_at (name_in l xs) us j)

abbrev pub new_name : Trees → List ℕ → List ℕ → ℕ → Bool
new_name l xs us k = new_at (same_name l xs us) k

-- Whether the full name of a slot is x.
abbrev pub is_full : Trees → List ℕ → List ℕ → List ℕ → ℕ → Bool
is_full l xs us x j = same (full_at (name_in l xs) us j) x

-- refusal 8: a full name equals an earlier one
unfoldable pub rule_8 : ℕ → Trees → List ℕ → List ℕ → ℕ → Check
rule_8 list l xs us m = tested 8 list (repeated same [] 0 (from (full_at (name_in l xs) us) 0 m))
