-- Refusal 9 of a list of identifiers and a tree; and what stands above a slot, asked by the places above.
use Rattle.std.specs.Prelude.{ℕ, zero, suc, Bool, true, not, ◌&&◌, List, get_or}
use Rattle.paper.specs.Answer.{place_of}
use Rattle.paper.specs.Field.{Field}
use Rattle.paper.specs.Forest.{Forest}
use Rattle.paper.specs.Lists.{id_list}
use Rattle.paper.specs.Rows.{look_id}
use Rattle.paper.specs.Sound.{holding, identifies}
use Rattle.record.specs.Answers.{Check}
use Rattle.record.specs.Says.{tested}
use Rattle.record.specs.Trees.{Trees}
use Rattle.plan.specs.Plan.{source_field}

-- Whether the records from a place up, at most so many, may all stand above an identifier. `xs` has their sources, `us` the places above.
unfoldable pub held_up : Trees → (xs us : List ℕ) (steps place : ℕ) → Bool
held_up l xs us zero u = true
held_up l xs us (suc s) zero = true
held_up l xs us (suc s) (suc p) = holding (source_field l (get_or xs p 0)) && held_up l xs us s (get_or us p 0)

-- refusal 9: an identifier finds no column that may identify
unfoldable pub rule_9 : (identifiers : List ℕ) (tree : Forest Field) → Check
rule_9 identifiers tree = tested 9 5 (place_of (λ i. not (identifies (look_id tree i))) 0 (id_list identifiers))
