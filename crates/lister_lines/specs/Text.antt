-- The lister's text by the tables of a plan and its index, and the part of a text that a buffer shows.
use Rattle.std.specs.Prelude.{ℕ, zero, suc, ◌≡◌, List, [], ◌∷◌, ◌++◌, length, get_or, take, drop}
use Rattle.std.proofs.Math.Option.{Option, none, some}
use Rattle.paper.specs.Answer.{refused}
use Rattle.paper.specs.Lister.{decimal, signed, parent_text, listing}
use Rattle.record.specs.declared.Refusal.{Refusal}
use Rattle.record.specs.Trees.{Trees}
use Rattle.plan.specs.Table.{numbers}
use Rattle.index_ids.specs.Ids.{id_in}
use Rattle.index_ids.specs.Table.{ups_in}
use Rattle.index_names.specs.Table.{full_in}
use Rattle.plan.specs.declared.PlanRows.{PlanRows}

-- The id of the record before a place; none at place 0.
abbrev pub above : (ids : List ℕ) → ℕ → Option ℕ
above ids zero = none
above ids (suc k) = some (id_in ids k)

-- A line up to its name.
unfoldable pub line_start : (ids : List ℕ) (slot up : ℕ) → List ℕ
line_start ids slot up =
    decimal slot ++ (32 ∷ (signed (id_in ids slot) ++ (32 ∷ (parent_text (above ids up) ++ (32 ∷ [])))))

unfoldable pub line_at : Trees → (plan : PlanRows) (index : List (List ℕ)) (slot : ℕ) → List ℕ
line_at trees plan index slot =
    line_start (numbers plan) slot (get_or (ups_in index) slot 0) ++ (full_in trees plan index slot ++ (10 ∷ []))

-- The lines of the slots below k.
unfoldable pub joined : (ℕ → List ℕ) → ℕ → List ℕ
joined line zero = []
joined line (suc k) = joined line k ++ line k

abbrev pub refusal_text : Refusal → List ℕ
refusal_text x = listing (refused x.number x.list x.place)

abbrev pub part : List ℕ → ℕ → List ℕ → List ℕ
part text from out = take (length out) (drop from text)

-- The buffer has the text's bytes from `from` on, as many as it holds, then its old ones; r is the length of the whole text.
pub record Shown (text : List ℕ) (from : ℕ) (out : List ℕ) (r : ℕ) (out' : List ℕ) : Type 0 where
  pub bytes : out' ≡ part text from out ++ drop (length (part text from out)) out
  pub whole : r ≡ length text
