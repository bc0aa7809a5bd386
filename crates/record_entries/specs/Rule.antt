-- A list of entries with paths: its number, the width of an entry, its byte rule, and what 4 asks of its entries; what an edit does.
use Rattle.std.specs.Prelude.{ℕ, List, Bool, cond, eqb}
use Rattle.paper.specs.Lists.{ok_deletion, ok_addition, path_in, ok_edit, edit_in}
use Rattle.record_entries.specs.declared.What.{What}
use Rattle.record_entries.specs.declared.What.TheVariants.{Rename, Relax, Widen}
use Rattle.record_entries.specs.declared.PathList.{PathList}
use Rattle.record_entries.specs.declared.PathList.TheVariants.{Deletions, Additions, Edits}

abbrev pub number_of : PathList → ℕ
number_of Deletions = 2
number_of Additions = 3
number_of Edits = 6

abbrev pub width_of : PathList → ℕ
width_of Deletions = 8
width_of Additions = 8
width_of Edits = 16

abbrev pub rule_of : PathList → List ℕ → ℕ → Bool
rule_of Deletions = ok_deletion
rule_of Additions = ok_addition
rule_of Edits = ok_edit

abbrev pub inside_of : PathList → ℕ → List ℕ → ℕ → Bool
inside_of Deletions = path_in
inside_of Additions = path_in
inside_of Edits = edit_in

-- What an edit does, by its byte: 1 renames, 2 relaxes, 3 widens. 3 was tested before, so there is no other.
unfoldable pub what_of : (byte : ℕ) → What
what_of byte = cond (eqb byte 1) Rename (cond (eqb byte 2) Relax Widen)
