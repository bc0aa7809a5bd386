-- A renumbering ends a run, and another may begin. Across it an id may come to name
-- another column: T, renumbered from 4, has `node` where `button` was.
use Prim.Native.Nat.{ℕ, suc, ◌+◌, ◌≤◌}
use mathlib.Core.Path.{◌≡◌, refl, sym, ap, subst, ◌∙◌}
use mathlib.Core.Logic.{inl, inr}
use mathlib.Core.List.{List, []}
use mathlib.Core.Option.{none, some}
use native.Mathlib.Omega.{arith}
use Rattle.paper.specs.declared.Kind.TheVariants.{Primitive, Structure}
use Rattle.paper.specs.Answer.{Answer, ok, refused, ◌>>=◌, lowest}
use Rattle.paper.specs.Forest.{Forest, empty, size, siblings, mapped, ◌then◌}
use Rattle.paper.specs.Field.{Field, with_id}
use Rattle.paper.specs.Sound.{text, fitting, misnamed, names, ids, sound}
use Rattle.paper.specs.Renumber.{level, numbered, renumber}
use Rattle.paper.specs.Edits.{Edited}
use Rattle.paper.specs.Update.{Schema}
use Rattle.paper.specs.Bytes.{word16, word32, turned, ok_bytes, in_pool, kind_from, name_of, field_at, from}
use Rattle.paper.specs.Lists.{id_list}
use Rattle.paper.specs.Layout.{deep, row_with, row, roots}
use Rattle.paper.specs.Decode.{fields, decode}
use Rattle.paper.specs.Limits.{room, whole, sum_from, name_sum, tree_sized, pool_sized, sized, sized_ids}
use Rattle.paper.specs.Entries.{Result, renumber_entry}
use Rattle.paper.specs.Outcome.{out_identifiers}
use Rattle.paper.specs.Sample.{T, T_records, T_pool}
use Rattle.laws.specs.Fit.{Bytes}
use Rattle.laws.proofs.Basics.{none≢some}
use Rattle.laws.proofs.Fitting.{size_mapped}
use Rattle.laws.proofs.Octets.{written_bytes}
use Rattle.theorems.specs.Columns.{Column, Stands, Has}
use Rattle.theorems.specs.Run.{Lasting}
use Rattle.theorems.specs.Stored.{bytes_of, BeginsStored}
use Rattle.theorems.proofs.Again.{renumber_entry_fit, renumber_again, renumber_numbers}
use Rattle.theorems.proofs.Passing.{renumber_passes}

abbrev T_from_4 : Answer Result
T_from_4 = renumber_entry T_records T_pool [] 4 24576 32768 0

abbrev tree_of : Answer Result → Forest Field
tree_of (ok r) = r.tree
tree_of (refused n l p) = empty

abbrev button : Column
button =
    let f : Field = record {
      id = 2_147_483_648 + 4;
      name = text "button";
      kind = Primitive;
      flags = 0;
      code = 0;
      attribute = 0;
    } in
    record { parent = some (2_147_483_648 + 1); field = f }

abbrev node_column : Column
node_column =
    let f : Field = record {
      id = 2_147_483_648 + 4;
      name = text "node";
      kind = Structure;
      flags = 0;
      code = 0;
      attribute = 0;
    } in
    record { parent = none; field = f }

before : Stands none T button
unfolding ◌then◌
before = inr (inl (inl refl))

after : Stands none (tree_of T_from_4) node_column
unfolding renumber_entry renumber level numbered ◌>>=◌ lowest size siblings mapped fitting misnamed names ids sound
    word16 word32 turned ok_bytes in_pool kind_from name_of field_at from id_list deep row_with row roots fields decode
    room whole sum_from name_sum tree_sized pool_sized sized sized_ids
after = inl refl

-- No run of schemas lasts in which T is followed by T renumbered from 4.
pub renumbering_ends : (at : ℕ → Schema) (sets : ℕ → List Edited) (r : Result)
    → renumber_entry T_records T_pool [] 4 24576 32768 0 ≡ ok r
    → (at 0).tree ≡ T → (at 1).tree ≡ r.tree → Lasting at sets → ⊥
renumbering_ends at sets r e old new h =
    let first : Has (at 0) button = subst (λ t. Stands none t button) (sym old) before in
    let later : Has (at 1) node_column = subst (λ t. Stands none t node_column) (ap tree_of e ∙ sym new) after in
    none≢some (h.later_column 0 1 button node_column first later refl).same.parent

-- Another run may begin: from what the renumbering answered, the identifiers too, with a last id that is not below
-- start + n - 1, its highest.
pub renumbering_begins : (s p i : List ℕ) (start lr ln li : ℕ) (r : Result) → Bytes s
    → renumber_entry s p i start lr ln li ≡ ok r → (last : ℕ)
    → turned start + size r.tree ≤ suc (turned last)
    → BeginsStored (bytes_of r.tree last) (out_identifiers r)
renumbering_begins s p i start lr ln li r b e last l =
    let again = renumber_again s p i start lr ln li r b e in
    let n = renumber_numbers s p i start lr ln li r e in
    let t = n.base in
    let many : size r.tree ≡ size t =
    sym (size_mapped (with_id 0) r.tree) ∙ ap size n.numbered.kept ∙ size_mapped (with_id 0) t in
    record {
      bytes = written_bytes r.tree (renumber_entry_fit s p i start lr ln li r b e).formed;
      accepted = rw again.decodes again.accepted;
      identified = rw again.decodes (renumber_passes s p i start lr ln li r b e).passes.accepted;
      bounded = λ x h. let o = (n.numbered.no_other x (rw again.decodes at h)).1 in omega arith;
    }
