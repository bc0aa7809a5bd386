-- Two rules of 01 that P1 to P13 don't show: no key of T has an inside, and they give no identifiers. All of it computes.
use mathlib.Core.Path.{◌≡◌, refl}
use mathlib.Core.List.{List, [], ◌∷◌, map}
use Prim.Native.Nat.{ℕ, ◌+◌}
use Rattle.paper.specs.declared.Kind.{Kind}
use Rattle.paper.specs.declared.Kind.TheVariants.{Primitive, Structure, Mapping}
use Rattle.paper.specs.Answer.{Answer, ok, refused, ◌>>=◌}
use Rattle.paper.specs.Forest.{empty, node, size, siblings, levels, preorder, mapped, ◌then◌}
use Rattle.paper.specs.Rows.{rows, entered, look_name, look_id}
use Rattle.paper.specs.Sound.{text, names, ids, sound, name_bytes, within}
use Rattle.paper.specs.Renumber.{level, numbered}
use Rattle.paper.specs.Edits.{edited_all, edit_fields}
use Rattle.paper.specs.Update.{schema, request, deleted, placed_all, planned}
use Rattle.paper.specs.Rebuild.{arrivals, arriving, rebuilt, carried_out, update}
use Rattle.paper.specs.Pinned.{keyed}

-- A map with a struct as its key: the key's inside is numbered before the value.
pub key_inside_first :
    preorder (numbered {A = Kind} (λ i k. i) (λ k. k) 1 (node Mapping (node Structure (node Primitive empty empty) (node Primitive empty empty)) empty))
    ≡ 1 ∷ 2 ∷ 3 ∷ 4 ∷ []
unfolding size siblings preorder level numbered
key_inside_first = refl

abbrev id : ℕ → ℕ
id i = 2_147_483_648 + i

-- The ids of a tree whose identifier is 5, without a column.
abbrev without : (path : List ℕ) → Answer (List ℕ)
without path =
    update (schema keyed (id 10)) (request (id 5 ∷ []) (path ∷ []) [] empty []) >>= λ u. ok (ids u.tree)

-- 12 asks the found column itself: one beside an identifier goes; what holds one goes too, and is then missed by 9.
pub barred_itself :
    without (text "node.cost") ∷ without (text "node.button") ∷ without (text "node") ∷ []
    ≡ refused 12 2 0 ∷ ok (map id (1 ∷ 5 ∷ 2 ∷ [])) ∷ refused 9 5 0 ∷ []
unfolding ◌>>=◌ size siblings levels mapped ◌then◌ rows entered look_name look_id names ids sound name_bytes within
    deleted placed_all edited_all edit_fields planned arrivals arriving rebuilt carried_out update
barred_itself = refl
