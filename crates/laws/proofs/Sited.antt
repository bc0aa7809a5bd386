-- A row that a look-up finds is the record at its slot: the tree has the field of each slot where preorder has the slot.
use Prim.Native.Nat.{ℕ, ◌<◌}
use mathlib.Core.Path.{◌≡◌, ap, ◌∙◌}
use mathlib.Core.Bool.{true}
use mathlib.Core.List.{List}
use mathlib.Core.Option.{Option, some}
use Rattle.paper.specs.Answer.{Answer, ok, ◌>>=◌}
use Rattle.paper.specs.Forest.{Forest, node, mapped}
use Rattle.paper.specs.Field.{Field}
use Rattle.paper.specs.Rows.{Row, Start, top, row, below, beside, look_name, look_id, look_parent}
use Rattle.paper.specs.Folded.{look_folded}
use Rattle.paper.specs.Bytes.{turned, field_at, kids_at, slots}
use Rattle.paper.specs.Decode.{fields, decode}
use Rattle.paper.specs.Limits.{sized}
use Rattle.paper.specs.Entries.{read, find_name, find_id, find_parent, find_folded}
use Rattle.laws.proofs.Basics.{unbind, ok_is, passed}
use Rattle.laws.proofs.Preorder.{size_mapped}
use Rattle.laws.proofs.Taken.{Laid, roots_take}
use Rattle.laws.proofs.Rows.{name_has, id_has, parent_has, folded_has}

-- 2 was passed and the list is a tree; the record at the row's slot is in the list, and its field is the row's.
pub record Sited (s pool : List ℕ) (r : Row) : Type 0 where
  pub limits : sized s pool ≡ true
  pub tree : Forest Field
  pub decodes : decode 0 s pool ≡ ok tree
  pub there : r.slot < slots s
  pub field : r.field ≡ field_at pool s r.slot

module _ (s pool : List ℕ) where
  abbrev fld : ℕ → Field
  fld = field_at pool s

  abbrev LaidAt : Start → Forest ℕ → Type 0
  LaidAt st t = Laid (kids_at s) (slots s) st.slot t

  abbrev AtSlot : Row → Type 0
  AtSlot r = (r.slot < slots s) × (r.field ≡ fld r.slot)

  laid_step : (st : Start) (j : ℕ) (m u : Forest ℕ) → LaidAt st (node j m u)
      → AtSlot (row st (fld j) (mapped fld m)) × LaidAt (below st (fld j)) m × LaidAt (beside st (mapped fld m)) u
  laid_step st j m u h = ((h.1, ap fld h.0), h.3, rw (size_mapped fld m) h.4)

  -- What a look-up g finds in the tree that was read.
  found_there : (g : Forest Field → Answer (Option Row))
      → ((t : Forest ℕ) → LaidAt top t → (r : Row) → g (mapped fld t) ≡ ok (some r) → AtSlot r)
      → (r : Row) → (read s pool >>= g) ≡ ok (some r) → Sited s pool r
  unfolding read decode fields
  found_there g has r e =
      unbind _ _ e λ t e₁ a. unbind _ _ e₁ λ _ e₂ a₁. unbind _ _ a₁ λ u e₃ a₂. unbind _ _ a₂ λ _ _ a₃.
      unbind _ _ e₃ λ _ _ d₁. unbind _ _ d₁ λ _ _ d₂. unbind _ _ d₂ λ p e₄ d₃. unbind _ _ d₃ λ _ _ d₄.
      let q : g (mapped fld p.trees) ≡ ok (some r) = ap g (ok_is d₄ ∙ ok_is a₃) ∙ a in
      let h = has p.trees (roots_take 0 (kids_at s) (slots s) (slots s) 0 p e₄).laid r q in
      record { limits = passed 2 0 0 (sized s pool) e₂; tree = u; decodes = e₃; there = h.0; field = h.1 }

  module _ (r : Row) where
    pub name_sited : (x : List ℕ) → find_name s pool x ≡ ok (some r) → Sited s pool r
    unfolding find_name
    name_sited x =
        found_there (λ t. ok (look_name t x))
        (λ t h r e. name_has fld AtSlot LaidAt laid_step t h r x (ok_is e)) r

    pub id_sited : (i : ℕ) → find_id s pool i ≡ ok (some r) → Sited s pool r
    unfolding find_id
    id_sited i =
        found_there (λ t. ok (look_id t (turned i)))
        (λ t h r e. id_has fld AtSlot LaidAt laid_step t h r (turned i) (ok_is e)) r

    pub parent_sited : (i : ℕ) → find_parent s pool i ≡ ok (some r) → Sited s pool r
    unfolding find_parent
    parent_sited i =
        found_there (λ t. ok (look_parent t (turned i)))
        (λ t h r e. parent_has fld AtSlot LaidAt laid_step t h r (turned i) (ok_is e)) r

    pub folded_sited : (x : List ℕ) → find_folded s pool x ≡ ok (some r) → Sited s pool r
    unfolding find_folded
    folded_sited x =
        found_there (λ t. look_folded t x) (λ t h r. folded_has fld AtSlot LaidAt laid_step t h r x) r
