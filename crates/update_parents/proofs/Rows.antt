-- A row that a look-up finds is the record at its slot, with its inside: every row that is made stands so.
use Prim.Native.Nat.{ℕ, suc, ◌+◌, ◌≤◌, ◌<◌}
use mathlib.Core.Path.{◌≡◌, refl, ◌∙◌}
use mathlib.Core.List.{List}
use mathlib.Core.Option.{some}
use native.Mathlib.Numerals.{add-one}
use native.Mathlib.Omega.{arith}
use Rattle.paper.specs.Answer.{ok}
use Rattle.paper.specs.Forest.{Forest, empty, node, size, siblings, levels, mapped}
use Rattle.paper.specs.Field.{Field}
use Rattle.paper.specs.Rows.{Row, Start, row, below, beside, look_name}
use Rattle.paper.specs.Bytes.{field_at, kids_at}
use Rattle.paper.specs.Layout as layout
use Rattle.paper.specs.Layout.{Part, roots}
use Rattle.paper.specs.Decode.{fields}
use Rattle.laws.proofs.Fitting.{size_mapped}
use Rattle.laws.proofs.Taken.{Laid, roots_take}
use Rattle.laws.proofs.Lies.{slotted}
use Rattle.laws.proofs.Rows.{name_has}
use Rattle.laws.proofs.Counted.{Counted, row_counted}
use Rattle.tree.proofs.Steps.{part_is, reads_is}
use Rattle.update_parents.specs.Target.{Stands}

-- ---- what was read

laid_counted : (kids : ℕ → ℕ) (n k : ℕ) (t : Forest ℕ) → Laid kids n k t → Counted kids k t
laid_counted kids n k empty h = tt
laid_counted kids n k (node j m u) h = (h.2, laid_counted kids n (suc k) m h.3, laid_counted kids n (suc (k + size m)) u h.4)

laid_slotted : (kids : ℕ → ℕ) (n k : ℕ) (t : Forest ℕ) → Laid kids n k t → slotted k t ≡ t
unfolding slotted
laid_slotted kids n k empty h = refl
laid_slotted kids n k (node j m u) h = rw (laid_slotted kids n (suc k) m h.3, laid_slotted kids n (suc (k + size m)) u h.4, h.0)

laid_ends : (kids : ℕ → ℕ) (n k : ℕ) (t : Forest ℕ) → k ≤ n → Laid kids n k t → k + size t ≤ n
unfolding size
laid_ends kids n k empty l h = omega arith
laid_ends kids n k (node j m u) l h =
    let i = h.1 in
    let a = laid_ends kids n (suc k) m (omega arith) h.3 in
    let b = laid_ends kids n (suc (k + size m)) u (omega arith) h.4 in
    omega arith

laid_row : (kids : ℕ → ℕ) (n k lv : ℕ) (t : Forest ℕ) → k ≤ n → levels t ≤ lv → Laid kids n k t → layout.row 0 kids n lv (siblings t) k ≡ ok (record { trees = t; next = k + size t })
laid_row kids n k lv t l d h = row_counted 0 kids n t lv k d (laid_ends kids n k t l h) (laid_counted kids n k t h) ∙ rw (laid_slotted kids n k t h)

-- ---- rows

module _ (pool s : List ℕ) (n : ℕ) where
  stands : (st : Start) (j k : ℕ) (m : Forest ℕ) → st.slot ≡ k → j ≡ k → k < n → kids_at s k ≡ siblings m → levels m ≤ 15 → Laid (kids_at s) n (suc k) m → Stands pool s n (row st (field_at pool s j) (fields pool s m))
  stands st j k m es ej l ek d h =
      let e : layout.row 0 (kids_at s) n 15 (kids_at s k) (k + 1) ≡ ok (record { trees = m; next = suc k + size m }) = rw (ek, add-one k) (laid_row (kids_at s) n (suc k) 15 m (omega arith) d h) in
      rw (es, ej) (record { there = l; read = reads_is 0 (kids_at s) n 15 (kids_at s k) (k + 1) _ e; field = refl; inside = rw (part_is 0 (kids_at s) n 15 (kids_at s k) (k + 1) _ e) })

  abbrev fld : ℕ → Field
  fld = field_at pool s

  -- What is known where a list of siblings begins.
  pub record Begun (st : Start) (t : Forest ℕ) : Type 0 where
    pub low : levels t ≤ 16
    pub laid : Laid (kids_at s) n st.slot t

  begun_step : (st : Start) (j : ℕ) (m u : Forest ℕ) → Begun st (node j m u) → Stands pool s n (row st (fld j) (mapped fld m)) × Begun (below st (fld j)) m × Begun (beside st (mapped fld m)) u
  unfolding fields levels
  begun_step st j m u b =
      let h = b.laid in
      let l = b.low in (
        stands st j st.slot m refl h.0 h.1 h.2 (omega arith) h.3,
        record { low = omega arith; laid = h.3 },
        record { low = omega arith; laid = rw (size_mapped fld m) h.4 },
      )

  pub found_stands : (p : Part) (x : List ℕ) (r : Row) → roots 0 (kids_at s) n n 0 ≡ ok p → look_name (fields pool s p.trees) x ≡ some r → Stands pool s n r
  unfolding fields
  found_stands p x r e f =
      let t = roots_take 0 (kids_at s) n n 0 p e in
      name_has fld (Stands pool s n) Begun begun_step p.trees (record { low = t.depth; laid = t.laid }) r x f
