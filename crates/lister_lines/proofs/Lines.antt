-- The rows of a planned tree, line after line, are the lines of its slots.
use mathlib.Core.Path.{◌≡◌, refl, sym, ap, subst, ◌∙◌}
use mathlib.Core.List.{List, [], ◌∷◌, ◌++◌, append_assoc, append-nil}
use mathlib.Core.Option.{some}
use Prim.Native.Nat.{ℕ, zero, suc, ◌+◌, ◌<◌}
use native.Mathlib.Nat.{add-zero, zero-add}
use native.Mathlib.Omega.{arith}
use lib.ListN.{length, get_or}
use Rattle.paper.specs.Bytes.{from}
use Rattle.paper.specs.Entries.{read}
use Rattle.paper.specs.Field.{Field}
use Rattle.paper.specs.Forest.{Forest, empty, node, size, mapped}
use Rattle.paper.specs.Lister.{decimal, signed, parent_text, line, lines, listing, lister}
use Rattle.paper.specs.Rows.{Row, Start, top, row, below, beside, rows, dotted, nearest}
use Rattle.laws.proofs.Preorder.{size_mapped}
use Rattle.record.specs.declared.Refusal.{Refusal}
use Rattle.record.specs.Answers.{Check}
use Rattle.std.specs.Prelude.{Ok}
use Rattle.record.specs.Trees.{Trees, alone}
use Rattle.record.proofs.Testing.{refused_as}
use Rattle.plan.specs.Plan.{kids_in}
use Rattle.plan.specs.Table.{sources, numbers, members, PlanIn, fields_in}
use Rattle.plan.proofs.Standing.{field_in, field_id, field_name, plan_is}
use Rattle.index_ids.specs.Ids.{id_in}
use Rattle.index_ids.specs.Table.{ups_in}
use Rattle.plan.specs.Walk.{trees_of}
use Rattle.index_names.specs.Full.{fulls, ups}
use Rattle.plan.specs.Named.{name_in}
use Rattle.plan.specs.Named.{names_in}
use Rattle.index_names.specs.Table.{full_in}
use Rattle.index_names.specs.Told.{Raised}
use Rattle.plan.proofs.Walks.{Numbered, all_there, all_numbered}
use Rattle.index_names.proofs.Marking.{length_fulls, length_ups}
use Rattle.index_names.proofs.Telling.{fulls_are}
use Rattle.index.proofs.Opening.{Opened, reading}
use Rattle.lister_lines.specs.Text.{above, line_start, line_at, joined, refusal_text, Shown}
use Rattle.plan.specs.declared.PlanRows.{PlanRows}

lines_append : (a b : List Row) → lines (a ++ b) ≡ lines a ++ lines b
unfolding lines
lines_append [] b = refl
lines_append (r ∷ a) b = rw (lines_append a b) (sym (append_assoc (line r) (lines a) (lines b)))

-- ---- lines from a slot on

unfoldable after : (ℕ → List ℕ) → (k n : ℕ) → List ℕ
after g k zero = []
after g k (suc n) = g k ++ after g (suc k) n

joined_after : (g : ℕ → List ℕ) (k n : ℕ) → joined g k ++ after g k n ≡ joined g (k + n)
unfolding after joined
joined_after g k zero = rw (add-zero k) (append-nil (joined g k))
joined_after g k (suc n) =
    let e : k + suc n ≡ suc k + n = omega arith in
    rw e (sym (append_assoc (joined g k) (g k) (after g (suc k) n)) ∙ joined_after g (suc k) n)

all_joined : (g : ℕ → List ℕ) (n : ℕ) → after g 0 n ≡ joined g n
unfolding joined
all_joined g n = joined_after g 0 n ∙ ap (joined g) (zero-add n)

module _ (is : List ℕ) where
  abbrev text_of : (k u : ℕ) → List ℕ → List ℕ
  text_of k u x = line_start is k u ++ (x ++ (10 ∷ []))

  -- Places above and full names from a slot on, a line for each.
  unfoldable told : ℕ → List ℕ → List (List ℕ) → List ℕ
  told k [] xs = []
  told k (u ∷ us) [] = []
  told k (u ∷ us) (x ∷ xs) = text_of k u x ++ told (suc k) us xs

  told_append : (k : ℕ) (us vs : List ℕ) (xs ys : List (List ℕ)) → length us ≡ length xs → told k (us ++ vs) (xs ++ ys) ≡ told k us xs ++ told (k + length us) vs ys
  unfolding told
  told_append k [] vs [] ys e = rw (add-zero k)
  told_append k [] vs (x ∷ xs) ys e = absurd (omega arith)
  told_append k (u ∷ us) vs [] ys e = absurd (omega arith)
  told_append k (u ∷ us) vs (x ∷ xs) ys e =
      let z : k + suc (length us) ≡ suc k + length us = omega arith in
      rw (z, told_append (suc k) us vs xs ys (omega arith)) (sym (append_assoc (text_of k u x) (told (suc k) us xs) (told (suc k + length us) vs ys)))

  told_from : (f : ℕ → ℕ) (g : ℕ → List ℕ) (us : List ℕ) (k n : ℕ) → length us ≡ n → ((i : ℕ) → i < n → f (k + i) ≡ get_or us i 0) → told k us (from g k n) ≡ after (λ i. text_of i (f i) (g i)) k n
  unfolding told from after
  told_from f g [] k zero e h = refl
  told_from f g (u ∷ us) k zero e h = absurd (omega arith)
  told_from f g [] k (suc n) e h = absurd (omega arith)
  told_from f g (u ∷ us) k (suc n) e h =
      let a : f k ≡ u = ap f (sym (add-zero k)) ∙ h 0 (omega arith) in
      let b = told_from f g us (suc k) n (omega arith) (λ i l. let z : suc k + i ≡ k + suc i = omega arith in rw z (h (suc i) (omega arith))) in
      rw (a, b)

module _ (l : Trees) (xs is : List ℕ) where
  abbrev fld : ℕ → Field
  fld k = field_in l xs is k

  -- A line of the paper.
  line_is : (s : Start) (j u : ℕ) (t : Forest Field) → j ≡ s.slot → nearest s.above ≡ above is u → line (row s (fld j) t) ≡ text_of is s.slot u (s.full ++ name_in l xs j)
  unfolding line_start
  line_is s j u t e p =
      rw (field_id l xs is j, field_name l xs is j, e, p)
      (sym (append_assoc (decimal s.slot) _ _
      ∙ ap (λ (z : List ℕ). decimal s.slot ++ (32 ∷ z)) (append_assoc (signed (id_in is s.slot)) _ _
      ∙ ap (λ (z : List ℕ). signed (id_in is s.slot) ++ (32 ∷ z)) (append_assoc (parent_text (above is u)) _ _))))

  rows_told : (f : Forest ℕ) (s : Start) (u : ℕ) → Numbered s.slot f → nearest s.above ≡ above is u → lines (rows s (mapped fld f)) ≡ told is s.slot (ups u f) (fulls (name_in l xs) s.full f)
  unfolding rows lines mapped ups fulls told size
  rows_told empty s u nd p = refl
  rows_told (node j f g) s u nd p =
      let z = size_mapped fld f in
      let k = s.slot in
      let ng : Numbered (suc (k + size (mapped fld f))) g = subst (λ y. Numbered y g) (let q : suc k + size f ≡ suc (k + size (mapped fld f)) = omega arith in q) nd.1.1 in
      let below_told = rows_told f (below s (fld j)) (suc j) nd.1.0 (ap some (field_id l xs is j)) in
      let beside_told = rows_told g (beside s (mapped fld f)) u ng p in
      let n = length_ups (suc j) f in
      let w : suc k + length (ups (suc j) f) ≡ suc (k + size (mapped fld f)) = omega arith in
      rw (
        lines_append (rows (below s (fld j)) (mapped fld f)) (rows (beside s (mapped fld f)) (mapped fld g)),
        below_told,
        beside_told,
        line_is s j u (mapped fld f) nd.0 p,
        field_name l xs is j,
        told_append is (suc k) (ups (suc j) f) (ups u g) (fulls (name_in l xs) (dotted s.full (name_in l xs j)) f) (fulls (name_in l xs) s.full g) (n ∙ sym (length_fulls (name_in l xs) (dotted s.full (name_in l xs j)) f)),
        w,
      )

-- ---- a planned tree

plan_listed : (l : Trees) (plan : PlanRows) (m : ℕ) (index : List (List ℕ)) → PlanIn l plan m → Raised (members plan) m (ups_in index) → lines (rows top (fields_in l plan m)) ≡ joined (line_at l plan index) m
unfolding line_at
plan_listed l plan m index p rs =
    let T = trees_of (kids_in (members plan)) m in
    let us = ups_in index in
    let n : length (ups 0 T) ≡ m = length_ups 0 T ∙ all_there (kids_in (members plan)) m in
    rw (plan_is l (sources plan) (numbers plan) (members plan) m p)
    (rows_told l (sources plan) (numbers plan) T top 0 (all_numbered (kids_in (members plan)) m) refl
    ∙ rw (← (fulls_are (names_in l plan) (kids_in (members plan)) m us rs.above))
    (told_from (numbers plan) (λ k. get_or us k 0) (full_in l plan index) (ups 0 T) 0 m n (λ i q. ap (λ (k : ℕ). get_or us k 0) (zero-add i) ∙ rs.above i q)
    ∙ all_joined (line_at l plan index) m))

-- ---- the lister

module _ (records pool : List ℕ) (at : ℕ) (out : List ℕ) (n : ℕ) (out' : List ℕ) where
  pub refusal_listed : (x : Refusal) → read records pool ≡ refused_as x → Shown (refusal_text x) at out n out' → Shown (lister records pool) at out n out'
  unfolding lister
  refusal_listed x e h = rw e h

  pub tree_listed : (r : Check) (plan : PlanRows) (m : ℕ) (index : List (List ℕ)) → Opened records pool r plan m index → r ≡ (Ok tt) → Shown (joined (line_at (alone records pool) plan index) m) at out n out' → Shown (lister records pool) at out n out'
  unfolding lister listing
  tree_listed r plan m index o q h = rw (o.tree q, plan_listed (alone records pool) plan m index (o.planned q) (o.indexed q).raised) h

pub ruleset listed = (reading, refusal_listed, tree_listed)
