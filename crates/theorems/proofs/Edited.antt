-- Edits keep a tree fit: a new name is as short as a byte says, and only members are renamed, so elements, keys and
-- values keep their names; a new type code is of 32 bits, and of a primitive.
use Prim.Native.Nat.{ℕ, zero, suc, ◌-◌, ◌*◌, ◌+◌, ◌<◌}
use mathlib.Core.Path.{◌≡◌, refl, sym, ◌∙◌}
use mathlib.Core.Logic.{inl, inr}
use mathlib.Core.Bool.{Bool, true, false, ◌&&◌, ◌||◌, cond, true≢false}
use mathlib.Core.List.{List, [], ◌∷◌, ◌++◌}
use mathlib.Core.Option.{Option, none, some}
use native.Mathlib.Omega.{arith}
use lib.Dec.{eqb}
use lib.ListN.{length, drop, length-take}
use borrow.Author.Tests.{eqb-true}
use Rattle.paper.specs.declared.Kind.{Kind}
use Rattle.paper.specs.declared.Kind.TheVariants.{Primitive, Structure, Listing, Mapping}
use Rattle.paper.specs.declared.Role.{Role}
use Rattle.paper.specs.declared.Role.TheVariants.{Member, Element, Key, Value}
use Rattle.paper.specs.Forest.{Forest, empty, node, siblings, mapped}
use Rattle.paper.specs.Field.{Field, is_member, is_required, is_primitive}
use Rattle.paper.specs.Rows.{Row, Start, top, row, below, beside, rows, look_name}
use Rattle.paper.specs.Sound.{fitting, ids}
use Rattle.paper.specs.Edits.{Change, rename, relax, widen, Edit, Edited, forbidden, no_step, with_change, edit_field}
use Rattle.paper.specs.Edits.{edit_fields, edited_tree}
use Rattle.paper.specs.Bytes.{word32, from}
use Rattle.paper.specs.Encode.{kind_byte}
use Rattle.paper.specs.Lists.{edit_at, entries, new_name, edit_of, edit_list}
use Rattle.laws.specs.Members.{◌∈◌}
use Rattle.laws.specs.Fit.{Bytes, Holds}
use Rattle.laws.proofs.Basics.{in_left, in_right, Distinct}
use Rattle.laws.proofs.Preorder.{siblings_mapped}
use Rattle.laws.proofs.Edited.{edits_keep_kind}
use Rattle.theorems.specs.Columns.{set_one, set_by, named_by, new_names}
use Rattle.theorems.proofs.Columns.{one_row}
use Rattle.theorems.proofs.Shaped.{Shaped}
use Rattle.theorems.proofs.Setting.{name_last, Steps, a_step, AllDecided, row_steps}

-- ---- what holds of each change that is asked holds of each that is set

module _ (P : Change → Type 0) where
  abbrev pub AllAsked : List Edit → Type 0
  AllAsked [] = Unit {0}
  AllAsked (e ∷ es) = P e.change × AllAsked es

  abbrev pub AllSet : List Edited → Type 0
  AllSet [] = Unit {0}
  AllSet (e ∷ es) = P e.change × AllSet es

  pub all_set : (t : Forest Field) (es : List Edit) → AllAsked es → AllSet (set_by t es)
  all_set t [] h = tt
  all_set t (e ∷ es) h = go (look_name t e.path) (all_set t es h.1)
    where
      go : (o : Option Row) → AllSet (set_by t es) → AllSet (set_one o e.change ++ set_by t es)
      go none k = k
      go (some r) k = (h.0, k)

  pub set_in : (es : List Edited) → AllSet es → (e : Edited) → e ∈ es → P e.change
  set_in [] h e i = absurd i
  set_in (x ∷ es) h e (inl q) = rw q h.0
  set_in (x ∷ es) h e (inr i) = set_in es h.1 e i

  -- Of edits that are lent: of a new name, of a relaxing and of a widening.
  pub all_lent : (v : ℕ) (pool edits : List ℕ) → ((k : ℕ) → P (rename (new_name pool edits k))) → P relax
      → ((k : ℕ) → P (widen v (edit_at edits k).code)) → AllAsked (edit_list v pool edits)
  unfolding edit_list edit_of from
  all_lent v pool edits new less wide = go 0 (entries 16 edits)
    where
      one : (k : ℕ) (c d : Bool)
          → P (cond c (rename (new_name pool edits k)) (cond d relax (widen v (edit_at edits k).code)))
      one k true d = new k
      one k false true = less
      one k false false = wide k

      go : (k m : ℕ) → AllAsked (from (edit_of v pool edits) k m)
      go k zero = tt
      go k (suc m) = (one k (eqb (edit_at edits k).what 1) (eqb (edit_at edits k).what 2), go (suc k) m)

-- ---- new names are short, new type codes are of 32 bits

abbrev pub FitChange : Change → Type 0
FitChange (rename x) = length x < 256
FitChange relax = Unit {0}
FitChange (widen v x) = x < 4294967296

-- The length of a new name is a byte, and a new type code is four.
pub fit_lent : (v : ℕ) (pool edits : List ℕ) → Bytes edits → AllAsked FitChange (edit_list v pool edits)
unfolding new_name word32
fit_lent v pool edits b =
    all_lent FitChange v pool edits
    (λ k.
    let l = length-take (edit_at edits k).name_len (drop (edit_at edits k).name_at pool) in
    let z = b (k * 16 + 12) in
    omega arith)
    tt
    (λ k.
    let x = b (k * 16 + 8) in
    let y = b (k * 16 + 8 + 1) in
    let z = b (k * 16 + 8 + 2) in
    let w = b (k * 16 + 8 + 3) in
    omega arith)

-- ---- each widening carries the version that its request names

abbrev Names : (version : ℕ) → Change → Type 0
Names v (rename x) = Unit {0}
Names v relax = Unit {0}
Names v (widen w x) = w ≡ v

pub versions_lent : (v : ℕ) (pool edits : List ℕ) (t : Forest Field) (x w y : ℕ)
    → record { id = x; change = widen w y } ∈ set_by t (edit_list v pool edits) → w ≡ v
versions_lent v pool edits t x w y h =
    let asked = all_lent (Names v) v pool edits (λ _. tt) tt (λ _. refl) in
    set_in (Names v) (set_by t (edit_list v pool edits)) (all_set (Names v) t (edit_list v pool edits) asked)
    (record { id = x; change = widen w y }) h

-- ---- one record

holds_changed : (c : Change) (f : Field) (k : ℕ) → FitChange c → no_step c f ≡ false → Holds f k
    → Holds (with_change c f) k
holds_changed (rename x) f k s o h =
    record {
      id = h.id;
      name = s;
      flags = h.flags;
      code = h.code;
      typed = h.typed;
      attribute = h.attribute;
      kids = h.kids;
    }
holds_changed relax f k s o h =
    record {
      id = h.id;
      name = h.name;
      flags = below_4 (is_required f.flags) h.flags;
      code = h.code;
      typed = h.typed;
      attribute = h.attribute;
      kids = h.kids;
    }
  where
    below_4 : (b : Bool) → f.flags < 4 → cond b (f.flags - 1) f.flags < 4
    below_4 true l = omega arith
    below_4 false l = l
holds_changed (widen v x) f k s o h =
    record {
      id = h.id;
      name = h.name;
      flags = h.flags;
      code = s;
      typed = primitive_typed f.kind (a_step v x f o).0;
      attribute = h.attribute;
      kids = h.kids;
    }
  where
    primitive_typed : (kind : Kind) → is_primitive kind ≡ true → (eqb (kind_byte kind) 0 || eqb x 0) ≡ true
    primitive_typed Primitive e = refl
    primitive_typed Structure e = absurd (true≢false (sym e))
    primitive_typed Listing e = absurd (true≢false (sym e))
    primitive_typed Mapping e = absurd (true≢false (sym e))

holds_edited : (es : List Edited) (f : Field) (k : ℕ) → AllSet FitChange es → Steps f es → Holds f k → Holds (edit_fields es f) k
unfolding edit_fields
holds_edited [] f k s o h = h
holds_edited (e ∷ es) f k s o h = holds_edited es (edit_field e f) k s.1 o.1 (go (eqb e.id f.id) o.0)
  where
    go : (b : Bool) → (b && no_step e.change f) ≡ false → Holds (cond b (with_change e.change f) f) k
    go true q = holds_changed e.change f k s.0 q h
    go false q = h

-- ---- what keeps its name

member_fits : (r : Role) (x : List ℕ) → is_member r ≡ true → fitting r x ≡ true
unfolding fitting
member_fits Member x e = refl
member_fits Element x e = absurd (true≢false (sym e))
member_fits Key x e = absurd (true≢false (sym e))
member_fits Value x e = absurd (true≢false (sym e))

-- No element, key or value gets a new name.
unnamed : (t : Forest Field) (ds : List ℕ) (earlier es : List Edited) → Distinct (ids t) → AllDecided t ds earlier es
    → (r : Row) → r ∈ rows top t → is_member r.role ≡ false → new_names r.field.id es ≡ []
unnamed t ds earlier [] d a r h m = refl
unnamed t ds earlier (e ∷ es) d a r h m =
    rw (unnamed t ds (earlier ++ (e ∷ [])) es d a.1 r h m)
    (go (eqb e.id r.field.id) refl e.change a.0.allowed)
  where
    go : (b : Bool) → eqb e.id r.field.id ≡ b → (c : Change) → forbidden c a.0.row.role ≡ false
        → cond b (named_by c) [] ++ [] ≡ []
    go false q c f = refl
    go true q relax f = refl
    go true q (widen v x) f = refl
    go true q (rename x) f =
        let same = one_row t d a.0.row r a.0.there h (a.0.its_id ∙ eqb-true e.id r.field.id q) in
        let no : is_member a.0.row.role ≡ false = rw same m in
        absurd (true≢false (rw no at f))

-- ---- a tree

-- Of each row: what is no member gets no new name, and what is widened takes a step.
abbrev Edits : List Edited → Start → Forest Field → Type 0
Edits es s t =
    (r : Row) → r ∈ rows s t → (is_member r.role ≡ false → new_names r.field.id es ≡ []) × Steps r.field es

shaped_edited : (es : List Edited) → AllSet FitChange es → (s : Start) (t : Forest Field) → Edits es s t → Shaped s.role t
    → Shaped s.role (edited_tree es t)
unfolding rows mapped
shaped_edited es k s empty u h = tt
shaped_edited es k s (node f m n) u h =
    let g = edit_fields es f in
    let inner =
    shaped_edited es k (below s f) m (λ r i. u r (inr (in_left r (rows (below s f) m) (rows (beside s m) n) i))) h.2 in
    let outer =
    shaped_edited es k (beside s m) n (λ r i. u r (inr (in_right r (rows (below s f) m) (rows (beside s m) n) i))) h.3 in (
      rw (siblings_mapped (edit_fields es) m) (holds_edited es f (siblings m) k (u (row s f m) (inl refl)).1 h.0),
      go (is_member s.role) refl,
      rw (edits_keep_kind es f) inner,
      outer,
    )
  where
    go : (b : Bool) → is_member s.role ≡ b → fitting s.role (edit_fields es f).name ≡ true
    go true e = member_fits s.role (edit_fields es f).name e
    go false e = rw (name_last es f, (u (row s f m) (inl refl)).0 e) h.1

pub edited_shaped : (t : Forest Field) (ds : List ℕ) (es : List Edited) → Distinct (ids t) → AllDecided t ds [] es
    → AllSet FitChange es → Shaped Member t → Shaped Member (edited_tree es t)
edited_shaped t ds es d a k h = shaped_edited es k top t (λ r i. (unnamed t ds [] es d a r i, row_steps t ds es d a r i)) h
