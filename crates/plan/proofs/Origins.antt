-- What a source's origin tells of its number, and of what the definitions take from it.
use Rattle.std.proofs.Common.{SomeIff, refl, subst, sub-one, ◌≡◌, ℕ, zero, suc, ◌+◌, ◌-◌, ◌*◌, ◌/◌, ◌<◌, ◌≤◌, List, length, sym, ap, ◌∙◌, arith, Some, None, Option}
use Rattle.std.proofs.lemmas.Grind.{common_steps}
use mathlib.Core.Bool.{true, cond}
use mathlib.Core.Logic.{⊎_elim}
use borrow.Author.Tests.{lt-ltb, le-ltb}
use lib.Dec.{ltb}
use Rattle.paper.specs.declared.Kind.{Kind}
use Rattle.paper.specs.Bytes.{rec_at, kind_at, in_pool, name_of}
use Rattle.paper.specs.Lists.{edit_at, edit_in, new_name}
use denote.Ref.{Bor}
use Rattle.record.specs.declared.Trees.{Trees as LentTrees}
use Rattle.record.specs.Trees.{Trees, trees_in}
use Rattle.tree.proofs.Filled.{lt_or_le}
use Rattle.plan.specs.declared.Edited.{Edited}
use Rattle.plan.specs.declared.Origin.{Origin}
use Rattle.plan.specs.declared.Origin.TheVariants as origin
use Rattle.plan.specs.Plan.{edited_slot, mark_of, low_part, renaming, by_source, marked_flags, marked_code, Sits}
use Rattle.plan.specs.Origin.{named, edited_of, origin_of, EditedIn, new_or, edited_len, edited_flags, edited_code}
use Rattle.plan.specs.Sources.{source_kind, source_len, source_flags, source_code, marked_len, NameAt, In}
use Rattle.plan.proofs.Sourcing.{source_cases, Part, name_base, name_added, name_kept, name_new}

-- ---- the number of an origin

at_base : (x k : ℕ) → origin.Base k ≡ origin_of x → (x < 1024) × (k ≡ x)
unfolding origin_of
at_base x k e = source_cases x
    (λ b. (b, (let h = rw (lt-ltb x 1024 b) at e in cc)))
    (λ b c. let h = rw (le-ltb x 1024 b, lt-ltb x 2048 c) at e in cc)
    (λ b c. let h = rw (le-ltb x 1024 b, le-ltb x 2048 c) at e in cc)

at_added : (x k : ℕ) → origin.Added k ≡ origin_of x → (1024 ≤ x) × (x < 2048) × (k ≡ x - 1024)
unfolding origin_of
at_added x k e = source_cases x
    (λ b. let h = rw (lt-ltb x 1024 b) at e in cc)
    (λ b c. (b, c, (let h = rw (le-ltb x 1024 b, lt-ltb x 2048 c) at e in cc)))
    (λ b c. let h = rw (le-ltb x 1024 b, le-ltb x 2048 c) at e in cc)

at_edited : (x : ℕ) (d : Edited) → origin.Edited d ≡ origin_of x → (2048 ≤ x) × (d ≡ edited_of x)
unfolding origin_of
at_edited x d e = source_cases x
    (λ b. let h = rw (lt-ltb x 1024 b) at e in cc)
    (λ b c. let h = rw (le-ltb x 1024 b, lt-ltb x 2048 c) at e in cc)
    (λ b c. (c, (let h = rw (le-ltb x 1024 b, le-ltb x 2048 c) at e in cc)))

module _ (x : ℕ) (o : Origin) (e : o ≡ origin_of x) where
  pub of_base : (k : ℕ) → o ≡ origin.Base k → (x < 1024) × (k ≡ x)
  of_base k q = at_base x k (sym q ∙ e)

  pub of_added : (k : ℕ) → o ≡ origin.Added k → (1024 ≤ x) × (x < 2048) × (k ≡ x - 1024)
  of_added k q = at_added x k (sym q ∙ e)

  pub of_edited : (d : Edited) → o ≡ origin.Edited d → (2048 ≤ x) × (d ≡ edited_of x)
  of_edited d q = at_edited x d (sym q ∙ e)

  -- What is told of the three kinds of sources in turn.
  module _ {A : Type 0} where
    pub told_base : (k : ℕ) → o ≡ origin.Base k → (f g : ℕ → A) (c r : A) → r ≡ f k → r ≡ by_source x (f x) (g (x - 1024)) c
    told_base k q f g c r h = let a = of_base k q in rw (lt-ltb x 1024 a.0) (h ∙ ap f a.1)

    pub told_added : (k : ℕ) → o ≡ origin.Added k → (f g : ℕ → A) (c r : A) → r ≡ g k → r ≡ by_source x (f x) (g (x - 1024)) c
    told_added k q f g c r h = let a = of_added k q in rw (le-ltb x 1024 a.0, lt-ltb x 2048 a.1) (h ∙ ap g a.2)

    pub told_edited : (d : Edited) → o ≡ origin.Edited d → (a b : A) (f : Edited → A) (r : A) → r ≡ f d → r ≡ by_source x a b (f (edited_of x))
    told_edited d q a b f r h = let p = of_edited d q in let l : 1024 ≤ x = omega (arith, p.0) in rw (le-ltb x 1024 l, le-ltb x 2048 p.0) (h ∙ ap f p.1)

-- ---- the edits that a mark names

named_none : (n : ℕ) → named n ≡ None → n ≡ 0
unfolding named
named_none zero e = refl
named_none (suc n) e = cc

named_some : (n k : ℕ) → named n ≡ Some k → n ≡ suc k
unfolding named
named_some zero k e = cc
named_some (suc n) k e = cc

new_none : (old : ℕ) (f : ℕ → ℕ) → new_or (named 0) old f ≡ old
unfolding named
new_none old f = refl

new_some : (q old : ℕ) (f : ℕ → ℕ) → 1 ≤ q → new_or (named q) old f ≡ f (q - 1)
unfolding named
new_some zero old f h = absurd (omega arith)
new_some (suc q) old f h = rw (sub-one (suc q))

new_is : (n q d old : ℕ) (f : ℕ → ℕ) → (n < d → q ≡ 0) → (d ≤ n → 1 ≤ q) → new_or (named q) old f ≡ cond (ltb n d) old (f (q - 1))
new_is n q d old f z s = ⊎_elim (λ b. rw (lt-ltb n d b, z b) (new_none old f)) (λ b. rw (le-ltb n d b) (new_some q old f (s b))) (lt_or_le n d)

-- ---- what an edited record takes from its edits

module _ (base edits : List ℕ) (x : ℕ) where
  pub len_same : edited_len base edits (edited_of x) ≡ marked_len base edits (mark_of x) (edited_slot x)
  unfolding edited_len marked_len
  len_same = new_is (low_part (mark_of x)) (low_part (mark_of x) / 2) 2 (rec_at base (edited_slot x)).name_len (λ k. (edit_at edits k).name_len) (λ b. omega arith) (λ b. omega arith)

  pub code_same : edited_code base edits (edited_of x) ≡ marked_code base edits (mark_of x) (edited_slot x)
  unfolding edited_code marked_code
  code_same = new_is (mark_of x) (mark_of x / 256) 256 (rec_at base (edited_slot x)).code (λ k. (edit_at edits k).code) (λ b. omega arith) (λ b. omega arith)

  pub flags_same : edited_flags base (edited_of x) ≡ marked_flags base (mark_of x) (edited_slot x)
  unfolding edited_flags marked_flags
  flags_same = refl

-- ---- what is asked of the three kinds

module _ (base added edits : List ℕ) (x : ℕ) (o : Origin) (h : In base added edits x) (e : o ≡ origin_of x) where
  pub base_there : (k : ℕ) → o ≡ origin.Base k → k * 24 + 24 ≤ length base
  base_there k q = let a = of_base x o e k q in rw a.1 (h.base_in a.0)

  pub added_there : (k : ℕ) → o ≡ origin.Added k → k * 24 + 24 ≤ length added
  added_there k q = let a = of_added x o e k q in rw a.2 (h.added_in a.0 a.1)

  pub edited_there : (d : Edited) → o ≡ origin.Edited d → EditedIn base edits d
  edited_there d q =
      let a = of_edited x o e d q in
      let low : low_part (mark_of x) / 2 * 2 ≤ low_part (mark_of x) = omega arith in
      rw a.1 (record {
        slot_in = h.edited_in a.0;
        renaming_in = λ k r. let z = named_some (low_part (mark_of x) / 2) k r in subst (λ (y : ℕ). y * 16 + 16 ≤ length edits) (omega arith) (h.renamed_in a.0 (omega arith));
        widening_in = λ k r. let z = named_some (mark_of x / 256) k r in subst (λ (y : ℕ). y * 16 + 16 ≤ length edits) (omega arith) (h.widened_in a.0 (omega arith));
      })

-- ---- `checked_sub`

pub named_by : (part : ℕ) (r : Option ℕ) → SomeIff r (1 ≤ part) (part - 1) → r ≡ named part
unfolding named
named_by zero None h = refl
named_by zero (Some x) h = grind (arith, common_steps)
named_by (suc part) None h = grind (arith, common_steps)
named_by (suc part) (Some x) h = grind (arith, common_steps)

-- ---- the same, told of an origin: `search telling`

module _ (base added edits : List ℕ) (x : ℕ) (o : Origin) (e : o ≡ origin_of x) where
  module _ (k : ℕ) (q : o ≡ origin.Base k) where
    pub kind_base : (r : Kind) → r ≡ kind_at base k → r ≡ source_kind base added x
    unfolding source_kind
    kind_base r h = told_base x o e k q (kind_at base) (kind_at added) (kind_at base (edited_slot x)) r h

    pub flags_base : (r : ℕ) → r ≡ (rec_at base k).flags → r ≡ source_flags base added x
    unfolding source_flags
    flags_base r h = told_base x o e k q (λ j. (rec_at base j).flags) (λ j. (rec_at added j).flags) _ r h

    pub code_base : (r : ℕ) → r ≡ (rec_at base k).code → r ≡ source_code base added edits x
    unfolding source_code
    code_base r h = told_base x o e k q (λ j. (rec_at base j).code) (λ j. (rec_at added j).code) _ r h

    pub len_base : (r : ℕ) → r ≡ (rec_at base k).name_len → r ≡ source_len base added edits x
    unfolding source_len
    len_base r h = told_base x o e k q (λ j. (rec_at base j).name_len) (λ j. (rec_at added j).name_len) _ r h

  module _ (k : ℕ) (q : o ≡ origin.Added k) where
    pub kind_added : (r : Kind) → r ≡ kind_at added k → r ≡ source_kind base added x
    unfolding source_kind
    kind_added r h = told_added x o e k q (kind_at base) (kind_at added) (kind_at base (edited_slot x)) r h

    pub flags_added : (r : ℕ) → r ≡ (rec_at added k).flags → r ≡ source_flags base added x
    unfolding source_flags
    flags_added r h = told_added x o e k q (λ j. (rec_at base j).flags) (λ j. (rec_at added j).flags) _ r h

    pub code_added : (r : ℕ) → r ≡ (rec_at added k).code → r ≡ source_code base added edits x
    unfolding source_code
    code_added r h = told_added x o e k q (λ j. (rec_at base j).code) (λ j. (rec_at added j).code) _ r h

    pub len_added : (r : ℕ) → r ≡ (rec_at added k).name_len → r ≡ source_len base added edits x
    unfolding source_len
    len_added r h = told_added x o e k q (λ j. (rec_at base j).name_len) (λ j. (rec_at added j).name_len) _ r h

  module _ (d : Edited) (q : o ≡ origin.Edited d) where
    pub kind_edited : (r : Kind) → r ≡ kind_at base d.slot → r ≡ source_kind base added x
    unfolding source_kind
    kind_edited r h = told_edited x o e d q _ _ (λ (z : Edited). kind_at base z.slot) r h

    pub flags_edited : (r : ℕ) → r ≡ edited_flags base d → r ≡ source_flags base added x
    unfolding source_flags
    flags_edited r h = rw (← flags_same base edits x) (told_edited x o e d q _ _ (edited_flags base) r h)

    pub code_edited : (r : ℕ) → r ≡ edited_code base edits d → r ≡ source_code base added edits x
    unfolding source_code
    code_edited r h = rw (← code_same base edits x) (told_edited x o e d q _ _ (edited_code base edits) r h)

    pub len_edited : (r : ℕ) → r ≡ edited_len base edits d → r ≡ source_len base added edits x
    unfolding source_len
    len_edited r h = rw (← len_same base edits x) (told_edited x o e d q _ _ (edited_len base edits) r h)

pub ruleset telling =
    (base_there, added_there, edited_there, kind_base, flags_base, code_base, len_base, kind_added, flags_added, code_added, len_added, kind_edited, flags_edited, code_edited, len_edited)

-- ---- the name as a part of its pool: `search naming`

module _ (l : Trees) (x : ℕ) (o : Origin) (h : Sits l x) (e : o ≡ origin_of x) where
  pub base_sits : (k : ℕ) → o ≡ origin.Base k → (k * 24 + 24 ≤ length l.records) × (in_pool (length l.pool) l.records k ≡ true)
  base_sits k q = let a = of_base x o e k q in rw a.1 (h.base_in a.0, h.base_named a.0)

  pub added_sits : (k : ℕ) → o ≡ origin.Added k → (k * 24 + 24 ≤ length l.added_records) × (in_pool (length l.request_pool) l.added_records k ≡ true)
  added_sits k q = let a = of_added x o e k q in rw a.2 (h.added_in a.0 a.1, h.added_named a.0 a.1)

  module _ (d : Edited) (q : o ≡ origin.Edited d) where
    pub edited_sits : (d.slot * 24 + 24 ≤ length l.records) × (in_pool (length l.pool) l.records d.slot ≡ true)
    edited_sits = let a = of_edited x o e d q in rw a.1 (h.edited_in a.0, h.edited_named a.0)

    pub renamed_sits : (k : ℕ) → d.renaming ≡ Some k → (k * 16 + 16 ≤ length l.edits) × ((edit_at l.edits k).what ≡ 1) × (edit_in (length l.request_pool) l.edits k ≡ true)
    renamed_sits k r =
        let a = of_edited x o e d q in
        let z = named_some (low_part (mark_of x) / 2) k (sym (ap (λ (y : Edited). y.renaming) a.1) ∙ r) in
        let i : renaming (mark_of x) ≡ k = omega arith in
        let m : 2 ≤ low_part (mark_of x) = omega arith in
        rw (← i) (h.renamed_in a.0 m, h.renamed_what a.0 m, h.renamed_named a.0 m)

module _ (lent : LentTrees) (x : ℕ) (o : Origin) (e : o ≡ origin_of x) (r : Bor (List ℕ)) where
  pub base_part : (k : ℕ) → o ≡ origin.Base k → Part lent x r (name_of (trees_in lent).pool (trees_in lent).records k) lent.pool (rec_at (trees_in lent).records k).name_at → NameAt lent x r
  base_part k q h = let a = of_base x o e k q in let g = rw a.1 at h in name_base lent x r a.0 g

  pub added_part : (k : ℕ) → o ≡ origin.Added k → Part lent x r (name_of (trees_in lent).request_pool (trees_in lent).added_records k) lent.request_pool (rec_at (trees_in lent).added_records k).name_at → NameAt lent x r
  added_part k q h = let a = of_added x o e k q in let g = rw a.2 at h in name_added lent x r a.0 a.1 g

  module _ (d : Edited) (q : o ≡ origin.Edited d) where
    pub kept_part : d.renaming ≡ None → Part lent x r (name_of (trees_in lent).pool (trees_in lent).records d.slot) lent.pool (rec_at (trees_in lent).records d.slot).name_at → NameAt lent x r
    kept_part n h =
        let a = of_edited x o e d q in
        let z = named_none (low_part (mark_of x) / 2) (sym (ap (λ (y : Edited). y.renaming) a.1) ∙ n) in
        name_kept lent x r a.0 (low_part (mark_of x)) refl d.slot (ap (λ (y : Edited). y.slot) a.1) (omega arith) h

    pub new_part : (k : ℕ) → d.renaming ≡ Some k → Part lent x r (new_name (trees_in lent).request_pool (trees_in lent).edits k) lent.request_pool (edit_at (trees_in lent).edits k).name_at → NameAt lent x r
    new_part k n h =
        let a = of_edited x o e d q in
        let z = named_some (low_part (mark_of x) / 2) k (sym (ap (λ (y : Edited). y.renaming) a.1) ∙ n) in
        let i : k ≡ low_part (mark_of x) / 2 - 1 = omega arith in
        let g = rw i at h in
        name_new lent x r a.0 (low_part (mark_of x)) refl (omega arith) g

pub ruleset naming = (base_part, added_part, kept_part, new_part)
