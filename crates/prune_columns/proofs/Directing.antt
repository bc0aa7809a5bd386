-- Refusal 20: the siblings that are left say what all say. `search directing`.
use mathlib.Core.Path.{◌≡◌, refl, sym, ap, ◌∙◌}
use mathlib.Core.Bool.{Bool, true, false, cond}
use mathlib.Core.List.{List}
use mathlib.Core.Option.{Option, some}
use Prim.Native.Nat.{ℕ, suc, ◌+◌, ◌-◌, ◌<◌, ◌≤◌}
use native.Mathlib.Numerals.{add-one}
use native.Mathlib.Omega.{arith}
use Rattle.record.specs.declared.Refusal.{Refusal}
use Rattle.record.specs.Says.{refusal_of}
use Rattle.paper.specs.declared.Kind.{Kind}
use Rattle.paper.specs.declared.Role.{Role}
use Rattle.paper.specs.Answer.{or_else}
use Rattle.paper.specs.Forest.{size}
use Rattle.paper.specs.Field.{first, after}
use Rattle.paper.specs.Bytes.{kind_at, kids_at}
use Rattle.paper.specs.Layout.{Part}
use Rattle.tree.specs.Answers.{Walked}
use Rattle.std.specs.Prelude.{Ok, Err}
use Rattle.tree.specs.Says.{walked_to}
use Rattle.tree.proofs.Labels.{walked_goes, walked_stops, walked_end}
use Rattle.tree_walk.specs.There.{row_of, There}
use Rattle.tree_walk.proofs.Standing.{none_there, split, inner_past, rest_there, rest_next}
use Rattle.prune_columns.specs.Split.{direct, first_direct}
use Rattle.prune_columns.specs.Projected.{marked, Checked}

pub record Left (s marks : List ℕ) (full : Bool) (lv c k : ℕ) (r : Role) (left at : ℕ) (own : Role) : Type 0 where
  pub there : There s lv left at
  pub same : walked_to 20 0 (row_of s lv left at).next (first_direct (marked marks) (kind_at s) full own at (row_of s lv left at).trees)
      ≡ walked_to 20 0 (row_of s lv c k).next (first_direct (marked marks) (kind_at s) full r k (row_of s lv c k).trees)

module _ (s marks : List ℕ) (full : Bool) (lv c k : ℕ) (r : Role) where
  pub left_starts : There s lv c k → Left s marks full lv c k r c k r
  left_starts h = record { there = h; same = refl }

  module _ (left at : ℕ) (own : Role) (h : Left s marks full lv c k r left at own) where
    pub left_done : left ≤ 0 → Checked s marks full lv c k r (Ok at)
    unfolding first_direct walked_to
    left_done l = record { says = sym (ap (λ (p : Part). walked_to 20 0 p.next (first_direct (marked marks) (kind_at s) full own at p.trees)) (none_there s lv left at l)) ∙ h.same }

    module _ (l : 0 < left) (m : ℕ) (em : m ≡ kids_at s at) (q : Role) (eq : q ≡ first (kind_at s at)) (w : Walked) (ew : Checked s marks full (lv - 1) m (at + 1) q w) where
      inside : Part
      inside = row_of s (lv - 1) m (at + 1)

      rest : Part
      rest = row_of s lv (left - 1) inside.next

      later : Option ℕ
      later = cond (direct full own (marked marks at) (kind_at s at)) (some at) (first_direct (marked marks) (kind_at s) full (after own) inside.next rest.trees)

      -- the record's inside, the record, and what follows
      whole : walked_to 20 0 rest.next (or_else (first_direct (marked marks) (kind_at s) full q (at + 1) inside.trees) later)
          ≡ walked_to 20 0 (row_of s lv c k).next (first_direct (marked marks) (kind_at s) full r k (row_of s lv c k).trees)
      unfolding inside rest later first_direct
      whole =
          let e : inside.next ≡ suc (at + size inside.trees) = omega (arith, inner_past s lv left at h.there l m em) in
          let g : first_direct (marked marks) (kind_at s) full own at (row_of s lv left at).trees ≡ or_else (first_direct (marked marks) (kind_at s) full q (at + 1) inside.trees) later
          = rw (split s lv left at h.there l m em, eq, e, add-one at) in
          rw (← g, rest_next s lv left at h.there l m em inside.next refl) h.same

      pub left_stops : (t : Refusal) → w ≡ Err t → Checked s marks full lv c k r (Err t)
      unfolding inside
      left_stops t d = record { says = walked_stops 20 0 _ _ t _ later w ew.says d ∙ whole }

      module _ (j : ℕ) (d : w ≡ Ok j) (x : Bool) (ex : x ≡ marked marks at) (kd : Kind) (ek : kd ≡ kind_at s at) (b : Bool) (eb : b ≡ direct full own x kd) where
        decided : b ≡ direct full own (marked marks at) (kind_at s at)
        decided = eb ∙ rw (ex, ek)

        later_direct : b ≡ true → later ≡ some at
        unfolding later
        later_direct t = rw (← decided, t)

        later_goes : b ≡ false → later ≡ first_direct (marked marks) (kind_at s) full (after own) inside.next rest.trees
        unfolding later
        later_goes t = rw (← decided, t)

        onward : walked_to 20 0 rest.next later ≡ walked_to 20 0 (row_of s lv c k).next (first_direct (marked marks) (kind_at s) full r k (row_of s lv c k).trees)
        unfolding inside
        onward = sym (walked_goes 20 0 _ rest.next j _ later w ew.says d) ∙ whole

        pub left_direct : b ≡ true → Checked s marks full lv c k r (Err (refusal_of 20 0 at))
        unfolding walked_to
        left_direct t = record { says = sym (ap (walked_to 20 0 rest.next) (later_direct t)) ∙ onward }

        pub left_goes : (own' : Role) (left' : ℕ) → b ≡ false → own' ≡ after own → left' ≡ left - 1 → Left s marks full lv c k r left' j own'
        unfolding inside rest
        left_goes own' left' t eo el =
            let e = (walked_end 20 0 _ j _ w ew.says d).1 in
            rw el record {
              there = rest_there s lv left at h.there l m em j (sym e);
              same = rw (← e, eo) (sym (ap (walked_to 20 0 rest.next) (later_goes t)) ∙ onward);
            }

pub ruleset directing = (left_starts, left_done, left_stops, left_direct, left_goes)
