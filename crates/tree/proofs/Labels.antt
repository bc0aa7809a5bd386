-- Refusal 6 by a loop over the trees of a row: what is left says the same as the whole. `search labelling`.
use mathlib.Core.Path.{◌≡◌, refl, sym, ◌∙◌}
use mathlib.Core.List.{List}
use mathlib.Core.Bool.{Bool, true, false, not}
use mathlib.Core.Option.{Option, none, some}
use Prim.Native.Nat.{ℕ, suc, ◌+◌, ◌*◌, ◌-◌, ◌<◌, ◌≤◌}
use native.Mathlib.Numerals.{add-one}
use native.Mathlib.Omega.{arith}
use borrow.Author.Tests.{not-true, not-false}
use lib.ListN.{length}
use Rattle.record.specs.declared.Refusal.{Refusal}
use Rattle.paper.specs.declared.Role.{Role}
use Rattle.paper.specs.declared.Role.TheVariants.{Member, Element, Key, Value}
use Rattle.paper.specs.Answer.{lowest, same, or_else}
use Rattle.paper.specs.Forest.{Forest, empty, node, size, mapped}
use Rattle.paper.specs.Field.{first, after}
use Rattle.paper.specs.Sound.{fitting, misnamed, text}
use Rattle.tree.specs.Answers.{Walked}
use Rattle.std.specs.Prelude.{Ok, Err}
use Rattle.paper.specs.Bytes.{in_pool, name_of, field_at, kind_at, kids_at}
use Rattle.paper.specs.Layout.{Part}
use Rattle.tree.specs.Read.{part, reads}
use Rattle.paper.specs.Decode.{fields}
use Rattle.record.specs.Says.{refusal_of}
use Rattle.tree.specs.Says.{walked_to, Labelled}
use Rattle.tree.proofs.Steps.{part_none, part_in, part_full, few, shallow, reads_inner, reads_rest, next_in}
use Rattle.laws.proofs.Fitting.{size_mapped, lowest_none}

-- ---- the walk

module _ (pool s : List ℕ) where
  misnamed_bad : (r : Role) (k : ℕ) (m n : Forest ℕ) → fitting r (name_of pool s k) ≡ false → misnamed r k (fields pool s (node k m n)) ≡ some k
  unfolding misnamed fields mapped field_at
  misnamed_bad r k m n e = rw e

  pub misnamed_good : (r q q' : Role) (k j : ℕ) (m n : Forest ℕ) → fitting r (name_of pool s k) ≡ true → q ≡ first (kind_at s k) → q' ≡ after r → j ≡ suc (k + size m)
      → misnamed r k (fields pool s (node k m n)) ≡ or_else (misnamed q (k + 1) (fields pool s m)) (misnamed q' j (fields pool s n))
  unfolding misnamed fields mapped field_at
  misnamed_good r q q' k j m n e eq eq' ej = rw (e, size_mapped (field_at pool s) m, eq, eq', ej, add-one k)

  pub misnamed_none : (r : Role) (k : ℕ) → misnamed r k (fields pool s empty) ≡ none
  unfolding misnamed fields mapped
  misnamed_none r k = refl

pub walked_goes : (num li next next' j : ℕ) (x y : Option ℕ) (w : Walked) → w ≡ walked_to num li next x → w ≡ Ok j → walked_to num li next' (or_else x y) ≡ walked_to num li next' y
unfolding walked_to
walked_goes num li next next' j none y w e d = refl
walked_goes num li next next' j (some p) y w e d = let z : ◌≡◌ {A = ℕ} 0 1 = cc in absurd (omega arith)

pub walked_stops : (num li next next' : ℕ) (t : Refusal) (x y : Option ℕ) (w : Walked) → w ≡ walked_to num li next x → w ≡ Err t → Err t ≡ walked_to num li next' (or_else x y)
unfolding walked_to
walked_stops num li next next' t none y w e d = let z : ◌≡◌ {A = ℕ} 0 1 = cc in absurd (omega arith)
walked_stops num li next next' t (some p) y w e d = cc

pub walked_end : (num li next j : ℕ) (x : Option ℕ) (w : Walked) → w ≡ walked_to num li next x → w ≡ Ok j → (x ≡ none) × (next ≡ j)
unfolding walked_to
walked_end num li next j none w e d = (refl, cc)
walked_end num li next j (some p) w e d = let z : ◌≡◌ {A = ℕ} 0 1 = cc in absurd (omega arith)

-- what is to be said of c trees from slot k on
abbrev Said : (pool s : List ℕ) (li n lv c k : ℕ) (r : Role) → Walked
Said pool s li n lv c k r = walked_to 6 li (part li (kids_at s) n lv c k).next (misnamed r k (fields pool s (part li (kids_at s) n lv c k).trees))

module _ (pool s : List ℕ) (li n lv c k : ℕ) (r : Role) where
  said_none : c ≡ 0 → Ok k ≡ Said pool s li n lv c k r
  unfolding walked_to
  said_none e = rw (part_none li (kids_at s) n lv c k e, misnamed_none pool s r k)

  module _ (sr : reads li (kids_at s) n lv c k ≡ true) (h : c ≡ 0 → ⊥) where
    said_bad : fitting r (name_of pool s k) ≡ false → Err (refusal_of 6 li k) ≡ Said pool s li n lv c k r
    unfolding walked_to
    said_bad e = rw (part_in li (kids_at s) n lv c k sr (kids_at s k) h refl, misnamed_bad pool s r k _ _ e)

    module _ (m : ℕ) (em : m ≡ kids_at s k) (e : fitting r (name_of pool s k) ≡ true) (q : Role) (eq : q ≡ first (kind_at s k)) where
      inside : Part
      inside = part li (kids_at s) n (lv - 1) m (k + 1)

      -- the first tree's name fits: its inside, then the rest
      said_in : Said pool s li n lv c k r ≡ walked_to 6 li (part li (kids_at s) n lv (c - 1) inside.next).next (or_else (misnamed q (k + 1) (fields pool s inside.trees)) (misnamed (after r) inside.next (fields pool s (part li (kids_at s) n lv (c - 1) inside.next).trees)))
      unfolding inside
      said_in =
          let f = part_full li (kids_at s) n (lv - 1) m (k + 1) (reads_inner li (kids_at s) n lv c k sr m h em) in
          let d : inside.next ≡ suc (k + size inside.trees) = omega (arith, f.next) in
          rw (part_in li (kids_at s) n lv c k sr m h em, misnamed_good pool s r q (after r) k inside.next inside.trees (part li (kids_at s) n lv (c - 1) inside.next).trees e eq refl d)

      module _ (w : Walked) (ew : w ≡ Said pool s li n (lv - 1) m (k + 1) q) where
        said_goes : (j : ℕ) → w ≡ Ok j → Said pool s li n lv (c - 1) j (after r) ≡ Said pool s li n lv c k r
        unfolding inside
        said_goes j d = rw (← (walked_end 6 li _ j _ w ew d).1) (sym (said_in ∙ walked_goes 6 li _ _ j _ _ w ew d))

        said_stops : (y : Refusal) → w ≡ Err y → Err y ≡ Said pool s li n lv c k r
        unfolding inside
        said_stops y d = walked_stops 6 li _ _ y _ _ w ew d ∙ sym said_in

-- ---- the loop: what is left of a row says the same as the whole row

pub record Onward (pool s : List ℕ) (li n lv c k : ℕ) (r : Role) (c' k' : ℕ) (r' : Role) : Type 0 where
  pub few : k' + c' ≤ n
  pub shallow : c' ≤ lv * 1024
  pub read : reads li (kids_at s) n lv c' k' ≡ true
  pub same : Said pool s li n lv c' k' r' ≡ Said pool s li n lv c k r

module _ (pool s : List ℕ) (li n lv c k : ℕ) (r : Role) (l : n ≤ 1024) where
  pub label_starts : k ≤ n → reads li (kids_at s) n lv c k ≡ true → Onward pool s li n lv c k r c k r
  label_starts h e = record { few = few li (kids_at s) n lv c k e h; shallow = shallow li (kids_at s) n lv c k e h l; read = e; same = refl }

  module _ (c' k' : ℕ) (r' : Role) (o : Onward pool s li n lv c k r c' k' r') where
    pub label_ends : c' ≤ 0 → Labelled pool s li n lv c k r (Ok k')
    label_ends h = record { says = said_none pool s li n lv c' k' r' (omega arith) ∙ o.same }

    module _ (h : 0 < c') (b : Bool) (eb : b ≡ fitting r' (name_of pool s k')) where
      pub label_bad : not b ≡ true → Labelled pool s li n lv c k r (Err (refusal_of 6 li k'))
      label_bad t = record { says = said_bad pool s li n lv c' k' r' o.read (λ z. omega arith) (sym eb ∙ not-true b t) ∙ o.same }

      module _ (t : not b ≡ false) (m : ℕ) (em : m ≡ kids_at s k') (q : Role) (eq : q ≡ first (kind_at s k')) (w : Walked) (ew : Labelled pool s li n (lv - 1) m (k' + 1) q w) where
        pub label_goes : (j : ℕ) (q' : Role) → w ≡ Ok j → q' ≡ after r' → Onward pool s li n lv c k r (c' - 1) j q'
        label_goes j q' d e =
            let nx = sym (walked_end 6 li _ j _ w ew.says d).1 in
            let jn = next_in li (kids_at s) n lv c' k' o.read m (λ z. omega arith) em j (omega arith) nx in
            let rd = reads_rest li (kids_at s) n lv c' k' o.read m (λ z. omega arith) em j nx in
            record {
              few = few li (kids_at s) n lv (c' - 1) j rd jn;
              shallow = shallow li (kids_at s) n lv (c' - 1) j rd jn l;
              read = rd;
              same = rw e (said_goes pool s li n lv c' k' r' o.read (λ z. omega arith) m em (sym eb ∙ not-false b t) q eq w ew.says j d ∙ o.same);
            }

        pub label_stops : (y : Refusal) → w ≡ Err y → Labelled pool s li n lv c k r (Err y)
        label_stops y d = record { says = said_stops pool s li n lv c' k' r' o.read (λ z. omega arith) m em (sym eb ∙ not-false b t) q eq w ew.says y d ∙ o.same }

      -- inside a leaf no name is wrong
      pub label_leaf : not b ≡ false → (m : ℕ) → m ≡ kids_at s k' → m ≡ 0 → (q' : Role) → q' ≡ after r' → Onward pool s li n lv c k r (c' - 1) (k' + 1) q'
      label_leaf t m em z q' e =
          let q = first (kind_at s k') in
          label_goes t m em q refl (Ok (k' + 1)) (record { says = said_none pool s li n (lv - 1) m (k' + 1) q z }) (k' + 1) q' refl e

    -- what the calls ask
    pub label_reads : (m : ℕ) → 0 < c' → m ≡ kids_at s k' → reads li (kids_at s) n (lv - 1) m (k' + 1) ≡ true
    label_reads m h em = reads_inner li (kids_at s) n lv c' k' o.read m (λ z. omega arith) em

    pub label_pool : 0 < c' → lowest (in_pool (length pool) s) 0 n ≡ none → in_pool (length pool) s k' ≡ true
    label_pool h e = lowest_none (in_pool (length pool) s) 0 n e k' (omega arith) (omega arith)

pub ruleset labelling = (label_starts, label_ends, label_bad, label_goes, label_stops, label_leaf, label_reads, label_pool)

-- ---- the names of the roles

module _ (x : List ℕ) (r : Role) where
  pub fits_member : r ≡ Member → true ≡ fitting r x
  unfolding fitting
  fits_member d = rw d

  pub fits_element : (b : Bool) → r ≡ Element → b ≡ same x (text "element") → b ≡ fitting r x
  unfolding fitting
  fits_element b d e = rw d e

  pub fits_key : (b : Bool) → r ≡ Key → b ≡ same x (text "key") → b ≡ fitting r x
  unfolding fitting
  fits_key b d e = rw d e

  pub fits_value : (b : Bool) → r ≡ Value → b ≡ same x (text "value") → b ≡ fitting r x
  unfolding fitting
  fits_value b d e = rw d e

pub ruleset fits = (fits_member, fits_element, fits_key, fits_value)
