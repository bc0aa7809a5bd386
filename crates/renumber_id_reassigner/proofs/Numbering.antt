-- A loop over siblings: what is left to number gives the whole. `search numbering`.
use mathlib.Core.Path.{◌≡◌, refl, sym, ap, ◌∙◌}
use mathlib.Core.Bool.{Bool, true, false, cond}
use mathlib.Core.List.{List, [], ◌∷◌, ◌++◌, map-append}
use Prim.Native.Nat.{ℕ, suc, ◌+◌, ◌-◌, ◌<◌, ◌≤◌}
use native.Mathlib.Numerals.{add-one}
use native.Mathlib.Omega.{arith}
use lib.ListN.{length, set, length-append}
use lib.Seq.{sets}
use Rattle.paper.specs.declared.Kind.{Kind}
use Rattle.paper.specs.Forest.{Forest, empty, node, size, preorder}
use Rattle.paper.specs.Field.{is_map}
use Rattle.paper.specs.Bytes.{turned, kind_at, kids_at, slots}
use Rattle.paper.specs.Layout.{Part, before}
use Rattle.paper.specs.Renumber.{inside_first, level}
use Rattle.laws.proofs.Written.{siblings_size}
use Rattle.laws.proofs.Runs.{sets_append}
use Rattle.plan.specs.Plan.{bits_of}
use Rattle.tree.proofs.Filled.{Full}
use Rattle.tree.proofs.Steps.{part_none}
use Rattle.tree_walk.specs.There.{row_of, There}
use Rattle.tree_walk.proofs.Standing as standing
use Rattle.tree_walk.proofs.Standing.{none_there, there_full, inner_there, rest_there}
use Rattle.renumber_id_reassigner.specs.declared.Reassigned.{Reassigned}
use Rattle.renumber_id_reassigner.specs.Numbers.{numbered_source, new_ids, Room, Given}

-- ---- the new ids of a row

module _ (kind : ℕ → Kind) where
  new_none : (m? : Bool) (own next : ℕ) → new_ids kind m? own next empty ≡ []
  unfolding new_ids level preorder
  new_none m? own next = refl

  pub new_node : (m? : Bool) (own next k : ℕ) (m n : Forest ℕ) → new_ids kind m? own next (node k m n)
      ≡ turned own ∷ (new_ids kind (is_map (kind k)) next (inside_first (is_map (kind k)) next m) m ++ new_ids kind m? (cond m? (next + size m) (suc own)) (cond m? (suc (next + size m)) (next + size m)) n)
  unfolding new_ids level preorder
  new_node m? own next k m n =
      let u = level numbered_source kind (is_map (kind k)) next (inside_first (is_map (kind k)) next m) m in
      let v = level numbered_source kind m? (cond m? (next + size m) (suc own)) (cond m? (suc (next + size m)) (next + size m)) n in
      ap (λ (l : List ℕ). turned own ∷ l) (map-append bits_of (preorder u) (preorder v))

  pub length_new : (m? : Bool) (own next : ℕ) (t : Forest ℕ) → length (new_ids kind m? own next t) ≡ size t
  unfolding size
  length_new m? own next empty = rw (new_none m? own next)
  length_new m? own next (node k m n) =
      let a = length_new (is_map (kind k)) next (inside_first (is_map (kind k)) next m) m in
      let b = length_new m? (cond m? (next + size m) (suc own)) (cond m? (suc (next + size m)) (next + size m)) n in
      rw (new_node m? own next k m n) (ap suc (simp length-append (omega arith)))

-- ---- the counter

-- Of `left` siblings of which the first gets `own`, with z records, when all is done the counter stands at `total`.
abbrev pub Counted : Bool → (own next left z total : ℕ) → Type 0
Counted false own next left z total = (next + z ≡ total + left) × (own + left ≤ next)
Counted true own next left z total = (own + z ≡ total) × (next ≡ own + 1)

pub record Left (s : List ℕ) (m? : Bool) (lv c k : ℕ) (ids : List ℕ) (first left at own next : ℕ) (ids' : List ℕ) : Type 0 where
  pub there : There s lv left at
  pub fits : first + size (row_of s lv c k).trees < 4294967296
  pub counts : Counted m? own next left (size (row_of s lv left at).trees) (first + size (row_of s lv c k).trees)
  pub end : (row_of s lv left at).next ≡ (row_of s lv c k).next
  pub given : sets ids' at (new_ids (kind_at s) m? own next (row_of s lv left at).trees)
      ≡ sets ids k (new_ids (kind_at s) m? first (inside_first m? first (row_of s lv c k).trees) (row_of s lv c k).trees)

module _ (s : List ℕ) (lv c k : ℕ) (ids : List ℕ) (first : ℕ) (h : Room s lv c k ids first) where
  pub members_fit : first + c < 4294967296
  members_fit = let a = siblings_size (row_of s lv c k).trees in let b = (there_full s lv c k h.there).trees in let d = h.numbers in omega arith

  pub members_start : Left s false lv c k ids first c k first (first + c) ids
  members_start =
      record {
        there = h.there;
        fits = h.numbers;
        counts = (omega arith, omega arith);
        end = refl;
        given = rw (there_full s lv c k h.there).trees;
      }

  pub pair_start : Left s true lv c k ids first c k first (first + 1) ids
  pair_start = record { there = h.there; fits = h.numbers; counts = (refl, refl); end = refl; given = rw (add-one first) }

module _ (s : List ℕ) (m? : Bool) (lv c k : ℕ) (ids : List ℕ) (first left at own next : ℕ) (ids' : List ℕ) (h : Left s m? lv c k ids first left at own next ids') where
  -- ---- nothing is left
  pub all_given : (r : Reassigned) → left ≤ 0 → r.next ≡ at → r.next_field_id ≡ first + size (row_of s lv c k).trees → Given s m? lv c k ids first r ids'
  all_given r l e q =
      let g = none_there s lv left at l in
      record {
        next = e ∙ sym (ap (λ (p : Part). p.next) g) ∙ h.end;
        counter = q;
        given = sym (ap (λ (p : Part). sets ids' at (new_ids (kind_at s) m? own next p.trees)) g ∙ rw (new_none (kind_at s) m? own next)) ∙ h.given;
      }

  -- ---- one sibling more
  module _ (l : 0 < left) where
    pub level_left : 0 < lv
    level_left = standing.level_left s lv left at h.there l

    pub record_left : at < slots s
    record_left = standing.record_left s lv left at h.there l

    pub place_left : at < 1024
    place_left = standing.place_left s lv left at h.there l

    inner : Part
    inner = row_of s (lv - 1) (kids_at s at) (at + 1)

    rest : Part
    rest = row_of s lv (left - 1) inner.next

    split : row_of s lv left at ≡ before at inner rest
    unfolding inner rest
    split = standing.split s lv left at h.there l (kids_at s at) refl

    inner_in : There s (lv - 1) (kids_at s at) (at + 1)
    inner_in = inner_there s lv left at h.there l (kids_at s at) refl

    inner_full : Full (kids_at s) (slots s) (kids_at s at) (at + 1) inner
    unfolding inner
    inner_full = there_full s (lv - 1) (kids_at s at) (at + 1) inner_in

    rest_in : There s lv (left - 1) inner.next
    unfolding inner
    rest_in = rest_there s lv left at h.there l (kids_at s at) refl inner.next refl

    rest_full : Full (kids_at s) (slots s) (left - 1) inner.next rest
    unfolding rest
    rest_full = there_full s lv (left - 1) inner.next rest_in

    sizes : size (row_of s lv left at).trees ≡ suc (size inner.trees + size rest.trees)
    unfolding size
    sizes = rw split

    rest_few : left - 1 ≤ size rest.trees
    rest_few = let a = siblings_size rest.trees in let b = rest_full.trees in omega arith

    -- the place of the record, then its inside, then the rest
    run : (x : ℕ) (ids'' : List ℕ) → x ≡ turned own → ids'' ≡ sets (set ids' at x) (at + 1) (new_ids (kind_at s) (is_map (kind_at s at)) next (inside_first (is_map (kind_at s at)) next inner.trees) inner.trees)
        → sets ids'' inner.next (new_ids (kind_at s) m? (cond m? (next + size inner.trees) (suc own)) (cond m? (suc (next + size inner.trees)) (next + size inner.trees)) rest.trees)
        ≡ sets ids k (new_ids (kind_at s) m? first (inside_first m? first (row_of s lv c k).trees) (row_of s lv c k).trees)
    run x ids'' ex ei =
        let A = new_ids (kind_at s) (is_map (kind_at s at)) next (inside_first (is_map (kind_at s at)) next inner.trees) inner.trees in
        let B = new_ids (kind_at s) m? (cond m? (next + size inner.trees) (suc own)) (cond m? (suc (next + size inner.trees)) (next + size inner.trees)) rest.trees in
        let n = length_new (kind_at s) (is_map (kind_at s at)) next (inside_first (is_map (kind_at s at)) next inner.trees) inner.trees in
        let e : inner.next ≡ suc at + length A = omega (arith, inner_full.next) in
        let g : sets ids' at (new_ids (kind_at s) m? own next (row_of s lv left at).trees) ≡ sets (set ids' at (turned own)) (suc at) (A ++ B)
        = ap (λ (p : Part). sets ids' at (new_ids (kind_at s) m? own next p.trees)) split ∙ ap (λ (l : List ℕ). sets ids' at l) (new_node (kind_at s) m? own next at inner.trees rest.trees) in
        rw (ei, ex, e, add-one at) (sets_append A B (set ids' at (turned own)) (suc at)) ∙ sym g ∙ h.given

    asked : (x : ℕ) → next + size inner.trees < 4294967296 → Room s (lv - 1) (kids_at s at) (at + 1) (set ids' at x) next
    unfolding inner
    asked x f = record { there = inner_in; numbers = f }

    -- what follows a sibling, but for the counter
    module _ (x : ℕ) (ex : x ≡ turned own) (r : Reassigned) (ids'' : List ℕ) (g : Given s (is_map (kind_at s at)) (lv - 1) (kids_at s at) (at + 1) (set ids' at x) next r ids'') where
      goes : (left' own' next' : ℕ) → left' ≡ left - 1 → own' ≡ cond m? (next + size inner.trees) (suc own) → next' ≡ cond m? (suc (next + size inner.trees)) (next + size inner.trees)
          → Counted m? own' next' (left - 1) (size rest.trees) (first + size (row_of s lv c k).trees) → Left s m? lv c k ids first left' r.next own' next' ids''
      unfolding inner rest
      goes left' own' next' el e₁ e₂ q =
          let e : r.next ≡ inner.next = g.next in
          let i = run x ids'' ex g.given in
          rw el record {
            there = rw e rest_in;
            fits = h.fits;
            counts = rw e q;
            end = rw e (sym (ap (λ (p : Part). p.next) split) ∙ h.end);
            given = rw (e, e₁, e₂) i;
          }

-- ---- the members of a struct, an element, the roots

module _ (s : List ℕ) (lv c k : ℕ) (ids : List ℕ) (first left at own next : ℕ) (ids' : List ℕ) (h : Left s false lv c k ids first left at own next ids') where
  pub members_done : left ≤ 0 → Given s false lv c k ids first (record { next = at; next_field_id = next }) ids'
  unfolding size
  members_done l =
      let g = ap (λ (p : Part). size p.trees) (none_there s lv left at l) in
      let q = h.counts.0 in
      all_given s false lv c k ids first left at own next ids' h _ l refl (omega arith)

  module _ (l : 0 < left) where
    pub member_asks : (x : ℕ) → Room s (lv - 1) (kids_at s at) (at + 1) (set ids' at x) next
    member_asks x =
        let a = rest_few s false lv c k ids first left at own next ids' h l in
        let b = sizes s false lv c k ids first left at own next ids' h l in
        let d = h.counts.0 in
        let f = h.fits in
        asked s false lv c k ids first left at own next ids' h l x (omega arith)

    pub member_own : own + 1 < 4294967296
    member_own =
        let a = rest_few s false lv c k ids first left at own next ids' h l in
        let b = sizes s false lv c k ids first left at own next ids' h l in
        let d = h.counts.0 in
        let e = h.counts.1 in
        let f = h.fits in
        omega arith

    pub member_goes : (x : ℕ) (r : Reassigned) (ids'' : List ℕ) → x ≡ turned own → Given s (is_map (kind_at s at)) (lv - 1) (kids_at s at) (at + 1) (set ids' at x) next r ids''
        → (left' : ℕ) → left' ≡ left - 1 → Left s false lv c k ids first left' r.next (own + 1) r.next_field_id ids''
    unfolding inner
    member_goes x r ids'' ex g left' el =
        let b = sizes s false lv c k ids first left at own next ids' h l in
        let d = h.counts.0 in
        let e = h.counts.1 in
        let q = g.counter in
        goes s false lv c k ids first left at own next ids' h l x ex r ids'' g left' (own + 1) r.next_field_id el (add-one own) q (omega arith, omega arith)

-- ---- a key and a value

module _ (s : List ℕ) (lv c k : ℕ) (ids : List ℕ) (first left at own : ℕ) (ids' : List ℕ) (h : Left s true lv c k ids first left at own (own + 1) ids') where
  pub pair_done : left ≤ 0 → Given s true lv c k ids first (record { next = at; next_field_id = own }) ids'
  unfolding size
  pair_done l =
      let g = ap (λ (p : Part). size p.trees) (none_there s lv left at l) in
      let q = h.counts.0 in
      all_given s true lv c k ids first left at own (own + 1) ids' h _ l refl (omega arith)

  module _ (l : 0 < left) where
    pub pair_own : own + 1 < 4294967296
    pair_own =
        let b = sizes s true lv c k ids first left at own (own + 1) ids' h l in
        let d = h.counts.0 in
        let f = h.fits in
        omega arith

    pub pair_asks : (x : ℕ) → Room s (lv - 1) (kids_at s at) (at + 1) (set ids' at x) (own + 1)
    pair_asks x =
        let b = sizes s true lv c k ids first left at own (own + 1) ids' h l in
        let d = h.counts.0 in
        let f = h.fits in
        asked s true lv c k ids first left at own (own + 1) ids' h l x (omega arith)

    pub pair_goes : (x : ℕ) (r : Reassigned) (ids'' : List ℕ) → x ≡ turned own → Given s (is_map (kind_at s at)) (lv - 1) (kids_at s at) (at + 1) (set ids' at x) (own + 1) r ids''
        → (left' : ℕ) → left' ≡ left - 1 → Left s true lv c k ids first left' r.next r.next_field_id (r.next_field_id + 1) ids''
    unfolding inner
    pair_goes x r ids'' ex g left' el =
        let b = sizes s true lv c k ids first left at own (own + 1) ids' h l in
        let d = h.counts.0 in
        let q = g.counter in
        goes s true lv c k ids first left at own (own + 1) ids' h l x ex r ids'' g left' r.next_field_id (r.next_field_id + 1) el q (add-one _ ∙ ap suc q) (omega arith, refl)

-- ---- a type

module _ (s : List ℕ) (lv k : ℕ) (ids : List ℕ) (first m : ℕ) (em : m ≡ kids_at s k) where
  pub type_none : m ≡ 0 → Given s (is_map (kind_at s k)) lv (kids_at s k) (k + 1) ids first (record { next = k + 1; next_field_id = first }) ids
  unfolding size
  type_none e =
      let g = part_none 0 (kids_at s) (slots s) lv (kids_at s k) (k + 1) (sym em ∙ e) in
      record { next = rw g; counter = rw g (omega arith); given = rw (g, new_none (kind_at s) (is_map (kind_at s k)) first (inside_first {A = ℕ} (is_map (kind_at s k)) first empty)) }

  pub type_room : Room s lv (kids_at s k) (k + 1) ids first → Room s lv m (k + 1) ids first
  type_room h = rw em h

  pub type_is : (kd : Kind) (q b : Bool) (r : Reassigned) (ids' : List ℕ) → kd ≡ kind_at s k → q ≡ is_map kd → q ≡ b → Given s b lv m (k + 1) ids first r ids' → Given s (is_map (kind_at s k)) lv (kids_at s k) (k + 1) ids first r ids'
  type_is kd q b r ids' ek eq eb g = rw (← ek, ← eq, eb, ← em) g

pub ruleset numbering = (members_fit, members_start, pair_start, level_left, record_left, place_left, members_done, member_asks, member_own, member_goes, pair_done, pair_own, pair_asks, pair_goes, type_none, type_room, type_is)
