-- What a source is asked, and those above a slot, by the places above: `search asking`, `search holding_up`.
use Prim.Native.Nat.{ℕ, zero, suc, ◌-◌, ◌<◌, ◌≤◌}
use mathlib.Core.Path.{◌≡◌, refl, sym, ap, ◌∙◌}
use mathlib.Core.Bool.{Bool, true, false, not, ◌&&◌, ◌||◌}
use mathlib.Core.List.{List, []}
use native.Mathlib.Numerals.{sub-one}
use native.Mathlib.Omega.{arith}
use borrow.Author.Tests.{not-true, not-false}
use lib.Dec.{eqb}
use lib.ListN.{get_or}
use Rattle.paper.specs.Answer.{all}
use Rattle.paper.specs.declared.Kind.{Kind}
use Rattle.paper.specs.Field.{Field, is_primitive, is_struct, is_required}
use Rattle.paper.specs.Sound.{identifying, holding}
use Rattle.record.specs.Trees.{Trees}
use Rattle.plan.specs.Plan.{kids_in, planned_field, source_field, Sits, Plan}
use Rattle.plan.specs.Walk.{trees_of}
use Rattle.plan.specs.Sources.{source_kind, source_flags, source_code}
use Rattle.plan.proofs.Sourcing.{sits_in, kind_source, flags_source, code_source}
use Rattle.plan.proofs.Standing.{field_in}
use Rattle.index_names.specs.Told.{Raised}
use Rattle.index_names.proofs.Rising.{Climbs, climbs, risen, rising_left, rising_on, up_ends}
use Rattle.index_names.proofs.Rows.{Line, at_top, under}
use Rattle.index_names.proofs.Telling.{ups_fall}
use Rattle.index_identifiers.specs.Nine.{held_up}

-- ---- a source

module _ (l : Trees) (x : ℕ) (k : Kind) (ek : k ≡ source_kind l.records l.added_records x) (flags : ℕ) (ef : flags ≡ source_flags l.records l.added_records x) (required : Bool) (er : required ≡ is_required flags) where
  pub identifying_is : (code : ℕ) → code ≡ source_code l.records l.added_records l.edits x → (primitive : Bool) → primitive ≡ is_primitive k
      → (primitive && (required && not (eqb code 5 || eqb code 6))) ≡ identifying (source_field l x)
  identifying_is code ec primitive ep = rw (ep, er, ek, ef, ec, kind_source l x, flags_source l x, code_source l x)

  pub holding_is : (struct : Bool) → struct ≡ is_struct k → (struct && required) ≡ holding (source_field l x)
  holding_is struct es = rw (es, er, ek, ef, kind_source l x, flags_source l x)

pub ruleset asking = (sits_in, identifying_is, holding_is)

-- ---- those above

module _ (l : Trees) (xs us : List ℕ) where
  none_up : (s : ℕ) → held_up l xs us s 0 ≡ true
  unfolding held_up
  none_up zero = refl
  none_up (suc s) = refl

  one_up : (s p : ℕ) → 1 ≤ s → held_up l xs us s (suc p) ≡ (holding (source_field l (get_or xs p 0)) && held_up l xs us (s - 1) (get_or us p 0))
  unfolding held_up
  one_up zero p q = absurd (omega arith)
  one_up (suc s) p q = rw (sub-one (suc s))

  -- the records above a row are those that the places above lead to
  pub line_held : (is : List ℕ) {u : ℕ} {above : List Field} → Line (field_in l xs is) us u above → (s : ℕ) → risen us s u ≡ 0 → all holding above ≡ held_up l xs us s u
  unfolding held_up risen planned_field
  line_held is at_top zero e = refl
  line_held is at_top (suc s) e = refl
  line_held is (under h) zero e = absurd (omega arith)
  line_held is (under {p = p} h) (suc s) e = ap (λ (b : Bool). holding (source_field l (get_or xs p 0)) && b) (line_held is h s e)

-- ---- m planned slots

module _ {l : Trees} {xs is ks us : List ℕ} {m : ℕ} (P : Plan l xs is ks m) (R : Raised ks m us) where
  pub plan_climbs : Climbs us 0 (trees_of (kids_in ks) m)
  plan_climbs = climbs (kids_in ks) m us R.above

  pub plan_falls : (k : ℕ) → k < m → get_or us k 0 ≤ k
  plan_falls = ups_fall (λ _. []) (kids_in ks) m us R.above

  -- 15 are above a slot
  pub few_up : (k : ℕ) → k < m → risen us 15 (get_or us k 0) ≡ 0
  few_up k q = rising_on us 16 k (up_ends 4 (kids_in ks) m P.shaped us plan_climbs k q)

-- What holds at the loop's head: those from the place up decide, and `left` of them are at most there.
pub record Up (l : Trees) (xs us : List ℕ) (m slot place left : ℕ) : Type 0 where
  pub within : place ≤ m
  pub same : held_up l xs us 15 (get_or us slot 0) ≡ held_up l xs us left place
  pub low : risen us left place ≡ 0

module _ {l : Trees} {xs us : List ℕ} {m slot place left : ℕ} (H : Up l xs us m slot place left) where
  pub up_ends_true : place ≤ 0 → true ≡ held_up l xs us 15 (get_or us slot 0)
  up_ends_true q = let e : place ≡ 0 = omega arith in sym (H.same ∙ rw e (none_up l xs us left))

  module _ (q : 0 < place) where
    is_next : place ≡ suc (place - 1)
    is_next = omega arith

    pub up_left : 1 ≤ left
    up_left = rising_left us left (place - 1) (rw (← is_next) H.low)

    pub up_less : left - 1 < left
    up_less = let h = up_left in omega arith

    pub up_within : place - 1 < m
    up_within = let w = H.within in omega arith

    module _ (b : Bool) (eb : b ≡ holding (source_field l (get_or xs (place - 1) 0))) where
      level : held_up l xs us 15 (get_or us slot 0) ≡ (b && held_up l xs us (left - 1) (get_or us (place - 1) 0))
      level = H.same ∙ ap (held_up l xs us left) is_next ∙ rw eb (one_up l xs us left (place - 1) up_left)

      pub up_stops : not b ≡ true → false ≡ held_up l xs us 15 (get_or us slot 0)
      up_stops n = sym (level ∙ rw (not-true b n))

      pub up_goes : (place' : ℕ) → ((k : ℕ) → k < m → get_or us k 0 ≤ k) → not b ≡ false → place' ≡ get_or us (place - 1) 0 → Up l xs us m slot place' (left - 1)
      up_goes place' f n e =
          record {
            within = let w = up_within in let z = f (place - 1) w in omega arith;
            same = level ∙ rw (not-false b n, e);
            low = rw e (rising_on us left (place - 1) (rw (← is_next) H.low));
          }

module _ {l : Trees} {xs is ks us : List ℕ} {m : ℕ} (P : Plan l xs is ks m) (R : Raised ks m us) where
  pub slot_few : (k : ℕ) → k < m → k < 1024
  slot_few k q = let f = P.few in omega arith

  pub slot_sits : (k : ℕ) → k < m → Sits l (get_or xs k 0)
  slot_sits k q = P.sits k q

  pub up_starts : (slot place : ℕ) → slot < m → place ≡ get_or us slot 0 → Up l xs us m slot place 15
  up_starts slot place q e = rw e record { within = let z = plan_falls P R slot q in omega arith; same = refl; low = few_up P R slot q }

pub ruleset holding_up = (plan_falls, slot_few, slot_sits, up_starts, up_ends_true, up_left, up_less, up_within, up_stops, up_goes)
