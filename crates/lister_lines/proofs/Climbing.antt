-- A full name is put from its end: what is left to put is the full name of the record that was reached. `search climbing`.
use mathlib.Core.Path.{◌≡◌, refl, sym, ap, ◌∙◌}
use mathlib.Core.List.{List, [], ◌∷◌, ◌++◌}
use Prim.Native.Nat.{ℕ, zero, suc, ◌+◌, ◌-◌, ◌<◌, ◌≤◌}
use native.Mathlib.Omega.{arith}
use lib.ListN.{length, set, get_or, length-append, length-set}
use lib.Seq.{sets, length-sets}
use Rattle.laws.proofs.Runs.{sets_append, sets_before}
use Rattle.record.specs.Trees.{Trees}
use Rattle.index_ids.specs.Table.{ups_in, lens_in}
use Rattle.plan.specs.Named.{names_in}
use Rattle.index_names.specs.Table.{full_in, SpeltIn}
use Rattle.index_names.proofs.Telling.{full_root, full_under}
use Rattle.lister_lines.specs.Digits.{Put}
use Rattle.plan.specs.declared.PlanRows.{PlanRows}

-- Runs that do not meet may change places.
sets_apart : (F G l : List ℕ) (i j : ℕ) → i + length F ≤ j → sets (sets l i F) j G ≡ sets (sets l j G) i F
sets_apart [] G l i j h = refl
sets_apart (x ∷ F) G l i j h = sets_apart F G (set l i x) (suc i) j (omega arith) ∙ ap (λ (z : List ℕ). sets z (suc i) F) (sym (sets_before G l i j x (omega arith)))

pub record Climbing (l : Trees) (plan : PlanRows) (m : ℕ) (index : List (List ℕ)) (slot start : ℕ) (out₀ : List ℕ) (stop here end : ℕ) (out : List ℕ) : Type 0 where
  pub spelt : SpeltIn l plan m index
  pub stops : stop ≡ start + length (full_in l plan index slot)
  pub most : stop ≤ start + 65535
  pub small : here < m
  pub ends : end ≡ start + length (full_in l plan index here)
  pub room : end ≤ length out
  pub whole : sets out₀ start (full_in l plan index slot) ≡ sets out start (full_in l plan index here)
  pub long : length out ≡ length out₀

module _ (l : Trees) (plan : PlanRows) (m : ℕ) (index : List (List ℕ)) (slot start : ℕ) (out₀ : List ℕ) where
  pub climb_starts : (len : ℕ) → slot < m → SpeltIn l plan m index → (len ≡ get_or (lens_in index) slot 0) × (len < 65536) → start + 65535 ≤ length out₀ → Climbing l plan m index slot start out₀ (start + len) slot (start + len) out₀
  climb_starts len q sp e h =
      let g = sp.len slot q in
      let e₀ = e.0 in
      let e₁ = e.1 in
      record { spelt = sp; stops = omega arith; most = omega arith; small = q; ends = omega arith; room = omega arith; whole = refl; long = refl }

  module _ (stop here end : ℕ) (out : List ℕ) (h : Climbing l plan m index slot start out₀ stop here end out) where
    module _ (name : List ℕ) (en : name ≡ names_in l plan here) where
      -- What stands before the own name of the record that was reached: nothing at a root, else the name above it and a dot.
      at_root : get_or (ups_in index) here 0 ≡ 0 → (full_in l plan index here ≡ names_in l plan here) × (end ≡ start + length name)
      at_root e =
          let z = full_root (names_in l plan) (ups_in index) m h.spelt.falls here h.small e in
          (z, omega (arith, h.ends, ap length z, ap length en))

      under : (p : ℕ) → get_or (ups_in index) here 0 ≡ suc p → (full_in l plan index here ≡ full_in l plan index p ++ (46 ∷ names_in l plan here)) × (end ≡ suc (start + length (full_in l plan index p)) + length name)
      under p e =
          let z = (full_under (names_in l plan) (ups_in index) m h.spelt.falls here p h.small e).1 in
          (z, omega (arith, h.ends, ap length z, ap length en, length-append (full_in l plan index p) (46 ∷ names_in l plan here)))

      pub climb_back : length name ≤ end
      climb_back = go (get_or (ups_in index) here 0) refl
        where
          go : (u : ℕ) → get_or (ups_in index) here 0 ≡ u → length name ≤ end
          go zero e = let z = (at_root e).1 in omega arith
          go (suc p) e = let z = (under p e).1 in omega arith

      pub climb_fits : (end - length name) + length name ≤ length out
      climb_fits = let r = climb_back in let o = h.room in omega arith

      module _ (up : ℕ) (eu : up ≡ get_or (ups_in index) here 0) where
        pub climb_ends : (out' : List ℕ) → out' ≡ sets out (end - length name) name → up ≡ 0 → Put (full_in l plan index slot) start out₀ stop out'
        climb_ends out' eo z =
            let r = at_root (sym eu ∙ z) in
            let r₁ = r.1 in
            let i : end - length name ≡ start = omega arith in
            record { bytes = eo ∙ rw (i, en) (sym (h.whole ∙ rw r.0 refl)); end = h.stops }

        module _ (z : up ≡ 0 → ⊥) where
          above : get_or (ups_in index) here 0 ≡ suc (up - 1)
          above = let e : up ≡ suc (up - 1) = omega arith in sym eu ∙ e

          pub climb_dot : 1 ≤ end - length name
          climb_dot = let e = (under (up - 1) above).1 in omega arith

          pub climb_falls : up - 1 < here
          climb_falls = let f = h.spelt.falls here h.small in omega arith

          module _ (out' : List ℕ) (eo : out' ≡ sets out (end - length name) name) where
            pub climb_write : end - length name - 1 < length out'
            climb_write = let d = climb_dot in let o = h.room in rw eo (simp length-sets (omega arith))

            pub climb_goes : Climbing l plan m index slot start out₀ stop (up - 1) (end - length name - 1) (set out' (end - length name - 1) 46)
            climb_goes =
                let F = full_in l plan index (up - 1) in
                let y = under (up - 1) above in
                let y₁ = y.1 in
                let i : end - length name ≡ suc (start + length F) = omega arith in
                let j : end - length name - 1 ≡ start + length F = omega arith in
                let o = h.room in
                let s = h.small in
                let f = climb_falls in
                let w = sym (sets_append F (46 ∷ name) out start) in
                let a = sets_apart F (46 ∷ name) out start (start + length F) (omega arith) in
                let b = sets_before name out (start + length F) (suc (start + length F)) 46 (omega arith) in
                record {
                  spelt = h.spelt;
                  stops = h.stops;
                  most = h.most;
                  small = omega arith;
                  ends = j;
                  room = rw eo (simp (length-set, length-sets) (omega arith));
                  whole = h.whole ∙ rw (y.0, ← en, j, eo, i) (w ∙ a ∙ ap (λ (v : List ℕ). sets v start F) (sym b));
                  long = rw eo (simp (length-set, length-sets) h.long);
                }

pub ruleset climbing = (climb_starts, climb_back, climb_fits, climb_ends, climb_dot, climb_write, climb_falls, climb_goes)
