-- The role by the place above a slot is that of the paper's row: a row that a look-up finds is the record at its slot, in its role.
use Prim.Native.Nat.{ℕ, zero, suc, ◌+◌, ◌*◌, ◌<◌, ◌≤◌}
use mathlib.Core.Path.{◌≡◌, refl, sym, ap, ◌∙◌}
use mathlib.Core.Bool.{Bool, true, false, cond}
use mathlib.Core.List.{List}
use mathlib.Core.Option.{some}
use native.Mathlib.Omega.{arith}
use lib.Dec.{eqb}
use lib.ListN.{length, get_or}
use borrow.Author.Tests.{ne_eqb}
use Rattle.paper.specs.declared.Kind.{Kind}
use Rattle.paper.specs.declared.Role.{Role}
use Rattle.paper.specs.declared.Role.TheVariants.{Member, Element, Key, Value}
use Rattle.paper.specs.Bytes.{kids_at, kind_at, field_at}
use Rattle.paper.specs.Decode.{fields}
use Rattle.paper.specs.Field.{Field, first, after}
use Rattle.paper.specs.Forest.{Forest, node, size, mapped}
use Rattle.paper.specs.Layout.{roots}
use Rattle.paper.specs.Rows.{Row, Start, row, below, beside, look_name}
use Rattle.laws.proofs.Basics.{eqb_self}
use Rattle.laws.proofs.Preorder.{size_mapped}
use Rattle.laws.proofs.Rows.{name_has}
use Rattle.laws.proofs.Taken.{Laid, roots_take}
use Rattle.tree.specs.Read.{got}
use Rattle.tree.proofs.Steps.{fine_got}
use Rattle.index_names.proofs.Rising.{Climbs}
use Rattle.record.specs.Answers.{FoundSlot}
use Rattle.record.specs.Says.{slot_before}
use Rattle.record.specs.declared.Slot.{Slot}
use Rattle.std.specs.Prelude.{Some, None}
use Rattle.update_gone.specs.Gone.{base_slots, Rises}
use Rattle.update_gone.proofs.Leaving.{base_climbs, up_falls}
use Rattle.update_edits.specs.Roles.{role_under, role_at, Stood}

-- ---- the code: `search roles`

module _ (records us : List ℕ) (slot above : ℕ) (e : above ≡ get_or us slot 0) (w : FoundSlot) (ew : w ≡ slot_before above) where
  pub role_root : w ≡ None → Member ≡ role_at records us slot
  unfolding role_under slot_before
  role_root z = rw (← e) (go above (sym ew ∙ z))
    where
      go : (u : ℕ) → slot_before u ≡ None → Member ≡ role_under records u slot
      go zero h = refl
      go (suc p) h = cc

  module _ (j : Slot) (z : w ≡ Some j) where
    above_is : get_or us slot 0 ≡ suc j.0
    unfolding slot_before
    above_is = sym e ∙ go above (sym ew ∙ z)
      where
        go : (u : ℕ) → slot_before u ≡ Some j → u ≡ suc j.0
        go zero h = cc
        go (suc p) h = let q : record { 0 = p } ≡ j = cc in ap (λ (x : Slot). suc x.0) q

    pub role_room : {n : ℕ} → Rises records n us → slot < n → j.0 * 24 + 24 ≤ length records
    role_room R l = let f = up_falls R slot l in let q = above_is in let r = R.whole in omega arith

    module _ (k : Kind) (f : Role) (ek : k ≡ kind_at records j.0) (ef : f ≡ first k) where
      pub role_first : slot ≡ j.0 + 1 → f ≡ role_at records us slot
      unfolding role_under
      role_first q = let d : slot ≡ suc j.0 = omega arith in rw (above_is, ef, ek, d, eqb_self (suc j.0))

      pub role_next : (r : Role) → (slot ≡ j.0 + 1 → ⊥) → r ≡ after f → r ≡ role_at records us slot
      unfolding role_under
      role_next r q er = rw (above_is, er, ef, ek, ne_eqb slot (suc j.0) (λ d. q (omega arith)))

pub ruleset roles = (role_root, role_room, role_first, role_next)

-- ---- the rows

after_twice : (r : Role) → after (after r) ≡ after r
after_twice Member = refl
after_twice Element = refl
after_twice Key = refl
after_twice Value = refl

after_cond : (b : Bool) (r : Role) → after (cond b r (after r)) ≡ after r
after_cond true r = refl
after_cond false r = after_twice r

module _ (records : List ℕ) where
  first_under : (j k : ℕ) → j ≡ k → first (kind_at records j) ≡ role_under records (suc j) (suc k)
  unfolding role_under
  first_under j k e = rw (e, eqb_self (suc k))

  -- a later sibling
  next_under : (u k d : ℕ) → u ≤ k → after (role_under records u k) ≡ role_under records u (suc (k + d))
  unfolding role_under
  next_under zero k d l = refl
  next_under (suc p) k d l =
      rw (ne_eqb (suc (k + d)) (suc p) (λ e. omega arith)) (after_cond (eqb k (suc p)) (first (kind_at records p)))

  module _ (pool : List ℕ) (n : ℕ) (us : List ℕ) where
    abbrev fld : ℕ → Field
    fld = field_at pool records

    -- What is known where a list of siblings begins: it stands under the place u, and its first one has the role there.
    pub record Begun (st : Start) (t : Forest ℕ) : Type 0 where
      pub u : ℕ
      pub low : u ≤ st.slot
      pub laid : Laid (kids_at records) n st.slot t
      pub climbs : Climbs us u t
      pub role : st.role ≡ role_under records u st.slot

    begun_step : (st : Start) (j : ℕ) (m t : Forest ℕ) → Begun st (node j m t)
        → Stood pool records n us (row st (fld j) (mapped fld m)) × Begun (below st (fld j)) m × Begun (beside st (mapped fld m)) t
    unfolding field_at
    begun_step st j m t b =
        let h = b.laid in
        let c = b.climbs in
        let l = b.low in
        let e : j ≡ st.slot = h.0 in (
          record { there = h.1; field = ap fld e; role = b.role ∙ ap (λ (v : ℕ). role_under records v st.slot) (sym c.0 ∙ ap (λ (k : ℕ). get_or us k 0) e) },
          record { u = suc j; low = omega arith; laid = h.3; climbs = c.1.0; role = first_under j st.slot e },
          record { u = b.u; low = omega arith; laid = rw (size_mapped fld m) h.4; climbs = c.1.1; role = ap after b.role ∙ next_under b.u st.slot (size (mapped fld m)) l },
        )

-- What a look-up in the base finds.
module _ {pool records : List ℕ} {n : ℕ} {us : List ℕ} (R : Rises records n us) where
  pub found_stood : (x : List ℕ) (r : Row) → look_name (fields pool records (base_slots records n)) x ≡ some r → Stood pool records n us r
  unfolding fields role_under
  found_stood x r f =
      let z = roots 0 (kids_at records) n n 0 in
      let t = roots_take 0 (kids_at records) n n 0 (got z) (fine_got z R.read) in
      name_has (field_at pool records) (Stood pool records n us) (Begun records pool n us) (begun_step records pool n us) (base_slots records n)
      (record { u = 0; low = omega arith; laid = t.laid; climbs = base_climbs R; role = refl }) r x f
