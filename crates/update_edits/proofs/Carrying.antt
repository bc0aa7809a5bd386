-- Marks carry the edits: a slot as its mark leaves it is its column as the edits leave it, and one edit more is one mark more.
use Prim.Native.Nat.{ℕ, zero, suc, ◌+◌, ◌-◌, ◌*◌, ◌/◌, ◌%◌, ◌<◌, ◌≤◌}
use mathlib.Core.Path.{◌≡◌, refl, sym, ap, ◌∙◌}
use mathlib.Core.Bool.{Bool, true, false, ◌&&◌, ◌||◌, cond, or-true, or-false}
use mathlib.Core.List.{List, [], ◌∷◌, ◌++◌}
use native.Mathlib.Omega.{arith}
use lib.Dec.{eqb, ltb, leb}
use lib.ListN.{length, get_or, set, replicate, length-set, length-replicate, get_or-replicate}
use lib.Seq.{get_or-set_same, get_or-set_other}
use borrow.Author.Tests.{ne_eqb, eqb-true, eqb-false, ltb-true, ltb-false, lt-ltb, le-ltb, le-leb, lt-leb}
use Rattle.paper.specs.Answer.{any}
use Rattle.paper.specs.Bytes.{rec_at, field_at, in_pool}
use Rattle.paper.specs.Edits.{Change, Edited, is_rename, is_widening, relaxed, with_change, edit_fields}
use Rattle.paper.specs.Field.{Field}
use Rattle.paper.specs.Forest.{preorder}
use Rattle.paper.specs.Lists.{edit_at, edit_in, new_name}
use Rattle.laws.proofs.Basics.{distinct_one, any_append, eqb_self}
use Rattle.laws.proofs.Edited.{edits_keep_id, edits_append}
use Rattle.record.specs.Trees.{Trees}
use Rattle.record_entries.specs.declared.What.{What}
use Rattle.record_entries.specs.declared.What.TheVariants.{Rename, Relax, Widen}
use Rattle.record_entries.specs.Rule.{what_of}
use Rattle.plan.specs.Plan.{Sits, source_field, edited_slot, mark_of, low_part, renaming, widening, marked_name, marked_flags, marked_code, marked_field}
use Rattle.update_gone.specs.Gone.{base_slots, slot_id, Rises}
use Rattle.update_gone.proofs.Leaving.{there}
use Rattle.update_edits.specs.Edit.{Named, edited_at, change_of}
use Rattle.update_edits.specs.Marks.{mark_with, marked_by, as_marked, Carries}
use Rattle.update_edits.proofs.Deciding.{changes, change_is, renames_byte}

-- ---- one edit more

-- Whether one of the edits is of an id, and changes it so.
module _ (P : Change → Bool) (i : ℕ) where
  abbrev of_id : Edited → Bool
  of_id e = eqb i e.id && P e.change

  any_more : (es : List Edited) (e : Edited) → any of_id (es ++ (e ∷ [])) ≡ (any of_id es || of_id e)
  any_more es e = any_append of_id es (e ∷ []) ∙ ap (λ (b : Bool). any of_id es || b) (or-false (of_id e))

-- ---- a mark, and the source that it makes

marked_slot : (mark slot : ℕ) → slot < 1024 → edited_slot (2048 + slot + 1024 * mark) ≡ slot
marked_slot mark slot l = omega arith

marked_mark : (mark slot : ℕ) → slot < 1024 → mark_of (2048 + slot + 1024 * mark) ≡ mark
marked_mark mark slot l = omega arith

module _ (l : Trees) where
  source_is : (mark slot : ℕ) → slot < 1024 → source_field l (as_marked mark slot) ≡ marked_field l mark slot
  unfolding source_field as_marked marked_field marked_name marked_flags marked_code field_at
  source_is zero slot h = rw (lt-ltb slot 1024 h)
  source_is (suc m) slot h =
      let x = 2048 + slot + 1024 * suc m in
      rw (ne_eqb (suc m) 0 (λ e. omega arith), le-ltb x 1024 (omega arith), le-ltb x 2048 (omega arith), marked_mark (suc m) slot h, marked_slot (suc m) slot h)

relaxed_none : (x : ℕ) → 4 ≤ x → relaxed x ≡ x
relaxed_none x l = rw (ne_eqb x 1 (λ e. omega arith), ne_eqb x 3 (λ e. omega arith))

relaxed_twice : (x : ℕ) → relaxed (relaxed x) ≡ relaxed x
relaxed_twice zero = refl
relaxed_twice (suc zero) = refl
relaxed_twice (suc (suc zero)) = refl
relaxed_twice (suc (suc (suc zero))) = refl
relaxed_twice (suc (suc (suc (suc x)))) = ap relaxed (relaxed_none (suc (suc (suc (suc x)))) (omega arith))

relaxed_cond : (b : Bool) (x : ℕ) → relaxed (cond b (relaxed x) x) ≡ relaxed x
relaxed_cond true x = relaxed_twice x
relaxed_cond false x = refl

-- A number on the same side of a bound is tested alike.
same_side : (x y bound : ℕ) → (x < bound → y < bound) → (bound ≤ x → bound ≤ y) → (ltb y bound ≡ ltb x bound) × (leb bound y ≡ leb bound x)
same_side x y bound f g = go (ltb x bound) refl
  where
    go : (b : Bool) → ltb x bound ≡ b → (ltb y bound ≡ ltb x bound) × (leb bound y ≡ leb bound x)
    go true e = let q = ltb-true x bound e in let h = f q in (lt-ltb y bound h ∙ sym e, lt-leb bound y h ∙ sym (lt-leb bound x q))
    go false e = let q = ltb-false x bound e in let h = g q in (le-ltb y bound h ∙ sym e, le-leb bound y h ∙ sym (le-leb bound x q))

-- ---- a mark with one more edit: what the edit sets, and what it keeps

module _ (k mark : ℕ) (few : k < 64) where
  -- a rename keeps whether the column is relaxed, and the edit that widens it
  rename_low : low_part (mark_with Rename k mark) ≡ mark % 2 + 2 * (k + 1)
  rename_low = omega arith

  rename_odd : mark_with Rename k mark % 2 ≡ mark % 2
  rename_odd = omega arith

  rename_high : mark_with Rename k mark / 256 ≡ mark / 256
  rename_high = omega arith

  rename_side : (ltb (mark_with Rename k mark) 256 ≡ ltb mark 256) × (leb 256 (mark_with Rename k mark) ≡ leb 256 mark)
  rename_side = same_side mark (mark_with Rename k mark) 256 (λ h. omega arith) (λ h. omega arith)

  -- a widening keeps all but the edit that widens
  widen_low : low_part (mark_with Widen k mark) ≡ low_part mark
  widen_low = omega arith

  widen_odd : mark_with Widen k mark % 2 ≡ mark % 2
  widen_odd = omega arith

  widen_high : widening (mark_with Widen k mark) ≡ k
  widen_high = omega arith

-- a relaxing keeps all but whether the column is relaxed
module _ (k mark : ℕ) where
  relax_odd : mark_with Relax k mark % 2 ≡ 1
  relax_odd = omega arith

  relax_half : low_part (mark_with Relax k mark) / 2 ≡ low_part mark / 2
  relax_half = omega arith

  relax_high : mark_with Relax k mark / 256 ≡ mark / 256
  relax_high = omega arith

  relax_low_side : (ltb (low_part (mark_with Relax k mark)) 2 ≡ ltb (low_part mark) 2) × (leb 2 (low_part (mark_with Relax k mark)) ≡ leb 2 (low_part mark))
  relax_low_side = same_side (low_part mark) (low_part (mark_with Relax k mark)) 2 (λ h. omega arith) (λ h. omega arith)

  relax_side : (ltb (mark_with Relax k mark) 256 ≡ ltb mark 256) × (leb 256 (mark_with Relax k mark) ≡ leb 256 mark)
  relax_side = same_side mark (mark_with Relax k mark) 256 (λ h. omega arith) (λ h. omega arith)

module _ (l : Trees) (k mark slot : ℕ) (few : k < 64) where
  abbrev name : List ℕ
  name = new_name l.request_pool l.edits k

  abbrev code : ℕ
  code = (edit_at l.edits k).code

  mark_changed : (w : What) (version : ℕ) → with_change (changes w version name code) (marked_field l mark slot) ≡ marked_field l (mark_with w k mark) slot
  unfolding marked_field marked_name marked_flags marked_code
  mark_changed Rename version =
      let e : (mark % 2 + 2 * (k + 1)) / 2 - 1 ≡ k = omega arith in
      rw (rename_low k mark few, le-ltb (mark % 2 + 2 * (k + 1)) 2 (omega arith), e, rename_odd k mark few, (rename_side k mark few).0, rename_high k mark few)
  mark_changed Relax version =
      rw ((relax_low_side k mark).0, relax_half k mark, relax_odd k mark, (relax_side k mark).0, relax_high k mark, relaxed_cond (eqb (mark % 2) 1) (rec_at l.records slot).flags)
  mark_changed Widen version =
      rw (widen_low k mark few, widen_odd k mark few, le-ltb (mark_with Widen k mark) 256 (omega arith), widen_high k mark few)

  mark_renames : (w : What) (version : ℕ) → (leb 2 (low_part mark) || is_rename (changes w version name code)) ≡ leb 2 (low_part (mark_with w k mark))
  mark_renames Rename version = or-true (leb 2 (low_part mark)) ∙ sym (le-leb 2 (low_part (mark_with Rename k mark)) (let e = rename_low k mark few in omega arith))
  mark_renames Relax version = or-false (leb 2 (low_part mark)) ∙ sym (relax_low_side k mark).1
  mark_renames Widen version = or-false (leb 2 (low_part mark)) ∙ sym (ap (leb 2) (widen_low k mark few))

  mark_widens : (w : What) (version : ℕ) → (leb 256 mark || is_widening (changes w version name code)) ≡ leb 256 (mark_with w k mark)
  mark_widens Rename version = or-false (leb 256 mark) ∙ sym (rename_side k mark few).1
  mark_widens Relax version = or-false (leb 256 mark) ∙ sym (relax_side k mark).1
  mark_widens Widen version = or-true (leb 256 mark) ∙ sym (le-leb 256 (mark_with Widen k mark) (omega arith))

-- ---- a source that is there

-- What a mark asks of the edits that rename and widen.
pub record Asks (l : Trees) (mark : ℕ) : Type 0 where
  pub renamed_in : 2 ≤ low_part mark → renaming mark * 16 + 16 ≤ length l.edits
  pub renamed_what : 2 ≤ low_part mark → (edit_at l.edits (renaming mark)).what ≡ 1
  pub renamed_named : 2 ≤ low_part mark → edit_in (length l.request_pool) l.edits (renaming mark) ≡ true
  pub widened_in : 256 ≤ mark → widening mark * 16 + 16 ≤ length l.edits

pub asks_none : (l : Trees) → Asks l 0
asks_none l =
    record {
      renamed_in = λ q. absurd (omega arith);
      renamed_what = λ q. absurd (omega arith);
      renamed_named = λ q. absurd (omega arith);
      widened_in = λ q. absurd (omega arith);
    }

module _ (l : Trees) (slot : ℕ) (h : slot < 1024) where
  abbrev Stays : Type 0
  Stays = (slot * 24 + 24 ≤ length l.records) × (in_pool (length l.pool) l.records slot ≡ true)

  sits_parts : (mark : ℕ) → Sits l (as_marked mark slot) → Stays × Asks l mark
  unfolding as_marked
  sits_parts zero s = ((s.base_in h, s.base_named h), asks_none l)
  sits_parts (suc m) s = go (rw (ne_eqb (suc m) 0 (λ e. omega arith)) at s)
    where
      go : Sits l (2048 + slot + 1024 * suc m) → Stays × Asks l (suc m)
      go s =
          let e = marked_slot (suc m) slot h in
          let d = marked_mark (suc m) slot h in
          let w : 2048 ≤ 2048 + slot + 1024 * suc m = omega arith in (
            (rw e at (s.edited_in w), rw e at (s.edited_named w)),
            record {
              renamed_in = λ q. rw d at (s.renamed_in w (rw d q));
              renamed_what = λ q. rw d at (s.renamed_what w (rw d q));
              renamed_named = λ q. rw d at (s.renamed_named w (rw d q));
              widened_in = λ q. rw d at (s.widened_in w (rw d q));
            },
          )

  pub parts_sit : (mark : ℕ) → Stays → Asks l mark → Sits l (as_marked mark slot)
  unfolding as_marked
  parts_sit zero b r =
      record {
        base_in = λ _. b.0;
        base_named = λ _. b.1;
        added_in = λ q _. absurd (omega arith);
        added_named = λ q _. absurd (omega arith);
        edited_in = λ q. absurd (omega arith);
        edited_named = λ q. absurd (omega arith);
        renamed_in = λ q _. absurd (omega arith);
        renamed_what = λ q _. absurd (omega arith);
        renamed_named = λ q _. absurd (omega arith);
        widened_in = λ q _. absurd (omega arith);
      }
  parts_sit (suc m) b r =
      let e = marked_slot (suc m) slot h in
      let d = marked_mark (suc m) slot h in
      rw (ne_eqb (suc m) 0 (λ e. omega arith))
      (record {
        base_in = λ q. absurd (omega arith);
        base_named = λ q. absurd (omega arith);
        added_in = λ _ q. absurd (omega arith);
        added_named = λ _ q. absurd (omega arith);
        edited_in = λ _. rw e b.0;
        edited_named = λ _. rw e b.1;
        renamed_in = λ _ q. rw d (r.renamed_in (rw d at q));
        renamed_what = λ _ q. rw d (r.renamed_what (rw d at q));
        renamed_named = λ _ q. rw d (r.renamed_named (rw d at q));
        widened_in = λ _ q. rw d (r.widened_in (rw d at q));
      })

-- One edit more asks for itself, and for those before it as they did.
module _ (l : Trees) (k mark : ℕ) (n : Named l.request_pool l.edits k) where
  mark_asks : (w : What) → w ≡ what_of (edit_at l.edits k).what → Asks l mark → Asks l (mark_with w k mark)
  mark_asks Rename q a =
      let e : renaming (mark_with Rename k mark) ≡ k = (let f = n.few in omega arith) in
      let d = rename_high k mark n.few in
      record {
        renamed_in = λ _. rw e n.entry;
        renamed_what = λ _. rw e (renames_byte (edit_at l.edits k).what Rename q refl);
        renamed_named = λ _. rw e n.named;
        widened_in = λ h. rw d (a.widened_in (let f = n.few in omega arith));
      }
  mark_asks Relax q a =
      let e = relax_half k mark in
      let d = relax_high k mark in
      record {
        renamed_in = λ h. rw e (a.renamed_in (omega arith));
        renamed_what = λ h. rw e (a.renamed_what (omega arith));
        renamed_named = λ h. rw e (a.renamed_named (omega arith));
        widened_in = λ h. rw d (a.widened_in (omega arith));
      }
  mark_asks Widen q a =
      let e = widen_low k mark n.few in
      record {
        renamed_in = λ h. rw e (a.renamed_in (omega arith));
        renamed_what = λ h. rw e (a.renamed_what (omega arith));
        renamed_named = λ h. rw e (a.renamed_named (omega arith));
        widened_in = λ _. rw (widen_high k mark n.few) n.entry;
      }

-- ---- what the marks carry

-- No mark, no edit.
pub carries_none : (l : Trees) (n : ℕ) → n ≤ 1024 → ((s : ℕ) → s < n → Sits l s) → Carries l n (replicate 1024 0) []
unfolding edit_fields marked_field marked_name marked_flags marked_code as_marked field_at
carries_none l n few h =
    record {
      room = length-replicate {A = ℕ} 1024 0;
      field = λ s i. rw (unmarked s (omega arith)) (source_is l 0 s (omega arith));
      sits = λ s i. rw (unmarked s (omega arith)) (h s i);
      told = record { renames = λ s i. rw (unmarked s (omega arith)); widens = λ s i. rw (unmarked s (omega arith)) };
    }
  where
    unmarked : (s : ℕ) → s < 1024 → ◌≡◌ {A = ℕ} (get_or (replicate 1024 0) s 0) 0
    unmarked s i = get_or-replicate 1024 s 0 0 i

-- One edit more.
module _ {l : Trees} {n : ℕ} {marks : List ℕ} {decided : List Edited} (C : Carries l n marks decided) {us : List ℕ} (R : Rises l.records n us)
    (version k slot : ℕ) (i : slot < n) (N : Named l.request_pool l.edits k) where
  abbrev old : ℕ
  old = get_or marks slot 0

  abbrev change : Change
  change = change_of version l.request_pool l.edits k

  abbrev edited : Edited
  edited = edited_at l.records slot change

  abbrev what : What
  what = what_of (edit_at l.edits k).what

  abbrev fld : ℕ → Field
  fld = field_at l.pool l.records

  abbrev id : ℕ → ℕ
  id = slot_id l.records

  changes_so : change ≡ changes what version (new_name l.request_pool l.edits k) (edit_at l.edits k).code
  changes_so = change_is version l.request_pool l.edits k

  id_is : (s : ℕ) → (edit_fields decided (fld s)).id ≡ id s
  unfolding field_at
  id_is s = edits_keep_id decided (fld s)

  small : (s : ℕ) → s < n → s < 1024
  small s h = let w = R.small in omega arith

  own : edit_fields (decided ++ (edited ∷ [])) (fld slot) ≡ with_change change (edit_fields decided (fld slot))
  unfolding edit_fields
  own = edits_append decided (edited ∷ []) (fld slot) ∙ rw (id_is slot, eqb_self (id slot))

  apart : (s : ℕ) → s < n → (s ≡ slot → ⊥) → id slot ≡ id s → ⊥
  apart s h d e = d (sym (distinct_one id (preorder (base_slots l.records n)) R.own slot s (there R slot i) (there R s h) e))

  other : (s : ℕ) → s < n → (s ≡ slot → ⊥) → edit_fields (decided ++ (edited ∷ [])) (fld s) ≡ edit_fields decided (fld s)
  unfolding edit_fields
  other s h d = edits_append decided (edited ∷ []) (fld s) ∙ rw (id_is s, ne_eqb (id slot) (id s) (apart s h d))

  abbrev marks' : List ℕ
  marks' = set marks slot (marked_by l.edits k old)

  own_mark : get_or marks' slot 0 ≡ mark_with what k old
  own_mark = get_or-set_same marks slot (marked_by l.edits k old) 0 (let w = small slot i in let r = C.room in omega arith)

  -- Of each slot: of the edit's own, and of another.
  each : (P : (s mark : ℕ) → Type 0) → P slot (mark_with what k old) → ((s : ℕ) → s < n → (s ≡ slot → ⊥) → P s (get_or marks s 0)) → (s : ℕ) → s < n → P s (get_or marks' s 0)
  each P p q s h = go (eqb s slot) refl
    where
      go : (b : Bool) → eqb s slot ≡ b → P s (get_or marks' s 0)
      go true e = let z = eqb-true s slot e in rw (z, own_mark) p
      go false e = let z = eqb-false s slot e in rw (get_or-set_other marks slot s (marked_by l.edits k old) 0 z) (q s h z)

  -- What the marks told of a kind of change they tell again.
  tells_more : (P : Change → Bool) (test : ℕ → Bool) → ((s : ℕ) → s < n → any (of_id P (id s)) decided ≡ test (get_or marks s 0)) → (test old || P change) ≡ test (mark_with what k old)
      → (s : ℕ) → s < n → any (of_id P (id s)) (decided ++ (edited ∷ [])) ≡ test (get_or marks' s 0)
  tells_more P test before now =
      each (λ s m. any (of_id P (id s)) (decided ++ (edited ∷ [])) ≡ test m)
      (any_more P (id slot) decided edited ∙ rw (eqb_self (id slot), before slot i) now)
      (λ s h d. any_more P (id s) decided edited ∙ rw (ne_eqb (id s) (id slot) (λ z. apart s h d (sym z))) (or-false (any (of_id P (id s)) decided) ∙ before s h))

  pub carries_more : (new : List ℕ) → new ≡ marks' → Carries l n new (decided ++ (edited ∷ []))
  carries_more new e = rw e record {
    room = length-set marks slot (marked_by l.edits k old) ∙ C.room;
    field = each (λ s m. source_field l (as_marked m s) ≡ edit_fields (decided ++ (edited ∷ [])) (fld s))
        (source_is l (mark_with what k old) slot (small slot i) ∙ sym (mark_changed l k old slot N.few what version)
        ∙ rw (← changes_so, ← (source_is l old slot (small slot i)), C.field slot i) (sym own))
        (λ s h d. C.field s h ∙ sym (other s h d));
    sits = each (λ s m. Sits l (as_marked m s))
        (let p = sits_parts l slot (small slot i) old (C.sits slot i) in parts_sit l slot (small slot i) (mark_with what k old) p.0 (mark_asks l k old N what refl p.1))
        (λ s h d. C.sits s h);
    told = record {
      renames = tells_more is_rename (λ m. leb 2 (low_part m)) C.told.renames (rw changes_so (mark_renames l k old slot N.few what version));
      widens = tells_more is_widening (leb 256) C.told.widens (rw changes_so (mark_widens l k old slot N.few what version));
    };
  }
