-- The records of a plan that reads, in its order: they stand at the places 0, 1, 2 and so on.
use Prim.Native.Nat.{ℕ, zero, suc, ◌+◌, ◌<◌}
use mathlib.Core.Path.{◌≡◌, refl, sym, ap, ◌∙◌}
use mathlib.Core.Bool.{true}
use mathlib.Core.List.{List}
use native.Mathlib.Omega.{arith}
use lib.ListN.{length, get_or, length-append}
use Rattle.paper.specs.Answer.{ok}
use Rattle.paper.specs.Forest.{size, siblings, preorder, counts, mapped}
use Rattle.paper.specs.Field.{Field}
use Rattle.paper.specs.Sound.{name_bytes}
use Rattle.paper.specs.Bytes.{turned, from}
use Rattle.paper.specs.Layout.{Part, roots}
use Rattle.paper.specs.Encode.{encode_names}
use Rattle.paper.specs.Limits.{sum_from}
use Rattle.laws.proofs.Fitting.{size_mapped}
use Rattle.laws.proofs.Written.{length_names}
use Rattle.laws.proofs.Runs.{map_from}
use Rattle.laws.proofs.Preorder.{mapped_mapped, preorder_mapped, counts_mapped}
use Rattle.tree.specs.Read.{got, fine, itself}
use Rattle.tree.proofs.Filled.{Full, full}
use Rattle.tree.proofs.Roots.{roots_row}
use Rattle.tree.proofs.Steps.{fine_got}
use Rattle.record.specs.Trees.{Trees}
use Rattle.plan.specs.Plan.{Source, planned_field, source_field, source_in, kids_in, plan_slots, plan_tree, plan_fields, Plan}
use Rattle.plan.specs.Named.{name_in, Sources}
use Rattle.plan.specs.Walk.{trees_of}
use Rattle.plan.specs.Sources.{source_len}
use Rattle.plan.specs.Table.{sources, numbers, members, DraftIn, fields_in}
use Rattle.plan.proofs.Sourcing.{len_source}
use Rattle.plan.proofs.Walks.{roots_are}
use Rattle.plan.specs.declared.PlanRows.{PlanRows}

-- The field of the planned record at a place, and its name's length.
abbrev pub field_in : Trees → (slots ids : List ℕ) → ℕ → Field
field_in l xs is i = planned_field l (source_in xs is i)

abbrev pub len_in : (base added edits slots : List ℕ) → ℕ → ℕ
len_in base added edits xs i = source_len base added edits (get_or xs i 0)

module _ (l : Trees) (xs is : List ℕ) where
  pub field_id : (k : ℕ) → (field_in l xs is k).id ≡ turned (get_or is k 0)
  unfolding planned_field
  field_id k = refl

  pub field_name : (k : ℕ) → (field_in l xs is k).name ≡ name_in l xs k
  unfolding planned_field name_in
  field_name k = refl

-- A plan's tree is that of its places, and its sources are there.
module _ (l : Trees) (xs is ks : List ℕ) (m : ℕ) (p : Plan l xs is ks m) where
  pub plan_is : plan_fields l xs is ks m ≡ mapped (field_in l xs is) (trees_of (kids_in ks) m)
  unfolding plan_fields plan_tree plan_slots
  plan_is = mapped_mapped (source_in xs is) (planned_field l) _ ∙ ap (mapped (field_in l xs is)) (roots_are 4 (kids_in ks) m p.shaped)

  pub plan_sources : Sources l xs m
  plan_sources = record { few = p.few; sits = p.sits }

module _ (ks : List ℕ) (m : ℕ) (h : fine (roots 4 (kids_in ks) m m 0) ≡ true) where
  p : Part
  p = got (roots 4 (kids_in ks) m m 0)

  read : roots 4 (kids_in ks) m m 0 ≡ ok p
  unfolding p
  read = fine_got (roots 4 (kids_in ks) m m 0) h

  end : p.next ≡ m
  end = (roots_row 4 (kids_in ks) m m 0 p (omega arith) (omega arith) read).1

  whole : Full (kids_in ks) m (siblings p.trees) 0 p
  whole = full 4 (kids_in ks) m 16 (siblings p.trees) 0 p (roots_row 4 (kids_in ks) m m 0 p (omega arith) (omega arith) read).0

  plan_size : size (plan_slots ks m) ≡ m
  unfolding plan_slots p
  plan_size = let a = whole.next in let b = end in omega arith

  plan_places : preorder (plan_slots ks m) ≡ from itself 0 m
  unfolding plan_slots p
  plan_places = whole.slots ∙ ap (λ (z : ℕ). from itself 0 z) plan_size

  plan_counts : counts (plan_slots ks m) ≡ from (kids_in ks) 0 m
  unfolding plan_slots p
  plan_counts = whole.sizes ∙ ap (λ (z : ℕ). from (kids_in ks) 0 z) plan_size

module _ (plan : PlanRows) (m : ℕ) (h : fine (roots 4 (kids_in (members plan)) m m 0) ≡ true) (l : Trees) where
  fields_mapped : fields_in l plan m ≡ mapped (field_in l (sources plan) (numbers plan)) (plan_slots (members plan) m)
  unfolding plan_fields plan_tree
  fields_mapped = mapped_mapped (source_in (sources plan) (numbers plan)) (planned_field l) (plan_slots (members plan) m)

  pub fields_order : preorder (fields_in l plan m) ≡ from (field_in l (sources plan) (numbers plan)) 0 m
  fields_order =
      let f = field_in l (sources plan) (numbers plan) in
      rw fields_mapped (preorder_mapped f (plan_slots (members plan) m) ∙ rw (plan_places (members plan) m h) (map_from f itself 0 m))

  pub fields_counts : counts (fields_in l plan m) ≡ from (kids_in (members plan)) 0 m
  fields_counts = rw fields_mapped (counts_mapped (field_in l (sources plan) (numbers plan)) (plan_slots (members plan) m) ∙ plan_counts (members plan) m h)

  pub fields_size : size (fields_in l plan m) ≡ m
  fields_size = rw fields_mapped (size_mapped (field_in l (sources plan) (numbers plan)) (plan_slots (members plan) m) ∙ plan_size (members plan) m h)

  pub fields_names : length (encode_names (from (field_in l (sources plan) (numbers plan)) 0 m)) ≡ name_bytes (fields_in l plan m)
  fields_names = ap (λ (z : List Field). length (encode_names z)) (sym fields_order) ∙ length_names (fields_in l plan m)

-- ---- the name sum

lengths : (f : ℕ → Field) (g : ℕ → ℕ) (k m : ℕ) → ((i : ℕ) → i < k + m → length (f i).name ≡ g i) → length (encode_names (from f k m)) ≡ sum_from g k m
unfolding from encode_names sum_from
lengths f g k zero h = refl
lengths f g k (suc m) h =
    let a = lengths f g (suc k) m (λ i l. h i (omega arith)) in
    let b = h k (omega arith) in
    length-append (f k).name (encode_names (from f (suc k) m)) ∙ omega arith

pub name_planned : (l : Trees) (a : Source) → (planned_field l a).name ≡ (source_field l a.slot).name
unfolding planned_field
name_planned l a = refl

pub draft_sum : (l : Trees) (plan : PlanRows) (m : ℕ) → DraftIn l plan m → name_bytes (fields_in l plan m) ≡ sum_from (len_in l.records l.added_records l.edits (sources plan)) 0 m
draft_sum l plan m d =
    sym (fields_names plan m d.shaped l)
    ∙ lengths (field_in l (sources plan) (numbers plan)) (len_in l.records l.added_records l.edits (sources plan)) 0 m
    (λ i b. ap length (name_planned l (source_in (sources plan) (numbers plan) i)) ∙ sym (len_source l (get_or (sources plan) i 0) (d.sits i (omega arith))))
