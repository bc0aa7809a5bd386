-- The base as a plan of itself: each place holds its own slot, id and count, so it reads as the base does.
use Prim.Native.Nat.{ℕ, suc, ◌+◌, ◌-◌, ◌<◌, ◌≤◌}
use mathlib.Core.Path.{◌≡◌, refl, sym, ◌∙◌}
use mathlib.Core.Bool.{true}
use mathlib.Core.List.{List}
use native.Mathlib.Omega.{arith}
use borrow.Author.Tests.{lt-ltb}
use lib.ListN.{length, set}
use lib.Seq.{sets}
use Rattle.paper.specs.Answer.{ok, lowest}
use Rattle.paper.specs.Forest.{Forest, empty, node, size, siblings, levels, mapped}
use Rattle.paper.specs.Field.{Field}
use Rattle.paper.specs.Sound.{name_bytes}
use Rattle.paper.specs.Bytes.{kids_at, in_pool, field_at, slots, from}
use Rattle.paper.specs.Decode.{fields, decode}
use Rattle.paper.specs.Limits.{name_sum, sized, name_lens}
use Rattle.laws.proofs.Basics.{unbind, ok_is, fault_ok}
use Rattle.laws.proofs.Taken as taken
use Rattle.laws.proofs.Fitting.{lowest_none, levels_mapped, size_mapped, names_below, sum_within, sized_slots}
use Rattle.laws.proofs.Runs.{from_more}
use Rattle.laws.proofs.Preorder.{mapped_mapped}
use Rattle.tree.specs.Read.{itself}
use Rattle.tree.proofs.Filled.{full}
use Rattle.tree.proofs.Roots.{roots_row}
use Rattle.record.specs.Trees.{Trees}
use Rattle.plan.specs.Plan.{source_field, planned_field, Sits}
use Rattle.plan.specs.Draft.{Drawn}
use Rattle.plan.specs.Sources.{id_bits, own_source}
use Rattle.plan.specs.Table.{sources, numbers, members, Roomy, PlanIn, fields_in, planned_at, CopiedIn, TakenIn}
use Rattle.plan.proofs.Laying.{copied_laid, laid_fields, laid_draft, draft_plan}
use Rattle.plan.specs.declared.PlanRows.{PlanRows}

-- ---- the loop: `search copying`

pub record Copying (s : List ℕ) (k n : ℕ) (plan : PlanRows) (at i : ℕ) (plan' : PlanRows) : Type 0 where
  pub within : i ≤ n
  pub copied : CopiedIn s k i plan at plan'

one_more : (g : ℕ → ℕ) (l l' : List ℕ) (at k i v : ℕ) → l' ≡ sets l at (from g k i) → v ≡ g (k + i) → set l' (at + i) v ≡ sets l at (from g k (i + 1))
one_more g l l' at k i v e q = rw (e, q) (from_more g l at k i)

module _ (s : List ℕ) (k n : ℕ) (plan : PlanRows) (at : ℕ) where
  pub copy_starts : Copying s k n plan at 0 plan
  unfolding from
  copy_starts = record { within = omega arith; copied = record { sources_set = refl; numbers_set = refl; members_set = refl } }

  module _ (i : ℕ) (p : PlanRows) (h : Copying s k n plan at i p) where
    pub copy_goes : (v w : ℕ) (p' : PlanRows) → i < n → v ≡ id_bits s (k + i) → w ≡ kids_at s (k + i) → p' ≡ planned_at p (at + i) (k + i) v w → Copying s k n plan at (i + 1) p'
    copy_goes v w p' l ev ew e =
        let c = h.copied in
        record {
          within = omega arith;
          copied = rw e (record {
            sources_set = one_more itself (sources plan) (sources p) at k i (k + i) c.sources_set refl;
            numbers_set = one_more (id_bits s) (numbers plan) (numbers p) at k i v c.numbers_set ev;
            members_set = one_more (kids_at s) (members plan) (members p) at k i w c.members_set ew;
          });
        }

    pub copy_ends : n ≤ i → CopiedIn s k n plan at p
    copy_ends l = let a = h.within in let e : i ≡ n = omega arith in rw e at h.copied

pub ruleset copying = (copy_starts, copy_goes, copy_ends)

-- ---- sources that decoded

pub decoded_named : (list : ℕ) (s pool : List ℕ) (t : Forest Field) → decode list s pool ≡ ok t → (j : ℕ) → j < slots s → in_pool (length pool) s j ≡ true
unfolding decode
decoded_named list s pool t e j b =
    unbind _ _ e λ _ e₁ a₁. unbind _ _ a₁ λ _ e₂ a₂.
    lowest_none (in_pool (length pool) s) 0 (slots s) (fault_ok 4 list (lowest (in_pool (length pool) s) 0 (slots s)) e₂) j (omega arith) (omega arith)

module _ (list : ℕ) (l : Trees) (t : Forest Field) where
  -- A slot of a base that decodes is a source that is there, and so is 1,024 and a slot of an additions tree that does.
  pub base_sits : decode list l.records l.pool ≡ ok t → slots l.records ≤ 1024 → (j : ℕ) → j < slots l.records → Sits l j
  base_sits e w j b =
      record {
        base_in = λ _. omega arith;
        base_named = λ _. decoded_named list l.records l.pool t e j b;
        added_in = λ c _. absurd (omega arith);
        added_named = λ c _. absurd (omega arith);
        edited_in = λ c. absurd (omega arith);
        edited_named = λ c. absurd (omega arith);
        renamed_in = λ c _. absurd (omega arith);
        renamed_what = λ c _. absurd (omega arith);
        renamed_named = λ c _. absurd (omega arith);
        widened_in = λ c _. absurd (omega arith);
      }

  pub added_sits : decode list l.added_records l.request_pool ≡ ok t → slots l.added_records ≤ 1024 → (j : ℕ) → j < slots l.added_records → Sits l (1024 + j)
  added_sits e w j b =
      let d : 1024 + j - 1024 ≡ j = omega arith in
      record {
        base_in = λ c. absurd (omega arith);
        base_named = λ c. absurd (omega arith);
        added_in = λ _ _. omega arith;
        added_named = λ _ _. rw d (decoded_named list l.added_records l.request_pool t e j b);
        edited_in = λ c. absurd (omega arith);
        edited_named = λ c. absurd (omega arith);
        renamed_in = λ c _. absurd (omega arith);
        renamed_what = λ c _. absurd (omega arith);
        renamed_named = λ c _. absurd (omega arith);
        widened_in = λ c _. absurd (omega arith);
      }

-- ---- what it is a plan of

pub own_field : (l : Trees) (k : ℕ) → k < 1024 → planned_field l (own_source l.records k) ≡ field_at l.pool l.records k
unfolding planned_field source_field field_at
own_field l k b = rw (lt-ltb k 1024 b)

mapped_same : {B : Type 0} (f g : ℕ → B) (kids : ℕ → ℕ) (n k : ℕ) (t : Forest ℕ) → taken.Laid kids n k t → ((j : ℕ) → j < n → f j ≡ g j) → mapped f t ≡ mapped g t
unfolding mapped
mapped_same f g kids n k empty l h = refl
mapped_same f g kids n k (node j m u) l h =
    rw (l.0, h k l.1, mapped_same f g kids n (suc k) m l.3 h, mapped_same f g kids n (suc (k + size m)) u l.4 h)

all_drawn : (lt : Trees) (s : List ℕ) (kids : ℕ → ℕ) (n k : ℕ) (t : Forest ℕ) → taken.Laid kids n k t → ((j : ℕ) → j < n → Sits lt j) → Drawn lt (mapped (own_source s) t)
unfolding mapped
all_drawn lt s kids n k empty l h = tt
all_drawn lt s kids n k (node j m u) l h = (rw l.0 (h k l.1), all_drawn lt s kids n (suc k) m l.3 h, all_drawn lt s kids n (suc (k + size m)) u l.4 h)

-- Bytes that passed 2 and decode, taken as a plan, are a plan, and it plans the tree that they decode to.
pub record Based (l : Trees) (t : Forest Field) (table : PlanRows) (n : ℕ) : Type 0 where
  pub plan : PlanIn l table n
  pub tree : fields_in l table n ≡ t

pub base_plan : (list : ℕ) (l : Trees) (t : Forest Field) (n : ℕ) (plan plan' : PlanRows) → sized l.records l.pool ≡ true → decode list l.records l.pool ≡ ok t → n ≡ slots l.records
    → Roomy plan → TakenIn l.records n plan plan' → Based l t plan' n
unfolding decode fields name_sum
base_plan list l t n plan plan' z e en room h =
    unbind _ _ e λ _ e₁ a₁. unbind _ _ a₁ λ _ e₂ a₂. unbind _ _ a₂ λ p e₃ a₃. unbind _ _ a₃ λ _ e₄ a₄.
    let s = l.records in
    let u = p.trees in
    let w = sized_slots s l.pool z in
    let w₀ = w.0 in
    let o = taken.roots_take list (kids_at s) (slots s) (slots s) 0 p e₃ in
    let r = roots_row list (kids_at s) (slots s) (slots s) 0 p (omega arith) (omega arith) e₃ in
    let f = full list (kids_at s) (slots s) 16 (siblings u) 0 p r.0 in
    let r₁ = r.1 in
    let f₁ = f.next in
    let su : n ≡ size u = omega arith in
    let v = mapped (own_source s) u in
    let laid = copied_laid s p (slots s) (siblings u) 0 0 n plan plan' f su h in
    let sv : n ≡ size v = su ∙ sym (size_mapped (own_source s) u) in
    let dv : levels v ≤ 16 = let x = levels_mapped (own_source s) u in let y = o.depth in omega arith in
    let is_t : fields_in l plan' n ≡ t = laid_fields v plan plan' n room laid sv (omega arith) dv l
    ∙ mapped_mapped (own_source s) (planned_field l) u
    ∙ mapped_same (λ k. planned_field l (own_source s k)) (field_at l.pool s) (kids_at s) (slots s) 0 u o.laid (λ j b. own_field l j (omega arith))
    ∙ ok_is a₄ in
    let below = names_below l.pool s (slots s) 0 u o.laid in
    let rest = sum_within (name_lens s) 0 (size u) (slots s) (omega arith) in
    let w₁ = w.1 in
    let t_sum : name_bytes t ≤ 32768 = rw (← (ok_is a₄)) (omega arith) in
    record {
      plan = draft_plan l plan' n (laid_draft v plan plan' n room laid sv (omega arith) dv l (all_drawn l s (kids_at s) (slots s) 0 u o.laid (base_sits list l t e w₀))) (rw is_t t_sum);
      tree = is_t;
    }
