-- What is planned, as fields, is the paper's rebuild: a source stands for its record, and what the rebuild asks of one is the same of the other.
use Prim.Native.Nat.{ℕ, suc, ◌+◌, ◌-◌, ◌<◌, ◌≤◌}
use mathlib.Core.Path.{◌≡◌, refl}
use native.Mathlib.Omega.{arith}
use borrow.Author.Tests.{lt-ltb, le-ltb}
use Rattle.paper.specs.Forest.{Forest, empty, node, size, mapped}
use Rattle.paper.specs.Field.{with_id}
use Rattle.paper.specs.Bytes.{field_at}
use Rattle.paper.specs.Decode.{fields}
use Rattle.paper.specs.Rebuild.{fresh}
use Rattle.laws.proofs.Words.{turned_twice}
use Rattle.laws.proofs.Pointwise.{Each}
use Rattle.record.specs.Trees.{Trees}
use Rattle.plan.specs.Plan.{source_field, planned_field}
use Rattle.update_rebuild.specs.Sources.{added_source}

module _ (l : Trees) where
  -- ---- an added tree

  added_field : (i k : ℕ) → i < 4294967296 → k < 1024 → planned_field l (added_source i k) ≡ with_id i (field_at l.request_pool l.added_records k)
  unfolding planned_field source_field
  added_field i k h b = let e : 1024 + k - 1024 ≡ k = omega arith in rw (le-ltb (1024 + k) 1024 (omega arith), lt-ltb (1024 + k) 2048 (omega arith), e, turned_twice i h)

  pub fresh_fields : (c : ℕ) (t : Forest ℕ) → c + size t ≤ 4294967296 → Each (λ k. k < 1024) t → mapped (planned_field l) (fresh added_source c t) ≡ fresh with_id c (fields l.request_pool l.added_records t)
  unfolding fields mapped fresh size
  fresh_fields c empty h b = refl
  fresh_fields c (node k m n) h b = rw (added_field c k (omega arith) b.0, fresh_fields (suc c) m (omega arith) b.1, fresh_fields (suc (c + size m)) n (omega arith) b.2, size_fields m)
    where
      size_fields : (t : Forest ℕ) → size (mapped (field_at l.request_pool l.added_records) t) ≡ size t
      size_fields empty = refl
      size_fields (node j a b) = rw (size_fields a, size_fields b)
