-- Records that passed 2 to 6: their trees stand there, within the limits, and `decode` gives their fields.
use mathlib.Core.Path.{◌≡◌, refl, sym, ap, ◌∙◌}
use mathlib.Core.Bool.{true}
use mathlib.Core.List.{List}
use Prim.Native.Nat.{ℕ, ◌≤◌}
use native.Mathlib.Omega.{arith}
use Rattle.paper.specs.Answer.{ok}
use Rattle.paper.specs.Forest.{size, siblings, levels}
use Rattle.paper.specs.Sound.{name_bytes}
use Rattle.paper.specs.Bytes.{kids_at, slots}
use Rattle.paper.specs.Limits.{name_sum, sized, name_lens}
use Rattle.paper.specs.Decode.{fields, decode}
use Rattle.laws.proofs.Basics.{unbind, ok_is}
use Rattle.laws.proofs.Taken as taken
use Rattle.laws.proofs.Fitting.{siblings_mapped, names_below, sum_within, sized_slots}
use Rattle.std.specs.Prelude.{Ok}
use Rattle.tree.specs.Says.{decoded}
use Rattle.tree.proofs.Filled.{full}
use Rattle.tree.proofs.Steps.{part_is, reads_is}
use Rattle.tree.proofs.Roots.{roots_row}
use Rattle.tree.proofs.Deciding.{decode_ok}
use Rattle.tree_walk.specs.There.{row_of, There}

pub record Opened (s pool : List ℕ) (c : ℕ) : Type 0 where
  pub there : There s 16 c 0
  pub tree : decode 0 s pool ≡ ok (fields pool s (row_of s 16 c 0).trees)
  pub laid : taken.Laid (kids_at s) (slots s) 0 (row_of s 16 c 0).trees
  pub depth : levels (row_of s 16 c 0).trees ≤ 16
  pub all : size (row_of s 16 c 0).trees ≡ slots s
  pub past : (row_of s 16 c 0).next ≡ slots s
  pub names : name_bytes (fields pool s (row_of s 16 c 0).trees) ≤ 32768

pub opened : (s pool : List ℕ) (c : ℕ) → sized s pool ≡ true → Ok c ≡ decoded (decode 0 s pool) → Opened s pool c
unfolding decode fields name_sum
opened s pool c z e =
    decode_ok _ (decode 0 s pool) (Ok c) c e refl λ t et ct.
    unbind _ _ et λ _ e₁ a₁. unbind _ _ a₁ λ _ e₂ a₂. unbind _ _ a₂ λ p e₃ a₃. unbind _ _ a₃ λ _ e₄ a₄.
    let u = p.trees in
    let o = taken.roots_take 0 (kids_at s) (slots s) (slots s) 0 p e₃ in
    let r = roots_row 0 (kids_at s) (slots s) (slots s) 0 p (omega arith) (omega arith) e₃ in
    let q : siblings u ≡ c = sym (siblings_mapped _ u) ∙ ap siblings (ok_is a₄) ∙ sym ct in
    let rc = rw q at r.0 in
    let is_p : row_of s 16 c 0 ≡ p = part_is 0 (kids_at s) (slots s) 16 c 0 p rc in
    let f = (full 0 (kids_at s) (slots s) 16 c 0 p rc).next in
    let g = r.1 in
    let w = sized_slots s pool z in
    let all : size u ≡ slots s = omega arith in
    let below = names_below pool s (slots s) 0 u o.laid in
    let rest = sum_within (name_lens s) 0 (size u) (slots s) (omega arith) in
    let w₁ = w.1 in
    record {
      there = record { few = w.0; within = omega arith; read = reads_is 0 (kids_at s) (slots s) 16 c 0 p rc };
      tree = rw is_p (et ∙ ap ok (sym (ok_is a₄)));
      laid = rw is_p o.laid;
      depth = rw is_p o.depth;
      all = rw is_p all;
      past = rw is_p g;
      names = rw is_p (omega arith);
    }
