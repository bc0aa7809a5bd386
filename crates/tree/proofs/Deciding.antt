-- The four tests in order are `decode`: each chain of the paper stops where a test was refused, and goes on where it was fine. `search deciding`.
use mathlib.Core.Path.{◌≡◌, refl, sym, ap, ◌∙◌}
use mathlib.Core.List.{List}
use mathlib.Core.Bool.{Bool, true, false, not}
use mathlib.Core.Option.{Option, none, some}
use Prim.Native.Nat.{ℕ, ◌*◌, ◌≤◌}
use native.Mathlib.Nat.{zero-add}
use native.Mathlib.Omega.{arith}
use borrow.Author.Tests.{not-true, not-false}
use lib.ListN.{length}
use Rattle.paper.specs.declared.Role.TheVariants.{Member}
use Rattle.paper.specs.Answer.{Answer, ok, refused, ◌>>=◌, lowest, fault}
use Rattle.paper.specs.Forest.{Forest, siblings}
use Rattle.paper.specs.Field.{Field}
use Rattle.paper.specs.Sound.{misnamed}
use Rattle.paper.specs.Bytes.{ok_bytes, in_pool, field_at, kids_at, slots}
use Rattle.paper.specs.Layout.{Part, row, roots}
use Rattle.paper.specs.Limits.{sized}
use Rattle.paper.specs.Decode.{fields, decode}
use Rattle.laws.proofs.Fitting.{siblings_mapped}
use Rattle.record.specs.declared.Refusal.{Refusal}
use Rattle.record.specs.Answers.{Check}
use Rattle.std.specs.Prelude.{Ok, Err}
use Rattle.record.specs.Says.{tested, refusal_of}
use Rattle.record.proofs.Testing.{refused_as, was_fine, chain_goes, chain_stops}
use Rattle.record_limits.proofs.Within.{tree_most}
use Rattle.tree.specs.Answers.{Walked, Shaped}
use Rattle.tree.specs.Read.{got, part}
use Rattle.tree.specs.Says.{rooted, decoded, walked_to, Labelled}
use Rattle.tree.specs.Fits.{Planted}
use Rattle.tree.specs.Only.{only_read}
use Rattle.tree.proofs.Roots.{roots_row}
use Rattle.tree.proofs.Steps.{part_is, reads_is}
use Rattle.tree.proofs.Labels.{walked_end}

-- ---- what an answer of the code tells of the paper's

pub decode_refused : (x : Answer (Forest Field)) (w : Shaped) (f : Refusal) → w ≡ decoded x → w ≡ Err f → x ≡ refused_as f
unfolding decoded
decode_refused (ok t) w f e q = let z : ◌≡◌ {A = ℕ} 0 1 = cc in absurd (omega arith)
decode_refused (refused n l p) w f e q = cc

pub decode_ok : (P : Type 0) (x : Answer (Forest Field)) (w : Shaped) (c : ℕ) → w ≡ decoded x → w ≡ Ok c → ((t : Forest Field) → x ≡ ok t → c ≡ siblings t → P) → P
unfolding decoded
decode_ok P (ok t) w c e q f = f t refl (let z : c ≡ siblings t = cc in z)
decode_ok P (refused n l p) w c e q f = let z : ◌≡◌ {A = ℕ} 0 1 = cc in absurd (omega arith)

-- ---- what the walks tell of the paper's answers

was_rooted : (y : Answer Part) (w : Shaped) (c : ℕ) → w ≡ rooted 0 y → w ≡ Ok c → (y ≡ ok (got y)) × (siblings (got y).trees ≡ c)
unfolding rooted
was_rooted (ok p) w c e d = (refl, sym (zero-add (siblings p.trees)) ∙ cc)
was_rooted (refused n l k) w c e d = let z : ◌≡◌ {A = ℕ} 0 1 = cc in absurd (omega arith)

was_stuck : (y : Answer Part) (w : Shaped) (x : Refusal) → w ≡ rooted 0 y → w ≡ Err x → y ≡ refused_as x
unfolding rooted
was_stuck (ok p) w x e d = let z : ◌≡◌ {A = ℕ} 0 1 = cc in absurd (omega arith)
was_stuck (refused n l k) w x e d = cc

walk_stops : {A : Type 0} (number li next : ℕ) (o : Option ℕ) (w : Walked) (f : Unit {0} → Answer A) (x : Refusal) → w ≡ walked_to number li next o → w ≡ Err x → (fault number li o >>= f) ≡ refused_as x
unfolding walked_to ◌>>=◌
walk_stops number li next none w f x e d = let z : ◌≡◌ {A = ℕ} 0 1 = cc in absurd (omega arith)
walk_stops number li next (some p) w f x e d = cc

-- ---- 3 to 6

module _ (li : ℕ) (s pool : List ℕ) where
  rest_6 : Part → Answer (Forest Field)
  rest_6 p = fault 6 li (misnamed Member 0 (fields pool s p.trees)) >>= λ _. ok (fields pool s p.trees)

  rest_5 : Answer (Forest Field)
  rest_5 = roots li (kids_at s) (slots s) (slots s) 0 >>= rest_6

  rest_4 : Answer (Forest Field)
  rest_4 = fault 4 li (lowest (in_pool (length pool) s) 0 (slots s)) >>= λ _. rest_5

  module _ (a : Check) (ea : a ≡ tested 3 li (lowest (ok_bytes s) 0 (slots s))) where
    pub stop_3 : (x : Refusal) → a ≡ Err x → Err x ≡ decoded (decode li s pool)
    unfolding decode decoded
    stop_3 x d = sym (ap decoded (chain_stops 3 li (lowest (ok_bytes s) 0 (slots s)) a _ x ea d))

    module _ (fa : a ≡ (Ok tt)) (b : Check) (eb : b ≡ tested 4 li (lowest (in_pool (length pool) s) 0 (slots s))) where
      past_3 : decode li s pool ≡ rest_4
      unfolding decode rest_4 rest_5 rest_6
      past_3 = chain_goes 3 li (lowest (ok_bytes s) 0 (slots s)) a _ ea fa

      pub stop_4 : (x : Refusal) → b ≡ Err x → Err x ≡ decoded (decode li s pool)
      unfolding decoded rest_4
      stop_4 x d = sym (ap decoded (past_3 ∙ chain_stops 4 li (lowest (in_pool (length pool) s) 0 (slots s)) b _ x eb d))

      module _ (fb : b ≡ (Ok tt)) (w : Shaped) (ew : w ≡ rooted 0 (roots li (kids_at s) (slots s) (slots s) 0)) where
        past_4 : decode li s pool ≡ rest_5
        unfolding rest_4
        past_4 = past_3 ∙ chain_goes 4 li (lowest (in_pool (length pool) s) 0 (slots s)) b _ eb fb

        pub stop_5 : (x : Refusal) → w ≡ Err x → Err x ≡ decoded (decode li s pool)
        unfolding decoded rest_5 ◌>>=◌
        stop_5 x d = rw (past_4, was_stuck (roots li (kids_at s) (slots s) (slots s) 0) w x ew d)

        module _ (c : ℕ) (fw : w ≡ Ok c) (v : Walked) (ev : Labelled pool s li (slots s) 16 c 0 Member v) where
          whole : Part
          whole = part li (kids_at s) (slots s) 16 c 0

          past_5 : (decode li s pool ≡ rest_6 whole) × (siblings whole.trees ≡ c)
          unfolding rest_5 ◌>>=◌ whole
          past_5 =
              let r = was_rooted (roots li (kids_at s) (slots s) (slots s) 0) w c ew fw in
              let p = got (roots li (kids_at s) (slots s) (slots s) 0) in
              let h : part li (kids_at s) (slots s) 16 c 0 ≡ p = part_is li (kids_at s) (slots s) 16 c 0 p (rw r.1 at (roots_row li (kids_at s) (slots s) (slots s) 0 p (omega arith) (omega arith) r.0).0) in
              (past_4 ∙ rw (r.0, h), ap (λ (q : Part). siblings q.trees) h ∙ r.1)

          pub stop_6 : (x : Refusal) → v ≡ Err x → Err x ≡ decoded (decode li s pool)
          unfolding decoded rest_6 whole
          stop_6 x d = sym (ap decoded (past_5.0 ∙ walk_stops 6 li _ _ v _ x ev.says d))

          pub all_fine : (j : ℕ) → v ≡ Ok j → Ok c ≡ decoded (decode li s pool)
          unfolding decoded rest_6 whole fields ◌>>=◌
          all_fine j d = rw (past_5.0, (walked_end 6 li _ j _ v ev.says d).0) (ap Ok (sym (siblings_mapped (field_at pool s) whole.trees ∙ past_5.1)))

-- What the labels ask, of a tree that keeps 3, 4 and 5.
pub planted : (li : ℕ) (s pool : List ℕ) (n c : ℕ) (a b : Check) (w : Shaped) → n * 24 ≤ length s → n ≤ 1024 → a ≡ tested 3 li (lowest (ok_bytes s) 0 n) → a ≡ (Ok tt) → b ≡ tested 4 li (lowest (in_pool (length pool) s) 0 n) → b ≡ (Ok tt)
    → w ≡ rooted 0 (roots li (kids_at s) n n 0) → w ≡ Ok c → Planted li pool s n c
planted li s pool n c a b w o l ea fa eb fb e d =
    let r = was_rooted (roots li (kids_at s) n n 0) w c e d in
    let p = got (roots li (kids_at s) n n 0) in
    let q = roots_row li (kids_at s) n n 0 p (omega arith) (omega arith) r.0 in
    let h : row li (kids_at s) n 16 c 0 ≡ ok p = rw r.1 at q.0 in
    record {
      whole = o;
      small = l;
      bytes = was_fine 3 li (lowest (ok_bytes s) 0 n) a ea fa;
      bounds = was_fine 4 li (lowest (in_pool (length pool) s) 0 n) b eb fb;
      read = reads_is li (kids_at s) n 16 c 0 p h;
      all = rw (part_is li (kids_at s) n 16 c 0 p h) q.1;
    }

pub ruleset deciding = (stop_3, stop_4, stop_5, stop_6, all_fine)

-- ---- 2, then 3 to 6

module _ (s pool : List ℕ) (b : Bool) (e : b ≡ sized s pool) where
  pub past_limits : not b ≡ true → Err (refusal_of 2 0 0) ≡ decoded (only_read s pool)
  unfolding decoded only_read ◌>>=◌
  past_limits t = rw (← e, not-true b t)

  module _ (t : not b ≡ false) where
    pub few_bytes : length s ≤ 24576
    few_bytes = tree_most s pool (sym e ∙ not-false b t)

    pub reads_on : (w : Shaped) → w ≡ decoded (decode 0 s pool) → w ≡ decoded (only_read s pool)
    unfolding only_read ◌>>=◌
    reads_on w d = d ∙ rw (← e, not-false b t)

pub ruleset reading = (past_limits, few_bytes, reads_on)
