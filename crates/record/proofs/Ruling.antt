-- The byte rules by words.
use Rattle.std.proofs.Common.{◌≡◌, ℕ, zero, suc, ◌+◌, ◌-◌, ◌*◌, ◌<◌, Bool, true, false, ◌&&◌, ◌||◌, eqb, ltb, List, get_or, sym, refl, ◌∙◌, arith, ltb-true, le-ltb, lt-ltb, eq-eqb, ne_eqb, eqb-true}
use Rattle.paper.specs.Bytes.{word16, word32, rec_at, kids_fit, ok_bytes}
use Rattle.laws.proofs.RoundTrip.{both}

-- ---- what the rules ask, one by one

pub record Rules (s : List ℕ) (k : ℕ) : Type 0 where
  pub kids : kids_fit (rec_at s k).kind (rec_at s k).kids ≡ true
  pub flags : (rec_at s k).flags < 4
  pub byte11 : (rec_at s k).byte11 ≡ 0
  pub word14 : (rec_at s k).word14 ≡ 0
  pub code : (eqb (rec_at s k).kind 0 || eqb (rec_at s k).code 0) ≡ true

pub rules : (s : List ℕ) (k : ℕ) → ok_bytes s k ≡ true → Rules s k
unfolding ok_bytes
rules s k e =
    let r = rec_at s k in
    let e₁ = both (((kids_fit r.kind r.kids && ltb r.flags 4) && eqb r.byte11 0) && eqb r.word14 0) (eqb r.kind 0 || eqb r.code 0) e in
    let e₂ = both ((kids_fit r.kind r.kids && ltb r.flags 4) && eqb r.byte11 0) (eqb r.word14 0) e₁.0 in
    let e₃ = both (kids_fit r.kind r.kids && ltb r.flags 4) (eqb r.byte11 0) e₂.0 in
    let e₄ = both (kids_fit r.kind r.kids) (ltb r.flags 4) e₃.0 in
    record { kids = e₄.0; flags = ltb-true r.flags 4 e₄.1; byte11 = eqb-true r.byte11 0 e₃.1; word14 = eqb-true r.word14 0 e₂.1; code = e₁.1 }

keeps : (s : List ℕ) (k : ℕ) → Rules s k → ok_bytes s k ≡ true
unfolding ok_bytes
keeps s k h = rw (h.kids, lt-ltb (rec_at s k).flags 4 h.flags, eq-eqb (rec_at s k).byte11 0 h.byte11, eq-eqb (rec_at s k).word14 0 h.word14) h.code

-- ---- children by kind

or_false : (b : Bool) → (b || false) ≡ b
or_false true = refl
or_false false = refl

kids_none : (c : ℕ) → kids_fit 0 c ≡ eqb c 0
kids_none c = or_false ((eqb c 0 || false) || false) ∙ or_false (eqb c 0 || false) ∙ or_false (eqb c 0)

pub kids_nested : (b c : ℕ) → (b ≡ 0 → ⊥) → kids_fit b c ≡ (eqb b 1 || (ltb b 4 && eqb c (b - 1)))
kids_nested zero c h = absurd (h refl)
kids_nested (suc zero) c h = refl
kids_nested (suc (suc zero)) c h = or_false (eqb c 1)
kids_nested (suc (suc (suc zero))) c h = refl
kids_nested (suc (suc (suc (suc b)))) c h =
    let x = suc (suc (suc (suc b))) in
    rw (ne_eqb x 0 (λ z. omega arith), ne_eqb x 1 (λ z. omega arith), ne_eqb x 2 (λ z. omega arith), ne_eqb x 3 (λ z. omega arith), le-ltb x 4 (omega arith))

-- ---- the two words

as_well : (a b : Bool) → (a ≡ true → b ≡ true) → (b ≡ true → a ≡ true) → a ≡ b
as_well true b f g = sym (f refl)
as_well false true f g = g refl
as_well false false f g = refl

and_true : (a b : Bool) → a ≡ true → b ≡ true → (a && b) ≡ true
and_true a b e f = rw (e, f)

module _ (s : List ℕ) (k kind head kids : ℕ) (ek : kind ≡ (rec_at s k).kind) (eh : head ≡ word32 s (k * 24 + 8)) (et : kids ≡ word32 s (k * 24 + 12)) (low : (i : ℕ) → get_or s i 0 < 256) where
  head_is : head ≡ (rec_at s k).name_len + (rec_at s k).kind * 256 + (rec_at s k).flags * 65536 + (rec_at s k).byte11 * 16777216
  unfolding word32
  head_is =
      let i₉ : k * 24 + 8 + 1 ≡ k * 24 + 9 = omega arith in
      let i₁₀ : k * 24 + 8 + 2 ≡ k * 24 + 10 = omega arith in
      let i₁₁ : k * 24 + 8 + 3 ≡ k * 24 + 11 = omega arith in
      rw (i₉, i₁₀, i₁₁) at eh

  kids_is : kids ≡ (rec_at s k).kids + (rec_at s k).word14 * 65536
  unfolding word16 word32
  kids_is =
      let i₁₄ : k * 24 + 12 + 2 ≡ k * 24 + 14 = omega arith in
      let i₁₅ : k * 24 + 12 + 3 ≡ k * 24 + 14 + 1 = omega arith in
      let e : kids ≡ get_or s (k * 24 + 12) 0 + get_or s (k * 24 + 12 + 1) 0 * 256 + get_or s (k * 24 + 14) 0 * 65536 + get_or s (k * 24 + 14 + 1) 0 * 16777216 = rw (i₁₄, i₁₅) at et in
      omega arith

  kids_low : (rec_at s k).kids < 65536
  unfolding word16
  kids_low = let a = low (k * 24 + 12) in let b = low (k * 24 + 12 + 1) in omega arith

  head_low : (rec_at s k).flags < 4 → (rec_at s k).byte11 ≡ 0 → head < 262144
  head_low f p = let a = low (k * 24 + 8) in let b = low (k * 24 + 9) in let e = head_is in omega arith

  pub rule_primitive : (a b : ℕ) → kind ≡ 0 → a ≡ head → b ≡ kids → ltb (a + b * 4294967296) 262144 ≡ ok_bytes s k
  rule_primitive a b z ea eb =
      let eh' = head_is in
      let et' = kids_is in
      let ez : (rec_at s k).kind ≡ 0 = sym ek ∙ z in
      as_well (ltb (a + b * 4294967296) 262144) (ok_bytes s k)
      (λ e.
      let l = ltb-true (a + b * 4294967296) 262144 e in
      let zk : (rec_at s k).kids ≡ 0 = omega arith in
      keeps s k (record { kids = rw (ez, zk); flags = omega arith; byte11 = omega arith; word14 = omega arith; code = rw ez }))
      (λ e.
      let h = rules s k e in
      let w = h.word14 in
      let l = head_low h.flags h.byte11 in
      let zk = eqb-true (rec_at s k).kids 0 (sym (kids_none (rec_at s k).kids) ∙ (rw ez at h.kids)) in
      lt-ltb (a + b * 4294967296) 262144 (omega arith))

  pub rule_nested : (wide code : ℕ) → (kind ≡ 0 → ⊥) → code ≡ (rec_at s k).code → wide ≡ kind
      → ((((eqb kind 1 || (ltb kind 4 && eqb kids (wide - 1))) && ltb head 262144) && ltb kids 65536) && eqb code 0) ≡ ok_bytes s k
  rule_nested wide code z ec ew =
      let eh' = head_is in
      let et' = kids_is in
      let fit = eqb kind 1 || (ltb kind 4 && eqb kids (wide - 1)) in
      let nested : kids_fit (rec_at s k).kind kids ≡ fit = rw (← ek, ew) (kids_nested kind kids z) in
      as_well (((fit && ltb head 262144) && ltb kids 65536) && eqb code 0) (ok_bytes s k)
      (λ e.
      let t₁ = both ((fit && ltb head 262144) && ltb kids 65536) (eqb code 0) e in
      let t₂ = both (fit && ltb head 262144) (ltb kids 65536) t₁.0 in
      let t₃ = both fit (ltb head 262144) t₂.0 in
      let lh = ltb-true head 262144 t₃.1 in
      let lk = ltb-true kids 65536 t₂.1 in
      let same : (rec_at s k).kids ≡ kids = omega arith in
      keeps s k (record { kids = rw same (nested ∙ t₃.0); flags = omega arith; byte11 = omega arith; word14 = omega arith; code = rw (← ek, ne_eqb kind 0 z, ← ec) t₁.1 }))
      (λ e.
      let h = rules s k e in
      let w = h.word14 in
      let l = kids_low in
      let same : kids ≡ (rec_at s k).kids = omega arith in
      and_true ((fit && ltb head 262144) && ltb kids 65536) (eqb code 0)
      (and_true (fit && ltb head 262144) (ltb kids 65536)
      (and_true fit (ltb head 262144) (sym nested ∙ rw same h.kids) (lt-ltb head 262144 (head_low h.flags h.byte11)))
      (lt-ltb kids 65536 (omega arith)))
      (rw ec (rw (← ek, ne_eqb kind 0 z) at h.code)))
