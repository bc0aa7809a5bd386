-- The struct that receives an addition, by slots, is the paper's: a list has one member, a map two, and what was read stands there.
use Prim.Native.Nat.{ℕ, zero, suc, ◌+◌, ◌-◌, ◌≤◌, ◌<◌}
use mathlib.Core.Path.{◌≡◌, refl, sym, ap, subst, ◌∙◌}
use mathlib.Core.Bool.{Bool, true, false, ◌&&◌, ◌||◌, cond}
use mathlib.Core.List.{List}
use mathlib.Core.Option.{none, some}
use native.Mathlib.Omega.{arith}
use lib.Dec.{eqb, ltb}
use borrow.Author.Tests.{eqb-true, ne_eqb}
use Rattle.paper.specs.declared.Kind.{Kind}
use Rattle.paper.specs.declared.Kind.TheVariants.{Primitive, Structure, Listing, Mapping}
use Rattle.paper.specs.Answer.{ok}
use Rattle.paper.specs.Forest.{Forest, node, mapped}
use Rattle.paper.specs.Field.{Field, is_struct}
use Rattle.paper.specs.Bytes.{turned, rec_at, kind_at, kids_at, kids_fit, kind_from, ok_bytes, field_at}
use Rattle.paper.specs.Layout.{Part, before, row}
use Rattle.paper.specs.Decode.{fields}
use Rattle.paper.specs.Update.{as_struct, beyond, receiver}
use Rattle.laws.proofs.Basics.{none≢some, some_is}
use Rattle.laws.proofs.RoundTrip.{both}
use Rattle.tree.specs.Read.{part, reads, Standing}
use Rattle.tree.proofs.Steps.{part_is, reads_is, part_in, was_read, no_past, reads_inner, reads_rest}
use Rattle.tree.proofs.Depth.{row_is_low, row_reads_low}
use Rattle.std.specs.Prelude as code
use Rattle.update_parents.specs.Answers.{Target}
use Rattle.update_parents.specs.Target.{struct_at, value_slot, step_from, receiving, targeted, members_at, receiver_at}

-- ---- a list has one member, a map two

list_kids : (kind kids : ℕ) → kind_from kind ≡ Listing → kids_fit kind kids ≡ true → kids ≡ 1
unfolding kind_from
list_kids zero kids e f = cc
list_kids (suc zero) kids e f = cc
list_kids (suc (suc zero)) kids e f = one (eqb kids 1) refl f
  where
    one : (b : Bool) → eqb kids 1 ≡ b → (b || false) ≡ true → kids ≡ 1
    one true q g = eqb-true kids 1 q
    one false q g = cc
list_kids (suc (suc (suc zero))) kids e f = cc
list_kids (suc (suc (suc (suc b)))) kids e f =
    let x = suc (suc (suc (suc b))) in
    let g : false ≡ true = rw (ne_eqb x 0 (λ z. omega arith), ne_eqb x 1 (λ z. omega arith), ne_eqb x 2 (λ z. omega arith), ne_eqb x 3 (λ z. omega arith)) at f in
    cc

map_kids : (kind kids : ℕ) → kind_from kind ≡ Mapping → kids_fit kind kids ≡ true → kids ≡ 2
unfolding kind_from
map_kids zero kids e f = cc
map_kids (suc zero) kids e f = cc
map_kids (suc (suc zero)) kids e f = cc
map_kids (suc (suc (suc zero))) kids e f = eqb-true kids 2 f
map_kids (suc (suc (suc (suc b)))) kids e f =
    let x = suc (suc (suc (suc b))) in
    let g : false ≡ true = rw (ne_eqb x 0 (λ z. omega arith), ne_eqb x 1 (λ z. omega arith), ne_eqb x 2 (λ z. omega arith), ne_eqb x 3 (λ z. omega arith)) at f in
    cc

fitting_kids : (s : List ℕ) (k : ℕ) → ok_bytes s k ≡ true → kids_fit (rec_at s k).kind (rec_at s k).kids ≡ true
unfolding ok_bytes
fitting_kids s k e =
    let r = rec_at s k in
    let e₁ = both (((kids_fit r.kind r.kids && ltb r.flags 4) && eqb r.byte11 0) && eqb r.word14 0) (eqb r.kind 0 || eqb r.code 0) e in
    let e₂ = both ((kids_fit r.kind r.kids && ltb r.flags 4) && eqb r.byte11 0) (eqb r.word14 0) e₁.0 in
    let e₃ = both (kids_fit r.kind r.kids && ltb r.flags 4) (eqb r.byte11 0) e₂.0 in
    (both (kids_fit r.kind r.kids) (ltb r.flags 4) e₃.0).0

module _ (s : List ℕ) (n k : ℕ) (h : Standing 0 s n 15 k) where
  pub list_one : ok_bytes s k ≡ true → kind_at s k ≡ Listing → kids_at s k ≡ 1
  list_one b e = list_kids (rec_at s k).kind (rec_at s k).kids e (fitting_kids s k b)

  pub map_two : ok_bytes s k ≡ true → kind_at s k ≡ Mapping → kids_at s k ≡ 2
  map_two b e = map_kids (rec_at s k).kind (rec_at s k).kids e (fitting_kids s k b)

-- ---- one step

-- what was read with some levels left is what is read with more
deeper : (s : List ℕ) (n lv c k lw : ℕ) → lv ≤ lw → reads 0 (kids_at s) n lv c k ≡ true → row 0 (kids_at s) n lw c k ≡ ok (part 0 (kids_at s) n lv c k)
deeper s n lv c k lw l h =
    let e = was_read 0 (kids_at s) n lv c k h in
    let d = row_is_low 0 (kids_at s) n lv c k (part 0 (kids_at s) n lv c k) e in
    row_reads_low 0 (kids_at s) n lv c k lw (part 0 (kids_at s) n lv c k) e (omega arith)

-- A record at slot j with its inside, first of c trees that were read.
pub record First (s : List ℕ) (n c j : ℕ) : Type 0 where
  pub there : j < n
  pub inner : reads 0 (kids_at s) n 14 (kids_at s j) (j + 1) ≡ true
  pub trees : part 0 (kids_at s) n 15 c j ≡ before j (part 0 (kids_at s) n 14 (kids_at s j) (j + 1)) (part 0 (kids_at s) n 15 (c - 1) (part 0 (kids_at s) n 14 (kids_at s j) (j + 1)).next)
  pub rest : reads 0 (kids_at s) n 15 (c - 1) (part 0 (kids_at s) n 14 (kids_at s j) (j + 1)).next ≡ true

pub first_of : (s : List ℕ) (n c j : ℕ) → (c ≡ 0 → ⊥) → reads 0 (kids_at s) n 15 c j ≡ true → First s n c j
first_of s n c j z h =
    let past : n ≤ j → ⊥ = no_past 0 (kids_at s) n 15 c j h z in
    record {
      there = omega (arith, past);
      inner = reads_inner 0 (kids_at s) n 15 c j h (kids_at s j) z refl;
      trees = part_in 0 (kids_at s) n 15 c j h (kids_at s j) z refl;
      rest = reads_rest 0 (kids_at s) n 15 c j h (kids_at s j) z refl _ refl;
    }

module _ (s : List ℕ) (n k : ℕ) (h : Standing 0 s n 15 k) where
  first_member : (c : ℕ) → kids_at s k ≡ suc c → First s n (suc c) (k + 1)
  first_member c e = first_of s n (suc c) (k + 1) (λ z. omega arith) (rw e at h.read)

  value_first : kids_at s k ≡ 2 → First s n 1 (value_slot s n k)
  unfolding value_slot
  value_first e = first_of s n 1 _ (λ z. omega arith) (first_member 1 e).rest

  pub value_in : kids_at s k ≡ 2 → value_slot s n k < n
  value_in e = (value_first e).there

  pub value_ends : (r : ℕ) → kids_at s k ≡ 2 → r ≡ (part 0 (kids_at s) n 14 (kids_at s (k + 1)) (k + 1 + 1)).next → (r ≡ value_slot s n k) × (r < n)
  unfolding value_slot
  value_ends r e f = let v = value_in e in (f, rw f v)

  pub element_in : kids_at s k ≡ 1 → k + 1 < n
  element_in e = (first_member 0 e).there

  -- the key, for the walk over its inside
  pub key_stands : kids_at s k ≡ 2 → Standing 0 s n 14 (k + 1)
  key_stands e = let f = first_member 1 e in record { whole = h.whole; small = h.small; there = f.there; read = f.inner }

  standing_at : (c j : ℕ) → First s n c j → Standing 0 s n 15 j
  standing_at c j f = record { whole = h.whole; small = h.small; there = f.there; read = reads_is 0 (kids_at s) n 15 (kids_at s j) (j + 1) _ (deeper s n 14 (kids_at s j) (j + 1) 15 (omega arith) f.inner) }

  pub receiving_stands : (j : ℕ) → ok_bytes s k ≡ true → receiving s n k ≡ some j → Standing 0 s n 15 j
  unfolding receiving
  receiving_stands j b e = go (kind_at s k) refl e
    where
      at_struct : (i : ℕ) (q : Bool) → Standing 0 s n 15 i → cond q (some i) none ≡ some j → Standing 0 s n 15 j
      at_struct i true st f = subst (Standing 0 s n 15) (some_is f) st
      at_struct i false st f = absurd (none≢some f)

      go : (K : Kind) → kind_at s k ≡ K → step_from s n k K ≡ some j → Standing 0 s n 15 j
      go Primitive q f = absurd (none≢some f)
      go Structure q f = subst (Standing 0 s n 15) (some_is f) h
      go Listing q f = at_struct (k + 1) (is_struct (kind_at s (k + 1))) (standing_at 1 (k + 1) (first_member 0 (list_one s n k h b q))) f
      go Mapping q f = at_struct (value_slot s n k) (is_struct (kind_at s (value_slot s n k))) (standing_at 1 (value_slot s n k) (value_first (map_two s n k h b q))) f

-- ---- the paper's receiver

module _ (pool s : List ℕ) (n : ℕ) where
  struct_receiver : (c j : ℕ) → First s n c j → (rest : Forest Field) → as_struct (node (field_at pool s j) (fields pool s (part 0 (kids_at s) n 14 (kids_at s j) (j + 1)).trees) rest) ≡ receiver_at pool s n (struct_at s j)
  unfolding field_at members_at
  struct_receiver c j f rest =
      let e : part 0 (kids_at s) n 15 (kids_at s j) (j + 1) ≡ part 0 (kids_at s) n 14 (kids_at s j) (j + 1) = part_is 0 (kids_at s) n 15 (kids_at s j) (j + 1) _ (deeper s n 14 (kids_at s j) (j + 1) 15 (omega arith) f.inner) in
      go (is_struct (kind_at s j)) (ap (λ (p : Part). fields pool s p.trees) (sym e))
    where
      go : (b : Bool) → fields pool s (part 0 (kids_at s) n 14 (kids_at s j) (j + 1)).trees ≡ fields pool s (part 0 (kids_at s) n 15 (kids_at s j) (j + 1)).trees
          → cond b (some (record { id = turned (rec_at s j).id; members = fields pool s (part 0 (kids_at s) n 14 (kids_at s j) (j + 1)).trees })) none ≡ receiver_at pool s n (cond b (some j) none)
      go true q = rw q
      go false q = refl

  -- the members that were read, as fields
  first_fields : (c j : ℕ) → First s n c j → fields pool s (part 0 (kids_at s) n 15 c j).trees
      ≡ node (field_at pool s j) (fields pool s (part 0 (kids_at s) n 14 (kids_at s j) (j + 1)).trees) (fields pool s (part 0 (kids_at s) n 15 (c - 1) (part 0 (kids_at s) n 14 (kids_at s j) (j + 1)).next).trees)
  unfolding fields mapped
  first_fields c j f = ap (λ (p : Part). mapped (field_at pool s) p.trees) f.trees

  struct_first : (c j : ℕ) → First s n c j → as_struct (fields pool s (part 0 (kids_at s) n 15 c j).trees) ≡ receiver_at pool s n (struct_at s j)
  struct_first c j f = ap as_struct (first_fields c j f) ∙ struct_receiver c j f (fields pool s (part 0 (kids_at s) n 15 (c - 1) (part 0 (kids_at s) n 14 (kids_at s j) (j + 1)).next).trees)

  struct_second : (k : ℕ) → First s n 2 (k + 1) → First s n 1 (value_slot s n k) → as_struct (beyond (fields pool s (part 0 (kids_at s) n 15 2 (k + 1)).trees)) ≡ receiver_at pool s n (struct_at s (value_slot s n k))
  unfolding value_slot
  struct_second k f g = ap (λ (z : Forest Field). as_struct (beyond z)) (first_fields 2 (k + 1) f) ∙ struct_first 1 (value_slot s n k) g

  pub receiver_is : (k : ℕ) → Standing 0 s n 15 k → ok_bytes s k ≡ true → receiver (field_at pool s k) (fields pool s (part 0 (kids_at s) n 15 (kids_at s k) (k + 1)).trees) (kind_at s k) ≡ receiver_at pool s n (receiving s n k)
  unfolding receiving field_at members_at
  receiver_is k h b = go (kind_at s k) refl
    where
      go : (K : Kind) → kind_at s k ≡ K → receiver (field_at pool s k) (fields pool s (part 0 (kids_at s) n 15 (kids_at s k) (k + 1)).trees) K ≡ receiver_at pool s n (step_from s n k K)
      go Primitive q = refl
      go Structure q = refl
      go Listing q = let e = list_one s n k h b q in rw e (struct_first 1 (k + 1) (first_member s n k h 0 e))
      go Mapping q = let e = map_two s n k h b q in rw e (struct_second k (first_member s n k h 1 e) (value_first s n k h e))

-- ---- the code's answer

module _ (s : List ℕ) (n k : ℕ) (K : Kind) (e : K ≡ kind_at s k) where
  pub to_nothing : K ≡ Primitive → code.None ≡ targeted (receiving s n k)
  unfolding receiving targeted
  to_nothing q = let z : kind_at s k ≡ Primitive = sym e ∙ q in rw z

  pub to_itself : K ≡ Structure → code.Some (record { 0 = k }) ≡ targeted (receiving s n k)
  unfolding receiving targeted
  to_itself q = let z : kind_at s k ≡ Structure = sym e ∙ q in rw z

  pub to_element : (r : Target) → K ≡ Listing → r ≡ targeted (struct_at s (k + 1)) → r ≡ targeted (receiving s n k)
  unfolding receiving
  to_element r q a = let z : kind_at s k ≡ Listing = sym e ∙ q in rw z a

  pub to_value : (r : Target) (v : ℕ) → K ≡ Mapping → v ≡ value_slot s n k → r ≡ targeted (struct_at s v) → r ≡ targeted (receiving s n k)
  unfolding receiving
  to_value r v q f a = let z : kind_at s k ≡ Mapping = sym e ∙ q in rw (z, ← f) a

  pub list_kid : Standing 0 s n 15 k → ok_bytes s k ≡ true → K ≡ Listing → kids_at s k ≡ 1
  list_kid h b q = list_one s n k h b (sym e ∙ q)

  pub map_kid : Standing 0 s n 15 k → ok_bytes s k ≡ true → K ≡ Mapping → kids_at s k ≡ 2
  map_kid h b q = map_two s n k h b (sym e ∙ q)

pub some_struct : (s : List ℕ) (j : ℕ) (K : Kind) (b : Bool) (r : Target) → K ≡ kind_at s j → b ≡ is_struct K → r ≡ cond b (code.Some (record { 0 = j })) code.None → r ≡ targeted (struct_at s j)
unfolding targeted
some_struct s j K b r ek e q = q ∙ rw (e, ek) (go (is_struct (kind_at s j)))
  where
    go : (b : Bool) → cond b (code.Some (record { 0 = j })) code.None ≡ targeted (cond b (some j) none)
    go true = refl
    go false = refl

pub ruleset resolving = (to_nothing, to_itself, to_element, to_value, map_kid)
