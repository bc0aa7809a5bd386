-- Planned records one after another, and their names: what is left to write gives the whole. `search rowing`, `search naming`.
use Prim.Native.Nat.{ℕ, ◌+◌, ◌*◌, ◌-◌, ◌<◌, ◌≤◌}
use mathlib.Core.Path.{◌≡◌, refl, sym, ap, ◌∙◌}
use mathlib.Core.List.{List, ◌++◌}
use native.Mathlib.Omega.{arith}
use lib.ListN.{length, get_or, take, drop, length-append}
use lib.Seq.{sets, length-sets}
use Rattle.paper.specs.Forest.{size, preorder, counts}
use Rattle.paper.specs.Field.{Field}
use Rattle.paper.specs.Bytes.{rec_at, from}
use Rattle.paper.specs.Encode.{rec_bytes, encode_records, encode_names, record_bytes, pool_bytes}
use Rattle.laws.proofs.Written.{length_records, row_length}
use Rattle.laws.proofs.Runs.{sets_append, sets_front, from_step, from_done, from_all}
use Rattle.record.specs.Trees.{Trees}
use Rattle.plan.specs.Plan.{source_field, source_in, kids_in, Sits}
use Rattle.plan.specs.Sources.{source_len}
use Rattle.plan.specs.Table.{sources, numbers, members, PlanIn, fields_in}
use Rattle.plan.proofs.Sourcing.{len_source}
use Rattle.plan.proofs.Standing.{name_planned, fields_order, fields_counts, fields_size, fields_names}
use Rattle.plan_write.specs.Written.{planned_row, Over, Written}
use Rattle.plan_write.specs.Run.{Starts, field_of, names_left, Ran}
use Rattle.plan_write.proofs.Rows.{row_source}
use Rattle.plan_write.proofs.Running.{left_step}
use Rattle.plan.specs.declared.PlanRows.{PlanRows}

pub row_put : (l l' row r : List ℕ) (i : ℕ) → r ≡ row → l' ≡ sets l i r → l' ≡ sets l i row
row_put l l' row r i e q = q ∙ rw e

module _ (l : Trees) (plan : PlanRows) (m : ℕ) (p : PlanIn l plan m) (i : ℕ) (b : i < m) where
  pub place_small : i < 1024
  place_small = let f = p.few in omega arith

  pub source_sits : Sits l (get_or (sources plan) i 0)
  source_sits = p.sits i b

-- All names together are within the limit.
names_small : (l : Trees) (plan : PlanRows) (m : ℕ) → PlanIn l plan m → length (names_left l plan m 0) ≤ 32768
names_small l plan m p = let e = fields_names plan m p.shaped l in let b = p.sum in let a = ap (λ (z : List Field). length (encode_names z)) (from_all (field_of l plan) m) in omega arith

-- ---- records

abbrev kids : PlanRows → ℕ → ℕ
kids plan = kids_in (members plan)

abbrev rows_left : Trees → (plan : PlanRows) (m i at : ℕ) → List ℕ
rows_left l plan m i at = encode_records at (from (field_of l plan) i (m - i)) (from (kids plan) i (m - i))

row_step : (l : Trees) (plan : PlanRows) (m i at : ℕ) → i < m
    → rows_left l plan m i at ≡ rec_bytes at (field_of l plan i) (kids plan i) ++ rows_left l plan m (i + 1) (at + length (source_field l (get_or (sources plan) i 0)).name)
unfolding encode_records
row_step l plan m i at b = rw (from_step (field_of l plan) i m b, from_step (kids plan) i m b, name_planned l (source_in (sources plan) (numbers plan) i))

pub record Rowing (l : Trees) (plan : PlanRows) (m : ℕ) (out₀ : List ℕ) (i at : ℕ) (out : List ℕ) : Type 0 where
  pub within : i ≤ m
  pub small : at ≤ 32768
  pub rows : sets out₀ 0 (rows_left l plan m 0 0) ≡ sets out (i * 24) (rows_left l plan m i at)
  pub used : length (names_left l plan m 0) ≡ at + length (names_left l plan m i)
  pub long : length out ≡ length out₀

module _ (l : Trees) (plan : PlanRows) (m : ℕ) (p : PlanIn l plan m) (out₀ : List ℕ) where
  pub rows_start : Rowing l plan m out₀ 0 0 out₀
  rows_start = let d : 0 * 24 ≡ 0 = omega arith in record { within = omega arith; small = omega arith; rows = rw d; used = omega arith; long = refl }

  module _ (i at : ℕ) (out : List ℕ) (h : Rowing l plan m out₀ i at out) where
    pub rows_room : 24576 ≤ length out₀ → 24576 ≤ length out
    rows_room r = let e = h.long in omega arith

    pub rows_go : i < m → (n : ℕ) (out' : List ℕ) → out' ≡ sets out (i * 24) (planned_row l plan i at) → n ≡ source_len l.records l.added_records l.edits (get_or (sources plan) i 0)
        → Rowing l plan m out₀ (i + 1) (at + n) out'
    rows_go b n out' eo en =
        let x = get_or (sources plan) i 0 in
        let s = p.sits i b in
        let row = row_source l x (get_or (numbers plan) i 0) (get_or (members plan) i 0) at s in
        let len : n ≡ length (source_field l x).name = en ∙ len_source l x s in
        let first = rec_bytes at (field_of l plan i) (kids plan i) in
        let j : (i + 1) * 24 ≡ i * 24 + length first = let e = row_length at (field_of l plan i) (kids plan i) in omega arith in
        let u : length (names_left l plan m i) ≡ length (source_field l x).name + length (names_left l plan m (i + 1)) = ap length (left_step l plan m i b) ∙ length-append (source_field l x).name (names_left l plan m (i + 1)) in
        let v = h.used in
        let z = names_small l plan m p in
        record {
          within = omega arith;
          small = omega arith;
          rows = h.rows ∙ rw (row_step l plan m i at b, eo, row, len, j) (sym (sets_append first (rows_left l plan m (i + 1) (at + length (source_field l x).name)) out (i * 24)));
          used = omega arith;
          long = rw eo (length-sets out (i * 24) (planned_row l plan i at)) ∙ h.long;
        }

    pub rows_end : m ≤ i → 24576 ≤ length out₀ → Over (record_bytes (fields_in l plan m)) out₀ out
    unfolding record_bytes encode_records
    rows_end b r =
        let t = fields_in l plan m in
        let f = field_of l plan in
        let c = kids plan in
        let ef = fields_order plan m p.shaped l in
        let ec = fields_counts plan m p.shaped l in
        let ro : sets out₀ 0 (encode_records 0 (from f 0 m) (from c 0 m)) ≡ out = rw (from_all f m, from_all c m, from_done f i m b) at h.rows in
        let rl : length (encode_records 0 (preorder t) (counts t)) ≡ size t * 24 = length_records 0 t in
        let ss = fields_size plan m p.shaped l in
        let fw = p.few in
        sym ro ∙ rw (ef, ec) (sets_front (encode_records 0 (from f 0 m) (from c 0 m)) out₀ (let z = rw (ef, ec) at rl in omega arith))

pub ruleset rowing = (place_small, source_sits, rows_start, rows_room, rows_go, rows_end)

-- ---- names

pub record Naming (l : Trees) (plan : PlanRows) (m : ℕ) (out₀ : List ℕ) (i at : ℕ) (out : List ℕ) : Type 0 where
  pub within : i ≤ m
  pub small : at ≤ 32768
  pub pool : sets out₀ 0 (names_left l plan m 0) ≡ sets out at (names_left l plan m i)
  pub used : length (names_left l plan m 0) ≡ at + length (names_left l plan m i)
  pub long : length out ≡ length out₀

module _ (l : Trees) (plan : PlanRows) (m : ℕ) (p : PlanIn l plan m) (out₀ : List ℕ) where
  pub names_start : Naming l plan m out₀ 0 0 out₀
  names_start = record { within = omega arith; small = omega arith; pool = refl; used = omega arith; long = refl }

  module _ (i at : ℕ) (out : List ℕ) (h : Naming l plan m out₀ i at out) where
    -- The names up to place j.
    module _ (j : ℕ) (part : List ℕ) (e : names_left l plan m i ≡ part ++ names_left l plan m j) where
      part_room : at + length part ≤ 32768
      part_room = let a = ap length e ∙ length-append part (names_left l plan m j) in let u = h.used in let n = names_small l plan m p in omega arith

      part_put : (out' : List ℕ) → j ≤ m → out' ≡ sets out at part → Naming l plan m out₀ j (at + length part) out'
      part_put out' b eo =
          let a = ap length e ∙ length-append part (names_left l plan m j) in
          let u = h.used in
          record { within = b; small = part_room; pool = h.pool ∙ rw (e, eo) (sym (sets_append part (names_left l plan m j) out at)); used = omega arith; long = rw eo (length-sets out at part) ∙ h.long }

    module _ (b : i < m) (x : ℕ) (ex : x ≡ get_or (sources plan) i 0) (name : List ℕ) (en : name ≡ (source_field l x).name) where
      one : names_left l plan m i ≡ name ++ names_left l plan m (i + 1)
      one = rw (en, ex) (left_step l plan m i b)

      pub name_room : 32768 ≤ length out₀ → at + length name ≤ length out
      name_room r = let a = part_room (i + 1) name one in let g = h.long in omega arith

      pub name_goes : (out' : List ℕ) → out' ≡ sets out at name → Naming l plan m out₀ (i + 1) (at + length name) out'
      name_goes out' eo = part_put (i + 1) name one out' (omega arith) eo

    module _ (start end next : ℕ) (r : Ran l plan m i start end next) (part : List ℕ) (ep : part ≡ take (end - start) (drop start l.pool)) where
      together : names_left l plan m i ≡ part ++ names_left l plan m next
      together = rw ep r.bytes

      pub run_room : 32768 ≤ length out₀ → at + length part ≤ length out
      run_room o = let a = part_room next part together in let g = h.long in omega arith

      pub run_put : (out' : List ℕ) → out' ≡ sets out at part → Naming l plan m out₀ next (at + length part) out'
      run_put out' eo = part_put next part together out' r.within eo

    pub names_end : m ≤ i → 32768 ≤ length out₀ → Over (pool_bytes (fields_in l plan m)) out₀ out × (at ≡ length (pool_bytes (fields_in l plan m)))
    unfolding pool_bytes encode_names
    names_end b r =
        let f = field_of l plan in
        let ef = fields_order plan m p.shaped l in
        let po : sets out₀ 0 (encode_names (from f 0 m)) ≡ out = rw (from_all f m, from_done f i m b) at h.pool in
        let us : length (encode_names (from f 0 m)) ≡ at + 0 = rw (from_all f m, from_done f i m b) at h.used in
        let nn = names_small l plan m p in
        let na = ap (λ (z : List Field). length (encode_names z)) (from_all f m) in
        (sym po ∙ rw ef (sets_front (encode_names (from f 0 m)) out₀ (omega arith)), rw ef (omega arith))

module _ (l : Trees) (plan : PlanRows) (m i : ℕ) (p : PlanIn l plan m) (b : i < m) (x : ℕ) (ex : x ≡ get_or (sources plan) i 0) where
  pub sits_there : Sits l x
  sits_there = rw ex (p.sits i b)

  pub first_in : (records : List ℕ) → records ≡ l.records → x < 1024 → x * 24 + 24 ≤ length records
  first_in records e c = rw e (sits_there.base_in c)

  pub run_begins : x < 1024 → (start : ℕ) → start < 4294967296 → start ≡ (rec_at l.records x).name_at → Starts l plan m i start
  run_begins c start a e = record { reads = p; within = b; base = rw (← ex) c; small = a; there = e ∙ rw ex }

pub ruleset naming = (place_small, sits_there, names_start, name_room, name_goes, run_room, run_put, names_end, first_in, run_begins)

pub both : (l : Trees) (plan : PlanRows) (m used : ℕ) (out names out' names' : List ℕ) → Over (record_bytes (fields_in l plan m)) out out' → Over (pool_bytes (fields_in l plan m)) names names'
    → used ≡ length (pool_bytes (fields_in l plan m)) → Written (fields_in l plan m) out names used out' names'
both l plan m used out names out' names' r q u = record { rows = r; pool = q; bytes = u }
