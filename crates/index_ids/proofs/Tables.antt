-- Tables of eight rows: a store in one row leaves the others, and what a writer leaves adds up.
use mathlib.Core.Path.{◌≡◌, refl, ap, ◌∙◌}
use mathlib.Core.Logic.{◌⊎◌, inl, inr}
use mathlib.Core.List.{List, [], ◌∷◌}
use Prim.Native.Nat.{ℕ, zero, suc, ◌+◌, ◌<◌, ◌≤◌}
use native.Mathlib.Omega.{arith}
use lib.ListN.{length, get_or, set, replicate, length-set, length-replicate, get_or-replicate}
use lib.Seq.{get_or-set_same, get_or-set_other}
use Rattle.index_ids.specs.Chain.{Cleared}
use Rattle.index_ids.specs.Table.{row, Rooms, Fresh, Within, EnteredIn}
use Rattle.index_ids.proofs.Chains.{eqb_cases}

pub rooms_wide : (t : List (List ℕ)) (r : ℕ) → Rooms t → r < 8 → length (row t r) ≡ 1024
rooms_wide t r h l = h.wide r l

-- ---- which rows a writer leaves

pub within_same : (a b : ℕ) (t : List (List ℕ)) → Within a b t t
within_same a b t = record { below = λ r l. refl; beyond = λ r l. refl; rooms = λ h. h }

pub within_both : (a b : ℕ) (t u v : List (List ℕ)) → Within a b t u → Within a b u v → Within a b t v
within_both a b t u v p q =
    record { below = λ r l. q.below r l ∙ p.below r l; beyond = λ r l. q.beyond r l ∙ p.beyond r l; rooms = λ h. q.rooms (p.rooms h) }

pub within_wider : (a b c d : ℕ) (t u : List (List ℕ)) → Within a b t u → c ≤ a → b ≤ d → Within c d t u
within_wider a b c d t u p la lb =
    record { below = λ r l. p.below r (omega arith); beyond = λ r l. p.beyond r (omega arith); rooms = p.rooms }

-- ---- a row is stored

module _ (t : List (List ℕ)) (r : ℕ) (x : List ℕ) where
  pub row_stored : r < length t → row (set t r x) r ≡ x
  row_stored l = get_or-set_same t r x [] l

  pub row_left : (q : ℕ) → (q ≡ r → ⊥) → row (set t r x) q ≡ row t q
  row_left q e = get_or-set_other t r q x [] e

  rooms_stored : (r < 8 → length x ≡ 1024) → Rooms t → Rooms (set t r x)
  rooms_stored e h = record { rows = length-set t r x ∙ h.rows; wide = λ q l. go q l (eqb_cases q r) }
    where
      go : (q : ℕ) → q < 8 → (q ≡ r) ⊎ (q ≡ r → ⊥) → length (row (set t r x) q) ≡ 1024
      go q l (inl i) = rw i (ap length (row_stored (let n = h.rows in omega arith)) ∙ e (omega arith))
      go q l (inr i) = ap length (row_left q i) ∙ h.wide q l

  row_within : (Rooms t → r < 8 → length x ≡ 1024) → Within r (suc r) t (set t r x)
  row_within e =
      record { below = λ q l. row_left q (λ z. omega arith); beyond = λ q l. row_left q (λ z. omega arith); rooms = λ h. rooms_stored (e h) h }

  pub within_row : length x ≡ 1024 → Within r (suc r) t (set t r x)
  within_row e = row_within (λ h l. e)

-- One number of a row is stored. Where there is no such row, there is nothing to store in: so no length is asked for.
pub cell_stored : (t : List (List ℕ)) (r k v : ℕ) → row (set t r (set (row t r) k v)) r ≡ set (row t r) k v
cell_stored [] r k v = refl
cell_stored (x ∷ t) zero k v = refl
cell_stored (x ∷ t) (suc r) k v = cell_stored t r k v

pub within_cell : (t : List (List ℕ)) (r k v : ℕ) → Within r (suc r) t (set t r (set (row t r) k v))
within_cell t r k v = row_within t r (set (row t r) k v) (λ h l. length-set (row t r) k v ∙ h.wide r l)

-- ---- fresh tables

zeros_cleared : Cleared (replicate 1024 0)
zeros_cleared = record { room = length-replicate {A = ℕ} 1024 0; none = λ b l. get_or-replicate {A = ℕ} 1024 b 0 0 l }

-- A table of zeros.
pub fresh_index : Fresh (replicate 8 (replicate 1024 0))
fresh_index =
    let zeros : List ℕ = replicate 1024 0 in
    let each : (r : ℕ) → r < 8 → row (replicate 8 zeros) r ≡ zeros = λ r l. get_or-replicate 8 r zeros [] l in
    record {
      rooms = record { rows = length-replicate 8 zeros; wide = λ r l. ap length (each r l) ∙ zeros_cleared.room };
      ids = rw (each 0 (omega arith)) zeros_cleared;
      names = rw (each 6 (omega arith)) zeros_cleared;
    }

-- Both rows of heads are stored.
module _ (t : List (List ℕ)) (a : List ℕ) (n : Rooms t) (ca : Cleared a) where
  half : Rooms (set t 0 a)
  half = rooms_stored t 0 a (λ l. ca.room) n

  pub half_wide : (r : ℕ) → r < 8 → length (row (set t 0 a) r) ≡ 1024
  half_wide r l = half.wide r l

  pub refreshed : (b : List ℕ) → Cleared b → Fresh (set (set t 0 a) 6 b)
  refreshed b cb =
      let e : row (set (set t 0 a) 6 b) 0 ≡ a = row_left (set t 0 a) 6 b 0 (λ z. omega arith) ∙ row_stored t 0 a (let y = n.rows in omega arith) in
      let f : row (set (set t 0 a) 6 b) 6 ≡ b = row_stored (set t 0 a) 6 b (let y = half.rows in omega arith) in
      record { rooms = rooms_stored (set t 0 a) 6 b (λ l. cb.room) half; ids = rw e ca; names = rw f cb }

pub ruleset refreshing = (rooms_wide, half_wide, refreshed)

-- ---- a slot is entered in a chain: two stores, in two rows

module _ (t : List (List ℕ)) (h b k : ℕ) (n : Rooms t) (l : h < 7) where
  abbrev linked : List (List ℕ)
  linked = set t (h + 1) (set (row t (h + 1)) k (get_or (row t h) b 0))

  abbrev headed : List (List ℕ)
  headed = set linked h (set (row linked h) b (k + 1))

  pub slot_entered : EnteredIn h b k t headed
  slot_entered =
      let e : h + 1 ≡ suc h = omega arith in
      let f : row linked h ≡ row t h = row_left t (h + 1) _ h (λ z. omega arith) in
      record {
        entered = record {
          heads_set = row_stored linked h _ (let z = length-set t (h + 1) (set (row t (h + 1)) k (get_or (row t h) b 0)) in let y = n.rows in omega arith) ∙ ap (λ (z : List ℕ). set z b (k + 1)) f;
          next_set = row_left linked h _ (suc h) (λ z. omega arith) ∙ rw e (row_stored t (suc h) _ (let y = n.rows in omega arith));
        };
        within = within_both h (suc (suc h)) t linked headed
            (within_wider (h + 1) (suc (h + 1)) h (suc (suc h)) t linked (within_cell t (h + 1) k (get_or (row t h) b 0)) (omega arith) (omega arith))
            (within_wider h (suc h) h (suc (suc h)) linked headed (within_cell linked h b (k + 1)) (omega arith) (omega arith));
      }
