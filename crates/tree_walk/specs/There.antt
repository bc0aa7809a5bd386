-- Trees that stand in a list of records whose shape was tested (5).
use Rattle.std.specs.Prelude.{ℕ, ◌≤◌, ◌≡◌, true, List}
use Rattle.paper.specs.Bytes.{kids_at, slots}
use Rattle.paper.specs.Layout.{Part}
use Rattle.tree.specs.Read.{part, reads}

-- c trees from slot k on, with lv levels left for them.
abbrev pub row_of : List ℕ → (lv c k : ℕ) → Part
row_of records lv c k = part 0 (kids_at records) (slots records) lv c k

-- They stand there.
pub record There (records : List ℕ) (lv c k : ℕ) : Type 0 where
  pub few : slots records ≤ 1024
  pub within : k ≤ slots records
  pub read : reads 0 (kids_at records) (slots records) lv c k ≡ true
