-- What pruning and renumbering make of the tree that was lent.
use Rattle.std.specs.Prelude.{ℕ, ◌+◌, ◌<◌, ◌≤◌, ◌≡◌}
use mathlib.Core.List.{List, [], ◌∷◌, ◌++◌, Sublistᴰ}
use Rattle.std.proofs.Math.Option.{Option, none, some}
use Rattle.paper.specs.Answer.{ok}
use Rattle.paper.specs.Forest.{Forest, empty, node, size, mapped}
use Rattle.paper.specs.Field.{Field, with_id}
use Rattle.paper.specs.Sound.{ids}
use Rattle.paper.specs.Bytes.{turned}
use Rattle.paper.specs.Entries.{Result, read}
use Rattle.laws.specs.Members.{◌∈◌}
use Rattle.theorems.specs.Numbers.{tally}
use Rattle.theorems.specs.Columns.{Column}

-- ---- pruning

-- A part of a tree: records are left out, each with its inside,
-- and the others stay in order under their parents.
pub data Part : Forest Field → Forest Field → Type 0 where
  done : Part empty empty
  skip : {f : Field} {m n t : Forest Field} → Part t n → Part t (node f m n)
  keep : {f : Field} {m' m n' n : Forest Field} → Part m' m → Part n' n → Part (node f m' n') (node f m n)

-- The columns in slot order, each with its parent's id; first the id above the roots.
abbrev pub columns : (parent : Option ℕ) → Forest Field → List Column
columns parent empty = []
columns parent (node f m n) = record { parent = parent; field = f } ∷ (columns (some f.id) m ++ columns parent n)

-- Of what an accepted pruning answers.
pub record Pruned (records pool : List ℕ) (result : Result) : Type 0 where
  pub base : Forest Field
  pub reads : read records pool ≡ ok base
  pub part : Part result.tree base
  -- No column that was not there, with the same parent, and the order is kept.
  pub in_order : Sublistᴰ (columns none result.tree) (columns none base)

-- ---- renumbering

-- Of a tree, renumbered from `start` on.
pub record Numbered (start : ℕ) (old new : Forest Field) : Type 0 where
  -- Of n records: each of start .. start + n - 1 is an id once, and no other number is.
  pub each_once : (id : ℕ) → start ≤ id → id < start + size old → tally id (ids new) ≡ 1
  pub no_other : (id : ℕ) → id ∈ ids new → (start ≤ id) × (id < start + size old)
  -- But for the ids the trees are one.
  pub kept : mapped (with_id 0) new ≡ mapped (with_id 0) old

-- Of what an accepted renumbering answers, from the 32 bits of a start.
pub record Renumbered (records pool : List ℕ) (start : ℕ) (result : Result) : Type 0 where
  pub base : Forest Field
  pub reads : read records pool ≡ ok base
  pub numbered : Numbered (turned start) base result.tree
