-- A plan before its name sum was tested.
use Rattle.std.specs.Prelude.{ℕ, ◌≤◌, ◌<◌, ◌≡◌, true, List, get_or}
use Rattle.paper.specs.Forest.{Forest, empty, node}
use Rattle.paper.specs.Layout.{roots}
use Rattle.tree.specs.Read.{fine}
use Rattle.record.specs.Trees.{Trees}
use Rattle.plan.specs.Plan.{Source, Sits, kids_in}

pub record Draft (l : Trees) (xs is ks : List ℕ) (m : ℕ) : Type 0 where
  pub few : m ≤ 1024
  pub sits : (i : ℕ) → i < m → Sits l (get_or xs i 0)
  pub shaped : fine (roots 4 (kids_in ks) m m 0) ≡ true

-- Each source of a planned tree is there, with its name.
abbrev pub Drawn : Trees → Forest Source → Type 0
Drawn l empty = Unit {0}
Drawn l (node a m n) = Sits l a.slot × Drawn l m × Drawn l n
