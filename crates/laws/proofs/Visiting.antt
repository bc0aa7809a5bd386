-- 02, 7/13: an update visits the records of its answer and the outermost dropped members. What the rebuild reaches and
-- what goes is the base, with the outermost dropped members twice; and every added record arrives.
use Prim.Native.Nat.{ℕ, suc, ◌+◌, ◌≤◌}
use mathlib.Core.Path.{◌≡◌, refl}
use mathlib.Core.Bool.{Bool, true, false, cond}
use mathlib.Core.List.{List, [], ◌∷◌, ◌++◌}
use mathlib.Core.Option.{Option, none, some}
use native.Mathlib.Omega.{arith}
use lib.ListN.{length, length-append}
use Rattle.paper.specs.declared.Kind.{Kind}
use Rattle.paper.specs.Answer.{ok}
use Rattle.paper.specs.Forest.{Forest, empty, node, size, preorder}
use Rattle.paper.specs.Field.{Field, id_of, kind_of, is_struct}
use Rattle.paper.specs.Gone.{dropped_member, gone, outermost, gone_columns}
use Rattle.paper.specs.Edits.{edited_tree}
use Rattle.paper.specs.Update.{Request, Schema, Plan, planned}
use Rattle.paper.specs.Rebuild.{Addition, rebuilt, added}
use Rattle.paper.specs.Visited.{reached, stays, arrived, visited}
use Rattle.laws.proofs.Preorder.{length_preorder}
use Rattle.laws.proofs.Among.{among_none}
use Rattle.laws.proofs.Receiving.{Stays, AllStay, all_stay}
use Rattle.laws.proofs.Weighing.{loads, ones_size, size_rebuilt}

-- ---- what the rebuild reaches

module _ {A : Type 0} (id : A → ℕ) (kind : A → Kind) where
  pub reached_gone : (ds : List ℕ) (b : Bool) (t : Forest A)
      → length (reached id kind ds b t) + length (gone id kind ds b t) ≡ size t + length (outermost id kind ds b t)
  unfolding reached gone outermost size
  reached_gone ds b empty = refl
  reached_gone ds b (node a m n) =
      go (dropped_member b ds (id a)) (reached id kind ds (is_struct (kind a)) m) (reached id kind ds b n)
      (gone id kind ds (is_struct (kind a)) m) (gone id kind ds b n)
      (outermost id kind ds (is_struct (kind a)) m) (outermost id kind ds b n)
      (reached_gone ds (is_struct (kind a)) m) (reached_gone ds b n)
    where
      go : (d : Bool) (rm rn gm gn om on : List A) → length rm + length gm ≡ size m + length om
          → length rn + length gn ≡ size n + length on
          → length (a ∷ cond d [] rm ++ rn) + length (cond d (a ∷ preorder m) gm ++ gn)
          ≡ suc (size m + size n) + length (cond d (a ∷ []) om ++ on)
      go true rm rn gm gn om on hm hn =
          let p = length-append (preorder m) gn in
          let k = length_preorder m in
          omega arith
      go false rm rn gm gn om on hm hn =
          let x = length-append rm rn in
          let y = length-append gm gn in
          let z = length-append om on in
          omega arith

  -- At most every record,
  pub reached_few : (ds : List ℕ) (b : Bool) (t : Forest A) → length (reached id kind ds b t) ≤ size t
  unfolding reached size
  reached_few ds b empty = omega arith
  reached_few ds b (node a m n) =
      go (dropped_member b ds (id a)) (reached id kind ds (is_struct (kind a)) m) (reached id kind ds b n)
      (reached_few ds (is_struct (kind a)) m) (reached_few ds b n)
    where
      go : (d : Bool) (rm rn : List A) → length rm ≤ size m → length rn ≤ size n
          → length (a ∷ cond d [] rm ++ rn) ≤ suc (size m + size n)
      go true rm rn hm hn = omega arith
      go false rm rn hm hn = let x = length-append rm rn in omega arith

  -- and where nothing is dropped every one.
  pub reached_all : (b : Bool) (t : Forest A) → reached id kind [] b t ≡ preorder t
  unfolding reached preorder
  reached_all b empty = refl
  reached_all true (node a m n) = rw (reached_all (is_struct (kind a)) m, reached_all true n)
  reached_all false (node a m n) = rw (reached_all (is_struct (kind a)) m, reached_all false n)

-- ---- what arrives

module _ (t : Forest Field) (ds : List ℕ) where
  stays_true : (p : Option ℕ) → Stays t ds p → stays (gone_columns ds t) p ≡ true
  stays_true none h = refl
  stays_true (some x) h = rw (among_none x (gone_columns ds t) h.1)

  -- Every added record, where each addition is received.
  pub arrived_all : (adds : List (Addition Field)) → AllStay t ds adds
      → arrived (gone_columns ds t) adds ≡ loads (λ _. 1) adds
  unfolding arrived
  arrived_all [] h = refl
  arrived_all (a ∷ rest) h =
      rw (stays_true a.parent h.0, arrived_all rest h.1, ones_size a.tree)

pub visited_is : (s : Schema) (q : Request) (p : Plan) → planned s q ≡ ok p
    → size (rebuilt id_of kind_of p.dropped (added s q p) none true (edited_tree p.edits s.tree))
    + length (outermost id_of kind_of p.dropped true s.tree) ≡ visited s q
unfolding visited
visited_is s q p e =
    let r = size_rebuilt s q p e in
    let g = reached_gone id_of kind_of p.dropped true s.tree in
    let a = arrived_all s.tree p.dropped (added s q p) (all_stay s q p e) in
    rw e (omega arith)
