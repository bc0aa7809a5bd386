-- An accepted entry, taken apart: the trees that it read, and what the forests' operation gave.
use Prim.Native.Nat.{ℕ}
use mathlib.Core.Path.{◌≡◌, refl, sym}
use mathlib.Core.Bool.{Bool, true, ◌&&◌}
use mathlib.Core.List.{List, []}
use Rattle.paper.specs.Answer.{ok}
use Rattle.paper.specs.Forest.{Forest}
use Rattle.paper.specs.Field.{Field}
use Rattle.paper.specs.Sound.{sound}
use Rattle.paper.specs.Prune.{prune}
use Rattle.paper.specs.Renumber.{renumber}
use Rattle.paper.specs.Update.{Schema, planned}
use Rattle.paper.specs.Rebuild.{update}
use Rattle.paper.specs.Visited.{visited}
use Rattle.paper.specs.Bytes.{turned}
use Rattle.paper.specs.Promotions.{known_version}
use Rattle.paper.specs.Lists.{id_list}
use Rattle.paper.specs.Decode.{decode}
use Rattle.paper.specs.Limits.{whole, sized, sized_ids, sized_update}
use Rattle.paper.specs.Lent.{Stored, Lent}
use Rattle.paper.specs.Entries.{Result, schema_in, request_in, read, update_entry, prune_entry, renumber_entry}
use Rattle.laws.specs.Fit.{Bytes, Fit}
use Rattle.laws.proofs.Basics.{unbind, rebind, ok_is, passed}
use Rattle.laws.proofs.Identified.{sound_without}
use Rattle.laws.proofs.RoundTrip.{both}
use Rattle.laws.proofs.Fitting.{ids_sized, decode_fit}

-- ---- 2

ids_few : (most : ℕ) (s p i : List ℕ) → sized_ids most s p i ≡ true → whole 4 most i ≡ true
unfolding sized_ids
ids_few most s p i e = (both (sized s p) (whole 4 most i) e).1

sized_trees : (s : Stored) (q : Lent) → sized_update s q ≡ true
    → (sized s.records s.pool ≡ true) × (sized q.added_records q.request_pool ≡ true)
    × (whole 4 64 q.identifiers ≡ true) × (whole 8 64 q.deletions ≡ true)
unfolding sized_update
sized_trees s q e =
    let paths = whole 8 64 q.deletions && whole 8 64 q.additions in
    let entries = paths && whole 16 64 q.edits in
    let o = both (sized_ids 64 s.records s.pool q.identifiers) (entries && sized _ _) e in
    let l = both entries (sized _ _) o.1 in (
      ids_sized 64 _ _ q.identifiers o.0,
      l.1,
      ids_few 64 s.records s.pool q.identifiers o.0,
      (both (whole 8 64 q.deletions) (whole 8 64 q.additions) (both paths (whole 16 64 q.edits) l.0).0).0,
    )

-- ---- a tree that was read

pub record Base (s p : List ℕ) (t : Forest Field) : Type 0 where
  pub sizes : sized s p ≡ true
  pub decodes : decode 0 s p ≡ ok t
  pub sound_tree : sound 0 t [] ≡ ok tt

pub base_reads : (s p : List ℕ) (t : Forest Field) → Base s p t → read s p ≡ ok t
unfolding read
base_reads s p t b = rebind _ _ (rw b.sizes) (rebind _ _ b.decodes (rebind _ _ b.sound_tree refl))

pub read_base : (s p : List ℕ) (t : Forest Field) → read s p ≡ ok t → Base s p t
unfolding read
read_base s p t e =
    unbind _ _ e λ _ e₁ a₁. unbind _ _ a₁ λ t' e₂ a₂. unbind _ _ a₂ λ _ e₃ a₃.
    rw (← (ok_is a₃)) (record { sizes = passed 2 0 0 (sized s p) e₁; decodes = e₂; sound_tree = e₃ })

pub base_fit : (s p : List ℕ) (t : Forest Field) → Bytes s → Base s p t → Fit t
base_fit s p t b o = decode_fit 0 s p t b o.sizes o.decodes

-- ---- the entries

pub record OpenedPrune (s p sel : List ℕ) (full : Bool) (r : Result) : Type 0 where
  pub tree : Forest Field
  pub base : Base s p tree
  pub prunes : prune tree (id_list sel) full ≡ ok r.tree

pub open_prune : (s p sel : List ℕ) (full : Bool) (lr ln : ℕ) (r : Result)
    → prune_entry s p sel full lr ln ≡ ok r
    → OpenedPrune s p sel full r
unfolding prune_entry prune
open_prune s p sel full lr ln r e =
    unbind _ _ e λ _ _ a₁. unbind _ _ a₁ λ _ e₂ a₂. unbind _ _ a₂ λ t e₃ a₃. unbind _ _ a₃ λ u e₄ a₄.
    unbind _ _ e₄ λ _ e₅ _.
    let z = ids_sized 1024 s p sel (passed 2 0 0 (sized_ids 1024 s p sel) e₂) in
    record {
      tree = t;
      base = record { sizes = z; decodes = e₃; sound_tree = e₅ };
      prunes = rw (← (ok_is a₄)) e₄;
    }

pub record OpenedRenumber (s p i : List ℕ) (start : ℕ) (r : Result) : Type 0 where
  pub tree : Forest Field
  pub base : Base s p tree
  pub few : whole 4 64 i ≡ true
  pub renumbers : renumber tree (id_list i) (turned start)
      ≡ ok (record { tree = r.tree; identifiers = r.identifiers })

pub open_renumber : (s p i : List ℕ) (start lr ln li : ℕ) (r : Result)
    → renumber_entry s p i start lr ln li ≡ ok r
    → OpenedRenumber s p i start r
unfolding renumber_entry renumber
open_renumber s p i start lr ln li r e =
    unbind _ _ e λ _ _ a₁. unbind _ _ a₁ λ _ e₂ a₂. unbind _ _ a₂ λ t e₃ a₃. unbind _ _ a₃ λ u e₄ a₄.
    unbind _ _ e₄ λ _ e₅ _.
    let sizes = passed 2 0 0 (sized_ids 64 s p i) e₂ in
    let z = ids_sized 64 s p i sizes in
    record {
      tree = t;
      base = record { sizes = z; decodes = e₃; sound_tree = sound_without 0 t (id_list i) e₅ };
      few = ids_few 64 s p i sizes;
      renumbers = rw (← (ok_is a₄)) e₄;
    }

pub record OpenedUpdate (s : Stored) (q : Lent) (r : Result) : Type 0 where
  pub version : known_version q.version ≡ true
  pub tree : Forest Field
  pub base : Base s.records s.pool tree
  pub few : whole 4 64 q.identifiers ≡ true
  pub few_deletions : whole 8 64 q.deletions ≡ true
  pub new : Forest Field
  pub new_sizes : sized q.added_records q.request_pool ≡ true
  pub new_decodes : decode 1 q.added_records q.request_pool ≡ ok new
  pub answer : Schema
  pub updates : update (schema_in s tree) (request_in q new) ≡ ok answer
  pub result : r
      ≡ record {
        tree = answer.tree;
        identifiers = [];
        last = turned answer.last;
        visited = visited (schema_in s tree) (request_in q new);
      }

pub open_update : (s : Stored) (q : Lent) (r : Result) → update_entry s q ≡ ok r → OpenedUpdate s q r
unfolding update_entry update planned
open_update s q r e =
    unbind _ _ e λ _ _ a₁. unbind _ _ a₁ λ _ e₂ a₂. unbind _ _ a₂ λ _ e₀ a₀. unbind _ _ a₀ λ t e₃ a₃. unbind _ _ a₃ λ n e₄ a₄.
    unbind _ _ a₄ λ _ _ a₅.
    unbind _ _ a₅ λ _ _ a₆. unbind _ _ a₆ λ _ _ a₆'. unbind _ _ a₆' λ u e₇ a₇. unbind _ _ e₇ λ _ e₈ _.
    unbind _ _ e₈ λ _ e₉ _.
    let z = sized_trees s q (passed 2 0 0 (sized_update s q) e₂) in
    record {
      version = passed 25 0 0 (known_version q.version) e₀;
      tree = t;
      base = record { sizes = z.0; decodes = e₃; sound_tree = sound_without 0 t (id_list q.identifiers) e₉ };
      few = z.2;
      few_deletions = z.3;
      new = n;
      new_sizes = z.1;
      new_decodes = e₄;
      answer = u;
      updates = e₇;
      result = sym (ok_is a₇);
    }
