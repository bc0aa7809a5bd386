-- The wrong programs of 01 are ruled out: the right answers to
-- P4, two additions, P8 and P9 compute, and are none of theirs.
use Prim.Native.Nat.{ℕ, ◌+◌}
use mathlib.Core.Path.{◌≡◌, refl, sym, ap, ◌∙◌}
use mathlib.Core.List.{List, []}
use native.Mathlib.Omega.{arith}
use lib.ListN.{length, get_or}
use Rattle.paper.specs.Answer.{Answer, ok, refused, ◌>>=◌, lowest}
use Rattle.paper.specs.Forest.{Forest, size, siblings, levels, preorder, counts, mapped, ◌then◌}
use Rattle.paper.specs.Field.{Field}
use Rattle.paper.specs.Rows.{rows, entered, look_name}
use Rattle.paper.specs.Sound.{fitting, misnamed, names, ids, sound, name_bytes, within}
use Rattle.paper.specs.Prune.{prune}
use Rattle.paper.specs.Gone.{gone}
use Rattle.paper.specs.Promotions.{known_version}
use Rattle.paper.specs.Edits.{edited_one, edited_all, edit_fields}
use Rattle.paper.specs.Update.{deleted, member_taken, placed, placed_all, planned}
use Rattle.paper.specs.Rebuild.{fresh, arrivals, arriving, rebuilt, carried_out, update}
use Rattle.paper.specs.Visited.{reached, arrived, visited}
use Rattle.paper.specs.Bytes.{word16, word32, turned, ok_bytes, in_pool, kind_from, name_of, field_at, from}
use Rattle.paper.specs.Lists.{ok_deletion, ok_addition, path_in, ok_edit, edit_in, entries_ok, path_of, parent_path}
use Rattle.paper.specs.Lists.{deletion_paths, addition_paths, edit_path, new_name, edit_of, edit_list, id_list}
use Rattle.paper.specs.Layout.{deep, row_with, row, roots}
use Rattle.paper.specs.Decode.{fields, decode}
use Rattle.paper.specs.Encode.{row24, encode_records, encode_names, pool_bytes}
use Rattle.paper.specs.Limits.{room, whole, sum_from, name_sum, tree_sized, pool_sized}
use Rattle.paper.specs.Limits.{sized, sized_ids, sized_update}
use Rattle.paper.specs.Entries.{Result, update_entry, prune_entry}
use Rattle.paper.specs.Outcome.{Changed, changed}
use Rattle.paper.specs.Sample.{T}
use Rattle.paper.specs.Asked.{AnUpdate, APruner}
use Rattle.theorems.specs.Wrong.{counted, P4, two_added, P4_first, two_added_first, RightUpdate}
use Rattle.theorems.specs.Wrong.{P8, P9, RightPruner}

-- The ids of an accepted answer; the third of a list.
abbrev ids_of : Answer Result → List ℕ
ids_of (ok r) = ids r.tree
ids_of (refused n l p) = []

abbrev third : List ℕ → ℕ
third l = get_or l 2 0

record Computed : Type 0 where
  P4_counts : changed (P4 update_entry) ≡ counted 10 48 11 11
  two_added_counts : changed (two_added update_entry) ≡ counted 9 42 12 10
  P4_third : third (ids_of (P4 update_entry)) ≡ 2_147_483_648 + 11
  T_third : third (ids T) ≡ 2_147_483_648 + 5
  P4_first_counts : changed (P4_first update_entry) ≡ counted 9 44 10 10
  two_added_first_counts : changed (two_added_first update_entry) ≡ counted 8 37 11 9
  P8_many : length (ids_of (P8 prune_entry)) ≡ 3
  P9_many : length (ids_of (P9 prune_entry)) ≡ 1

answers : Computed
unfolding update_entry prune_entry known_version changed ◌>>=◌ lowest size siblings levels preorder counts mapped ◌then◌
    rows entered look_name fitting misnamed names ids sound name_bytes within prune
    gone deleted member_taken placed placed_all edited_one edited_all planned edit_fields fresh arrivals arriving rebuilt carried_out update
    reached arrived visited word16 word32 turned ok_bytes in_pool kind_from name_of field_at from
    ok_deletion ok_addition path_in ok_edit edit_in entries_ok path_of parent_path deletion_paths addition_paths
    edit_path new_name edit_of edit_list id_list
    deep row_with row roots fields decode row24 encode_records encode_names pool_bytes
    room whole sum_from name_sum tree_sized pool_sized sized sized_ids sized_update
answers =
    record {
      P4_counts = refl;
      two_added_counts = refl;
      P4_third = refl;
      T_third = refl;
      P4_first_counts = refl;
      two_added_first_counts = refl;
      P8_many = refl;
      P9_many = refl;
    }

-- Two answers that are one have one record count, and as many ids.
counts_differ : (a b : Answer Result) {m m' k k' i i' v v' : ℕ} → changed a ≡ counted m k i v
    → changed b ≡ counted m' k' i' v' → a ≡ b
    → m ≡ m'
counts_differ a b e e' q = ap (λ (c : Changed). c.records) (sym e ∙ ap changed q ∙ e')

many_ids : (a b : Answer Result) → a ≡ b → length (ids_of a) ≡ length (ids_of b)
many_ids a b q = ap (λ (x : Answer Result). length (ids_of x)) q

pub right_update : (f : AnUpdate) → P4 f ≡ P4 update_entry → two_added f ≡ two_added update_entry → RightUpdate f
unfolding changed
right_update f p4 two =
    record {
      not_all_down = λ n l p e.
          let down : changed (P4 update_entry) ≡ changed (refused n l p) = ap changed (sym p4 ∙ e) in
          let z : ◌≡◌ {A = ℕ} 10 0 = ap (λ (c : Changed). c.records) (sym answers.P4_counts ∙ down) in
          omega arith;
      not_no_op = λ r e q.
          let same : third (ids r.tree) ≡ 2_147_483_648 + 11 =
          ap (λ (a : Answer Result). third (ids_of a)) (sym e ∙ p4) ∙ answers.P4_third in
          let kept : third (ids r.tree) ≡ 2_147_483_648 + 5 =
          ap (λ (t : Forest Field). third (ids t)) q ∙ answers.T_third in
          omega arith;
      not_first_alone = (
        λ e.
            let z = counts_differ (P4 update_entry) _ answers.P4_counts answers.P4_first_counts (sym p4 ∙ e) in
            omega arith,
        λ e.
            let first = answers.two_added_first_counts in
            let z = counts_differ (two_added update_entry) _ answers.two_added_counts first (sym two ∙ e) in
            omega arith,
      );
      P4_counts = ap changed p4 ∙ answers.P4_counts;
      two_added_counts = ap changed two ∙ answers.two_added_counts;
    }

pub right_pruner : (f : APruner) → P8 f ≡ P8 prune_entry → P9 f ≡ P9 prune_entry → RightPruner f
right_pruner f p8 p9 =
    let m = answers.P8_many in
    let k = answers.P9_many in
    record {
      accepts = λ n l p. (
        λ e. let z = many_ids (P8 prune_entry) (refused n l p) (sym p8 ∙ e) in omega arith,
        λ e. let z = many_ids (P9 prune_entry) (refused n l p) (sym p9 ∙ e) in omega arith,
      );
      not_constant = λ r r' e e' q.
          let a = many_ids (ok r) (P8 prune_entry) (sym e ∙ p8) in
          let b = many_ids (ok r') (P9 prune_entry) (sym e' ∙ p9) in
          let c = ap (λ (t : Forest Field). length (ids t)) q in
          omega arith;
    }
