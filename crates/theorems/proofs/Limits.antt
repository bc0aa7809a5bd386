-- The limits, as Pinned lists them: what is still let through, and one more. It computes.
use mathlib.Core.Path.{◌≡◌, refl}
use mathlib.Core.List.{map}
use Rattle.paper.specs.Answer.{◌>>=◌, lowest}
use Rattle.paper.specs.Forest.{size, siblings, preorder, counts, mapped, ◌then◌}
use Rattle.paper.specs.Promotions.{known_version}
use Rattle.paper.specs.Rows.{rows, entered, look_name, look_id}
use Rattle.paper.specs.Sound.{fitting, misnamed, names, ids, sound}
use Rattle.paper.specs.Prune.{prune}
use Rattle.paper.specs.Renumber.{renumber}
use Rattle.paper.specs.Update.{planned}
use Rattle.paper.specs.Rebuild.{update}
use Rattle.paper.specs.Bytes.{word16, word32, turned, ok_bytes, in_pool, kind_from, name_of, field_at, from}
use Rattle.paper.specs.Lists.{ok_deletion, ok_addition, path_in, ok_edit, edit_in, entries_ok, path_of, parent_path}
use Rattle.paper.specs.Lists.{deletion_paths, addition_paths, edit_path, new_name, edit_of, edit_list, id_list}
use Rattle.paper.specs.Layout.{deep, row_with, row, roots}
use Rattle.paper.specs.Decode.{fields, decode}
use Rattle.paper.specs.Encode.{row24, encode_records, encode_names, record_bytes, pool_bytes}
use Rattle.paper.specs.Limits.{room, whole, sum_from, name_sum, tree_sized, pool_sized, sized, sized_ids, sized_update}
use Rattle.paper.specs.Entries.{update_entry, prune_entry, renumber_entry, read, find_name, find_ids}
use Rattle.paper.specs.Asked.{signed_id, answer_of, answer}
use Rattle.paper.specs.Pinned.{limits}

pub limits_hold : map (λ e. answer e.asked) limits ≡ map (λ e. e.given) limits
unfolding answer answer_of known_version signed_id ◌>>=◌ lowest size siblings preorder counts mapped ◌then◌ rows entered look_name look_id
    fitting misnamed names ids sound prune renumber planned update
    word16 word32 turned ok_bytes in_pool kind_from name_of field_at from
    ok_deletion ok_addition path_in ok_edit edit_in entries_ok path_of parent_path deletion_paths addition_paths
    edit_path new_name edit_of edit_list id_list
    deep row_with row roots fields decode row24 encode_records encode_names record_bytes pool_bytes
    room whole sum_from name_sum tree_sized pool_sized sized sized_ids sized_update
    update_entry prune_entry renumber_entry read find_name find_ids
limits_hold = refl
