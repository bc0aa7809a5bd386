-- What Pinned lists holds: one claim over it. Beside it what is handed back, which no list of questions and answers shows: the
-- seven numbers, the bytes that stand in the buffers, the lister's text. All of it computes.
use Prim.Native.Nat.{ℕ}
use mathlib.Core.Path.{◌≡◌, refl}
use mathlib.Core.Bool.{true, false}
use mathlib.Core.List.{List, [], ◌∷◌, ◌++◌, map}
use mathlib.Core.Option.{Option}
use Rattle.paper.specs.Answer.{Answer, ◌>>=◌, lowest}
use Rattle.paper.specs.Refusals.{last_refusal}
use Rattle.paper.specs.Forest.{empty, size, siblings, levels, preorder, counts, mapped, ◌then◌}
use Rattle.paper.specs.Rows.{Row, rows, entered, look_name, look_id, look_parent}
use Rattle.paper.specs.Folded.{fold, folded, matching, look_folded}
use Rattle.paper.specs.Sound.{text, fitting, misnamed, names, ids, sound, name_bytes, within}
use Rattle.paper.specs.Prune.{prune}
use Rattle.paper.specs.Renumber.{level, numbered, renumber}
use Rattle.paper.specs.Gone.{gone}
use Rattle.paper.specs.Promotions.{known_version, is_decimal, more_digits, allowed}
use Rattle.paper.specs.Edits.{edited_one, edited_all, edit_fields}
use Rattle.paper.specs.Update.{deleted, member_taken, placed, placed_all, planned}
use Rattle.paper.specs.Rebuild.{fresh, arrivals, arriving, rebuilt, carried_out, update}
use Rattle.paper.specs.Visited.{reached, arrived, visited}
use Rattle.paper.specs.Bytes.{word16, word32, turned, ok_bytes, in_pool, kind_from, name_of, field_at}
use Rattle.paper.specs.Bytes.{from}
use Rattle.paper.specs.Lists.{ok_deletion, ok_addition, path_in, ok_edit, edit_in, entries_ok, path_of, parent_path}
use Rattle.paper.specs.Lists.{deletion_paths, addition_paths, edit_path, new_name, edit_of, edit_list, id_list}
use Rattle.paper.specs.Layout.{deep, row_with, row, roots}
use Rattle.paper.specs.Decode.{fields, decode}
use Rattle.paper.specs.Encode.{row24, encode_records, encode_names, record_bytes, pool_bytes}
use Rattle.paper.specs.Encode as Encode
use Rattle.paper.specs.Limits.{room, whole, sum_from, name_sum, tree_sized, pool_sized}
use Rattle.paper.specs.Limits.{sized, sized_ids, sized_update}
use Rattle.paper.specs.Entries.{Result, update_entry, prune_entry, renumber_entry, read}
use Rattle.paper.specs.Entries.{find_name, find_folded, find_id, find_parent, find_ids}
use Rattle.paper.specs.Outcome.{Changed, changed, Found, found, Searched, searched}
use Rattle.paper.specs.Outcome.{leaves, out_records, out_names, out_identifiers, out_slots}
use Rattle.paper.specs.Lister.{digits, decimal, signed, lines, listing, lister}
use Rattle.paper.specs.Sample.{primitive, T_records, T_pool}
use Rattle.paper.specs.Asked.{Lending, lending, lent, at_root, signed_id, answer_of, answer}
use Rattle.paper.specs.Asked.{asked_update, asked_prune, put_prune, put_renumber}
use Rattle.paper.specs.Pinned.{tree_of, longer, minus_one, keyed, number_told, met, pinned}

-- ---- what is asked

-- P7 is refused; dropping `node` is not.
abbrev P7 : Answer Result
P7 = asked_update update_entry [] (at_root "floor" ∷ at_root "floor" ∷ [])

abbrev dropped : Answer Result
dropped = asked_update update_entry ("node" ∷ []) []

-- T, pruned; a tree with identifiers 2 and 5, numbered from 11.
abbrev chosen : List ℕ → Answer Result
chosen selected = asked_prune prune_entry selected false

abbrev from_11 : Answer Result
from_11 = put_renumber (lent keyed (2 ∷ 5 ∷ []) 10) 11

-- `a` with its member `a`, which share their byte of the pool, and a root with no name.
abbrev shared : Answer Result
shared =
    let s = row24 1 0 1 1 0 1 0 0 ++ row24 2 0 1 0 0 0 0 0 ++ row24 3 1 0 0 0 0 0 0 in
    put_prune prune_entry (lending s (text "a") [] 3) (1 ∷ 3 ∷ []) true

-- Ids 9, 1 and 99 of T, with room for so many bytes.
abbrev three : (room : ℕ) → Answer (List (Option Row))
three = find_ids T_records T_pool (9 ∷ 0 ∷ 0 ∷ 0 ∷ 1 ∷ 0 ∷ 0 ∷ 0 ∷ 99 ∷ 0 ∷ 0 ∷ 0 ∷ [])

abbrev two_of_a_name : Lending
two_of_a_name = tree_of (primitive "a" 1 then primitive "a" 2)

-- The lowest id, and the highest under it.
abbrev farthest : Lending
farthest = lending (row24 2_147_483_648 0 1 1 0 1 0 0 ++ row24 2_147_483_647 1 1 0 0 0 0 0) (text "ab") [] 2

abbrev listed : Lending → List ℕ
listed b = lister b.records b.pool

abbrev numbers : (refusal list place records names last_id visited : ℕ) → Changed
numbers refusal list place records names last_id visited =
    record {
      refusal = refusal;
      list = list;
      place = place;
      records = records;
      names = names;
      last_id = last_id;
      visited = visited;
    }

abbrev sought : (refusal list place found id slot : ℕ) → Found
sought refusal list place found id slot =
    record { refusal = refusal; list = list; place = place; found = found; id = id; slot = slot }

abbrev counted : (refusal list place found : ℕ) → Searched
counted refusal list place found = record { refusal = refusal; list = list; place = place; found = found }

-- ---- what is held

pub record Held : Type 0 where
  -- Each answer is the one given.
  pub answers : map (λ e. answer e.asked) pinned ≡ map (λ e. e.given) pinned
  -- Each refusal is met, from 1 to the last.
  pub each_met : map (λ e. number_told e.given) met ≡ from (λ i. i) 1 last_refusal
  -- The seven numbers: refusal, list, place; then record count, name bytes, last id and records visited of an acceptance.
  pub changed_numbers : map changed (P7 ∷ dropped ∷ from_11 ∷ [])
      ≡ numbers 8 4 11 0 0 0 0 ∷ numbers 0 0 0 7 34 10 8 ∷ numbers 0 0 0 4 18 0 0 ∷ []
  -- The six numbers of a look-up: refusal, list, place; then whether it is found, its id and its slot.
  pub found_numbers :
      found (find_name T_records T_pool (text "parts")) ∷ found (find_id T_records T_pool 9)
      ∷ found (find_parent T_records T_pool 7) ∷ found (find_name T_records T_pool (text "day"))
      ∷ found (find_name two_of_a_name.records two_of_a_name.pool (text "a")) ∷ []
      ≡ sought 0 0 0 1 3 6 ∷ sought 0 0 0 1 9 8 ∷ sought 0 0 0 1 6 4 ∷ sought 0 0 0 0 0 0 ∷ sought 8 0 1 0 0 0 ∷ []
  -- The four numbers of a search for many ids, and its slots: each where it is, 4,294,967,295 where none is; the old bytes behind.
  pub searched_numbers : map searched (three 12 ∷ three 11 ∷ []) ≡ counted 0 0 0 2 ∷ counted 1 0 0 0 ∷ []
  pub slots_are :
      leaves out_slots (three 13) (text "thirteen bytes") ∷ leaves out_slots (three 11) (text "eleven byte") ∷ []
      ≡ (8 ∷ 0 ∷ 0 ∷ 0 ∷ 0 ∷ 0 ∷ 0 ∷ 0 ∷ 255 ∷ 255 ∷ 255 ∷ 255 ∷ text "es") ∷ text "eleven byte" ∷ []
  -- The buffers: the answer's bytes, then the old ones; after a refusal and an empty answer all the old ones (50).
  pub buffers :
      leaves out_names (chosen (1 ∷ [])) (text "a buffer") ∷ leaves out_identifiers from_11 (1 ∷ 1 ∷ 1 ∷ 1 ∷ 1 ∷ 1 ∷ 1 ∷ 1 ∷ 1 ∷ [])
      ∷ leaves out_records (chosen (2 ∷ [])) (text "a buffer") ∷ leaves out_names (chosen (2 ∷ [])) (text "a buffer")
      ∷ leaves out_identifiers (chosen (2 ∷ [])) (text "a buffer") ∷ leaves out_records (chosen []) (text "a buffer") ∷ []
      ≡ text "nodeffer" ∷ (12 ∷ 0 ∷ 0 ∷ 0 ∷ 13 ∷ 0 ∷ 0 ∷ 0 ∷ 1 ∷ [])
      ∷ text "a buffer" ∷ text "a buffer"
      ∷ text "a buffer" ∷ text "a buffer" ∷ []
  -- Names are packed in record order, once for each record; an empty one has the running offset (48, 49).
  pub packed :
      leaves out_records shared [] ∷ leaves out_names shared [] ∷ []
      ≡ (row24 1 0 1 1 0 1 0 0 ++ row24 2 1 1 0 0 0 0 0 ++ row24 3 2 0 0 0 0 0 0) ∷ text "aa" ∷ []
  -- The lister's line of a refusal; signed ids, of parents too; no line of an empty tree (9, 66, 67).
  pub lines_are :
      map listed (two_of_a_name ∷ longer empty ∷ minus_one ∷ farthest ∷ tree_of empty ∷ [])
      ≡ text "refused 8 at 0 1\n" ∷ text "refused 2 at 0 0\n" ∷ text "0 -1 - a\n1 2 -1 a.b\n"
      ∷ text "0 -2147483648 - a\n1 2147483647 -2147483648 a.b\n" ∷ [] ∷ []

pub pins : Held
unfolding answer answer_of signed_id ◌>>=◌ lowest size siblings levels preorder counts mapped ◌then◌
    rows entered look_name look_id look_parent fold folded matching look_folded
    fitting misnamed names ids sound name_bytes within prune level numbered renumber
    known_version is_decimal more_digits allowed gone edited_one edited_all edit_fields deleted member_taken placed placed_all planned fresh arrivals arriving rebuilt carried_out update
    reached arrived visited word16 word32 turned ok_bytes in_pool kind_from name_of field_at from
    ok_deletion ok_addition path_in ok_edit edit_in entries_ok path_of parent_path deletion_paths addition_paths
    edit_path new_name edit_of edit_list id_list
    deep row_with row roots fields decode row24 encode_records encode_names record_bytes pool_bytes Encode.id_bytes
    room whole sum_from name_sum tree_sized pool_sized sized sized_ids sized_update
    update_entry prune_entry renumber_entry read find_name find_folded find_id find_parent find_ids changed found searched out_slots leaves
    digits decimal signed lines listing lister
pins =
    record {
      answers = refl;
      each_met = refl;
      changed_numbers = refl;
      found_numbers = refl;
      searched_numbers = refl;
      slots_are = refl;
      buffers = refl;
      packed = refl;
      lines_are = refl;
    }
