-- What was answered can be lent again with its identifiers: it passes 9 with them, and an update that asks for nothing
-- rebuilds its base.
use Prim.Native.Nat.{ℕ, suc, ◌+◌, ◌*◌, ◌/◌, ◌%◌, ◌<◌}
use mathlib.Core.Path.{◌≡◌, refl, sym, ap, ap₂, ◌∙◌}
use mathlib.Core.Logic.{inl, inr, ⊎_elim}
use mathlib.Core.Bool.{Bool, true, false, ◌&&◌}
use mathlib.Core.List.{List, [], ◌∷◌}
use mathlib.Core.Option.{Option, none, some}
use native.Mathlib.Omega.{arith}
use lib.Dec.{eqb, leb}
use lib.ListN.{length, drop, length-map}
use lib.Seq.{take_at, drop-drop}
use borrow.Author.Tests.{eqb-true}
use Rattle.paper.specs.Answer.{ok, ◌>>=◌, lowest}
use Rattle.paper.specs.Forest.{Forest, empty, node, siblings, mapped}
use Rattle.paper.specs.Field.{Field, id_of, kind_of, with_id, is_struct}
use Rattle.paper.specs.Sound.{misnamed, ids, sound, within}
use Rattle.paper.specs.Renumber.{renamed, numbered, Renumbered, renumber}
use Rattle.paper.specs.Edits.{edited_all, edit_fields, edited_tree}
use Rattle.paper.specs.Update.{Schema, Plan, schema, request, deleted, placed_all, planned}
use Rattle.paper.specs.Rebuild.{arrivals, arriving, rebuilt, carried_out, update}
use Rattle.paper.specs.Bytes.{word32, turned, from}
use Rattle.paper.specs.Lists.{ok_deletion, ok_addition, path_in, ok_edit, edit_in, entries_ok}
use Rattle.paper.specs.Lists.{deletion_paths, addition_paths, edit_list, id_at, id_list}
use Rattle.paper.specs.Layout.{roots}
use Rattle.paper.specs.Decode.{fields, decode}
use Rattle.paper.specs.Encode.{bytes32, id_bytes}
use Rattle.paper.specs.Limits.{whole, sum_from, name_sum, tree_sized, pool_sized, sized, sized_ids, sized_update}
use Rattle.paper.specs.Lent.{Stored, Lent}
use Rattle.paper.specs.Entries.{Result, update_entry, renumber_entry}
use Rattle.paper.specs.Outcome.{leaves}
use Rattle.laws.specs.Members.{◌∈◌}
use Rattle.laws.specs.Fit.{Bytes, Formed, Fit}
use Rattle.laws.proofs.Basics.{unbind, rebind, ok_is, in_append}
use Rattle.laws.proofs.Identified.{sound_members, sound_anywhere}
use Rattle.laws.proofs.Words.{back32, turned_twice, turned_below, word32_drop}
use Rattle.laws.proofs.Runs.{length_from}
use Rattle.laws.proofs.RoundTrip.{both, decode_encode, sized_written}
use Rattle.theorems.specs.Stored.{BytesLent}
use Rattle.theorems.specs.Identified.{PassesAgain, IdentifiersAgain}
use Rattle.theorems.proofs.Identified.{update_identified, renumber_identified}
use Rattle.theorems.proofs.Opened.{open_renumber, open_update}
use Rattle.theorems.proofs.Again.{renumber_entry_fit, update_entry_fit}
use Rattle.theorems.proofs.Visits.{visits_all}

-- ---- a request that asks for nothing

rebuilt_nothing : (q : Option ℕ) (b : Bool) (t : Forest Field) → rebuilt id_of kind_of [] [] q b t ≡ t
unfolding rebuilt arriving
rebuilt_nothing q true empty = refl
rebuilt_nothing q false empty = refl
rebuilt_nothing q true (node f m n) =
    ap₂ (λ (x y : Forest Field). node f x y) (rebuilt_nothing (some f.id) (is_struct f.kind) m)
    (rebuilt_nothing q true n)
rebuilt_nothing q false (node f m n) =
    ap₂ (λ (x y : Forest Field). node f x y) (rebuilt_nothing (some f.id) (is_struct f.kind) m)
    (rebuilt_nothing q false n)

pub unedited : (t : Forest Field) → edited_tree [] t ≡ t
unfolding mapped edit_fields
unedited empty = refl
unedited (node f m n) = ap₂ (λ (x y : Forest Field). node f x y) (unedited m) (unedited n)

nothing_asked : (s : Schema) (identifiers : List ℕ) → within s.tree ≡ true → sound 0 s.tree identifiers ≡ ok tt
    → update s (request identifiers [] [] empty []) ≡ ok s
unfolding update planned carried_out deleted placed_all edited_all arrivals siblings
nothing_asked s identifiers w e =
    let plan : Plan = record { dropped = []; parents = []; last = s.last; edits = [] } in
    rebind _ _ {a = plan} (rebind _ _ e (rebind _ _ refl (rebind _ _ refl (rebind _ _ refl (rebind _ _ refl refl)))))
    (rw (unedited s.tree, rebuilt_nothing none true s.tree)
    (rebind _ _ (rw w) (rebind _ _ (sound_anywhere 0 4 s.tree identifiers e) refl)))

nothing_decodes : (list : ℕ) → decode list [] [] ≡ ok empty
unfolding decode ◌>>=◌ lowest roots fields mapped misnamed
nothing_decodes list = refl

-- None is listed, wherever its paths would lie.
pub nothing_listed : (list : ℕ) (rule : List ℕ → ℕ → Bool) (inside : ℕ → List ℕ → ℕ → Bool) (pool : List ℕ)
    → entries_ok list 8 rule inside [] pool ≡ ok tt
unfolding entries_ok ◌>>=◌ lowest
nothing_listed list rule inside pool = refl

pub nothing_edited : (pool : List ℕ) → entries_ok 6 16 ok_edit edit_in [] pool ≡ ok tt
unfolding entries_ok ◌>>=◌ lowest
nothing_edited pool = refl

nothing_sized : (((whole 8 64 [] && whole 8 64 []) && whole 16 64 []) && sized [] []) ≡ true
unfolding whole sized tree_sized pool_sized name_sum sum_from
nothing_sized = refl

passes_again : (t : Forest Field) (identifiers : List ℕ) → Fit t → whole 4 64 identifiers ≡ true
    → sound 0 t (id_list identifiers) ≡ ok tt → PassesAgain t identifiers
unfolding update_entry sized_update sized_ids deletion_paths addition_paths edit_list from
passes_again t identifiers h few e =
    record {
      accepted = e;
      lent_again = λ last version lr ln l known z.
          let updates = nothing_asked (schema t (turned last)) (id_list identifiers) h.limits e in
          rebind _ _ (rw z)
          (rebind _ _ (rw (sized_written t h, few, nothing_sized))
          (rebind _ _ (rw known)
          (rebind _ _ (decode_encode 0 t h)
          (rebind _ _ (nothing_decodes 1)
          (rebind _ _ (nothing_listed 2 ok_deletion path_in [])
          (rebind _ _ (nothing_listed 3 ok_addition path_in [])
          (rebind _ _ (nothing_edited [])
          (rebind _ _ updates
          (rw (turned_twice last l, visits_all _ _ _ updates refl refl))))))))));
    }

-- ---- bytes of ids

length_ids : (is : List ℕ) → length (id_bytes is) ≡ length is * 4
unfolding id_bytes
length_ids [] = refl
length_ids (i ∷ is) = let h = length_ids is in omega arith

word_first : (x : ℕ) (z : List ℕ) → x < 4294967296 → word32 (bytes32 x z) 0 ≡ x
unfolding word32
word_first x z l = back32 x l

-- Those of a list from place k on.
ids_back : (s : List ℕ) (k : ℕ) (is : List ℕ) → ((i : ℕ) → i ∈ is → i < 4294967296) → drop (k * 4) s ≡ id_bytes is
    → from (id_at s) k (length is) ≡ is
unfolding id_bytes from
ids_back s k [] h e = refl
ids_back s k (i ∷ is) h e =
    let a : suc k * 4 ≡ k * 4 + 4 = omega arith in
    let rest : drop (suc k * 4) s ≡ id_bytes is = rw a (sym (drop-drop 4 (k * 4) s) ∙ ap (drop 4) e) in
    let b : k * 4 ≡ k * 4 + 0 = omega arith in
    let own : word32 s (k * 4) ≡ turned i =
    rw b (word32_drop s (k * 4) 0 ∙ ap (λ (z : List ℕ). word32 z 0) e ∙ word_first (turned i) (id_bytes is) (turned_below i)) in
    ap₂ (λ (x : ℕ) (z : List ℕ). x ∷ z) (ap turned own ∙ turned_twice i (h i (inl refl)))
    (ids_back s (suc k) is (λ j m. h j (inr m)) rest)

ids_again : (is : List ℕ) → ((i : ℕ) → i ∈ is → i < 4294967296) → id_list (id_bytes is) ≡ is
unfolding id_list
ids_again is h =
    let e : length (id_bytes is) / 4 ≡ length is = let l = length_ids is in omega arith in
    rw e (ids_back (id_bytes is) 0 is h refl)

ids_small : (t : Forest Field) → Formed t → (x : ℕ) → x ∈ ids t → x < 4294967296
unfolding ids
ids_small empty h x i = absurd i
ids_small (node f m n) h x (inl e) = rw e h.0.id
ids_small (node f m n) h x (inr i) =
    ⊎_elim (ids_small m h.1 x) (ids_small n h.2 x) (in_append x (ids m) (ids n) i)

-- As many identifiers as were given.
renumber_many : (t : Forest Field) (i : List ℕ) (start : ℕ) (r : Renumbered) → whole 4 64 i ≡ true
    → renumber t (id_list i) start ≡ ok r → length r.identifiers * 4 ≡ length i
unfolding renumber whole id_list
renumber_many t i start r w e =
    unbind _ _ e λ _ _ a₁. unbind _ _ a₁ λ _ _ a₂.
    let q = ap (λ (x : Renumbered). length x.identifiers) (sym (ok_is a₂)) in
    let m = length-map (id_list i) (renamed (ids t) (ids (numbered with_id kind_of start t))) in
    let n = length_from (id_at i) 0 (length i / 4) in
    let z = eqb-true (length i % 4) 0 (both (eqb (length i % 4) 0) (leb (length i) (4 * 64)) w).0 in
    omega arith

as_few : (s t : List ℕ) → length s ≡ length t → whole 4 64 s ≡ true → whole 4 64 t ≡ true
unfolding whole
as_few s t e w = rw (← e) w

-- ---- the entries

pub update_passes : (s : Stored) (q : Lent) (r : Result) → Bytes s.records → BytesLent q
    → update_entry s q ≡ ok r → PassesAgain r.tree q.identifiers
update_passes s q r b b' e =
    let o = open_update s q r e in
    let u = o.answer in
    rw o.result
    (passes_again u.tree q.identifiers (rw o.result at (update_entry_fit s q r b b' e)) o.few
    (update_identified _ _ u o.updates))

pub renumber_passes : (s p i : List ℕ) (start lr ln li : ℕ) (r : Result) → Bytes s
    → renumber_entry s p i start lr ln li ≡ ok r → IdentifiersAgain i r
unfolding leaves
renumber_passes s p i start lr ln li r b e =
    let o = open_renumber s p i start lr ln li r e in
    let passes = renumber_identified o.tree _ _ _ o.renumbers in
    let fit = renumber_entry_fit s p i start lr ln li r b e in
    let small : (x : ℕ) → x ∈ r.identifiers → x < 4294967296 =
    λ x h. ids_small r.tree fit.formed x (sound_members 0 r.tree r.identifiers passes x h) in
    let as_many : length r.identifiers * 4 ≡ length i = renumber_many o.tree i _ _ o.few o.renumbers in
    let again = ids_again r.identifiers small in
    let long : length (id_bytes r.identifiers) ≡ length i = length_ids r.identifiers ∙ as_many in
    record {
      reads = again;
      in_buffer = λ old.
          take_at (id_bytes r.identifiers) (drop (length (id_bytes r.identifiers)) old) (length i) long;
      passes =
          passes_again r.tree (id_bytes r.identifiers) fit
          (as_few i (id_bytes r.identifiers) (sym long) o.few) (rw again passes);
    }
