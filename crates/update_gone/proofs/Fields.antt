-- What goes of the slots of the base is what goes of its fields.
use Prim.Native.Nat.{ℕ}
use mathlib.Core.Path.{◌≡◌, ap, ◌∙◌}
use mathlib.Core.Bool.{true}
use mathlib.Core.List.{List, map, map-map}
use Rattle.paper.specs.Bytes.{field_at, kind_at}
use Rattle.paper.specs.Decode.{fields}
use Rattle.paper.specs.Field.{id_of, kind_of}
use Rattle.paper.specs.Gone.{gone, gone_columns}
use Rattle.laws.proofs.Going.{gone_mapped}
use Rattle.update_gone.specs.Gone.{base_slots, slot_id, ids_gone}

pub gone_fields : (pool records : List ℕ) (n : ℕ) (dropped : List ℕ) → gone_columns dropped (fields pool records (base_slots records n)) ≡ ids_gone records n dropped
unfolding fields ids_gone field_at
gone_fields pool records n dropped =
    ap (map id_of) (gone_mapped (field_at pool records) id_of kind_of dropped true (base_slots records n))
    ∙ map-map id_of (field_at pool records) (gone (slot_id records) (kind_at records) dropped true (base_slots records n))
