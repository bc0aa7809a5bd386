-- The records of a fit tree, written, are bytes: words are cut
-- into bytes, and lengths, kinds and flags are small.
use Prim.Native.Nat.{ℕ, zero, suc, ◌+◌, ◌/◌, ◌%◌, ◌<◌}
use mathlib.Core.List.{List, [], ◌∷◌, ◌++◌, append_assoc, append-nil}
use native.Mathlib.Omega.{arith}
use lib.ListN.{length}
use Rattle.paper.specs.declared.Kind.{Kind}
use Rattle.paper.specs.declared.Kind.TheVariants.{Primitive, Structure, Listing, Mapping}
use Rattle.paper.specs.Forest.{Forest, empty, node, preorder, counts}
use Rattle.paper.specs.Field.{Field}
use Rattle.paper.specs.Bytes.{turned}
use Rattle.paper.specs.Encode.{kind_byte, bytes16, bytes32, row24, rec_bytes, encode_records, record_bytes}
use Rattle.laws.specs.Fit.{Bytes, Holds, Formed}

data Octets : List ℕ → Type 0 where
  none : Octets []
  octet : {x : ℕ} {s : List ℕ} → x < 256 → Octets s → Octets (x ∷ s)

octets_bytes : {s : List ℕ} → Octets s → Bytes s
octets_bytes none i = omega arith
octets_bytes (octet l h) zero = l
octets_bytes (octet l h) (suc i) = octets_bytes h i

octets_append : {s t : List ℕ} → Octets s → Octets t → Octets (s ++ t)
octets_append none k = k
octets_append (octet l h) k = octet l (octets_append h k)

cut : (x : ℕ) → x % 256 < 256
cut x = omega arith

octets16 : (x : ℕ) {s : List ℕ} → Octets s → Octets (bytes16 x s)
octets16 x h = octet (cut x) (octet (cut (x / 256)) h)

octets32 : (x : ℕ) {s : List ℕ} → Octets s → Octets (bytes32 x s)
octets32 x h = octet (cut x) (octet (cut (x / 256)) (octet (cut (x / 65536)) (octet (cut (x / 16777216)) h)))

kind_small : (k : Kind) → kind_byte k < 256
kind_small Primitive = omega arith
kind_small Structure = omega arith
kind_small Listing = omega arith
kind_small Mapping = omega arith

row_octets : (at : ℕ) (f : Field) (c : ℕ) → Holds f c → Octets (rec_bytes at f c)
unfolding row24
row_octets at f c h =
    let l = h.flags in
    let zero_byte : 0 < 256 = omega arith in
    let small : f.flags < 256 = omega arith in
    let ends = octets32 f.code (octets32 f.attribute none) in
    let kids = octets16 c (octet zero_byte (octet zero_byte ends)) in
    octets32 (turned f.id)
    (octets32 at (octet h.name (octet (kind_small f.kind) (octet small (octet zero_byte kids)))))

-- Each field with its count.
abbrev Held : List Field → List ℕ → Type 0
Held [] cs = Unit {0}
Held (f ∷ fs) [] = Unit {0}
Held (f ∷ fs) (c ∷ cs) = Holds f c × Held fs cs

held : (t : Forest Field) (fs : List Field) (cs : List ℕ) → Formed t → Held fs cs
    → Held (preorder t ++ fs) (counts t ++ cs)
unfolding preorder counts
held empty fs cs h k = k
held (node f m n) fs cs h k =
    rw (append_assoc (preorder m) (preorder n) fs, append_assoc (counts m) (counts n) cs)
    (h.0, held m (preorder n ++ fs) (counts n ++ cs) h.1 (held n fs cs h.2 k))

records_octets : (at : ℕ) (fs : List Field) (cs : List ℕ) → Held fs cs → Octets (encode_records at fs cs)
unfolding encode_records
records_octets at [] cs h = none
records_octets at (f ∷ fs) [] h = none
records_octets at (f ∷ fs) (c ∷ cs) h =
    octets_append (row_octets at f c h.0) (records_octets (at + length f.name) fs cs h.1)

pub written_bytes : (t : Forest Field) → Formed t → Bytes (record_bytes t)
unfolding record_bytes
written_bytes t h =
    let k = rw (append-nil (preorder t), append-nil (counts t)) at (held t [] [] h tt) in
    octets_bytes (records_octets 0 (preorder t) (counts t) k)
