-- A number below 2^32 for a list of bytes.
use Rattle.std.specs.Prelude.{ℕ, ◌+◌, ◌*◌, ◌/◌, ◌%◌, List, [], ◌∷◌}

unfoldable pub mix : ℕ → ℕ → ℕ
mix h x = (h + x + 1) * 16777619 % 4294967296

unfoldable pub hash_on : ℕ → List ℕ → ℕ
hash_on h [] = h
hash_on h (x ∷ xs) = hash_on (mix h x) xs

abbrev pub hash_of : List ℕ → ℕ
hash_of x = hash_on 0 x

-- Sixteen bits of a number that is mixed once more: what an index keeps of a name. The upper ten are its bucket.
unfoldable pub tag : ℕ → ℕ
tag h = h * 2654435761 / 65536 % 65536

abbrev pub tag_of : List ℕ → ℕ
tag_of x = tag (hash_of x)

unfoldable pub tag_bucket : ℕ → ℕ
tag_bucket t = t / 64
