-- The round trip: what an accepted answer leaves, read again.
use Rattle.std.specs.Prelude.{ℕ, ◌*◌, ◌≡◌, List, take}
use Rattle.paper.specs.Answer.{ok}
use Rattle.paper.specs.Decode.{decode}
use Rattle.paper.specs.Encode.{record_bytes, pool_bytes}
use Rattle.paper.specs.Entries.{Result, read}
use Rattle.paper.specs.Outcome.{changed, leaves, out_records, out_names}

-- The bytes of an answer's tree.
pub record ReadsAgain (result : Result) : Type 0 where
  -- They pass 2 to 8 and are read as the tree;
  pub accepted : read (record_bytes result.tree) (pool_bytes result.tree) ≡ ok result.tree
  -- `decode` gives the tree of them;
  pub decodes : decode 0 (record_bytes result.tree) (pool_bytes result.tree) ≡ ok result.tree
  -- and they are what stands at the front of the output buffers:
  -- so many records and name bytes as the answer says.
  pub in_buffers : (old_records old_names : List ℕ)
      → read
      (take ((changed (ok result)).records * 24) (leaves out_records (ok result) old_records))
      (take (changed (ok result)).names (leaves out_names (ok result) old_names))
      ≡ ok result.tree
