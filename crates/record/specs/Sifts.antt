-- What one pass over records tells of refusals 3 and 4, and of lists and maps.
use Rattle.std.specs.Prelude.{◌≡◌, ℕ, ◌≤◌, Bool, false, ◌&&◌, List, nat_lt}
use Rattle.std.proofs.Math.Option.{none}
use Rattle.paper.specs.Answer.{lowest}
use Rattle.paper.specs.Bytes.{rec_at, ok_bytes, in_pool}
use Rattle.record.specs.declared.Sifted.{Sifted}

-- What 3 and 4 ask of a record.
unfoldable pub kept : (pool : ℕ) (records : List ℕ) (slot : ℕ) → Bool
kept pool records slot = in_pool pool records slot && ok_bytes records slot

-- Neither a list nor a map.
unfoldable pub flat : (records : List ℕ) (slot : ℕ) → Bool
flat records slot = nat_lt (rec_at records slot).kind 2

pub record Sifts (pool : ℕ) (records : List ℕ) (n : ℕ) (r : Sifted) : Type 0 where
  pub within : r.fine ≤ n
  pub bytes : lowest (ok_bytes records) 0 r.fine ≡ none
  pub bounds : lowest (in_pool pool records) 0 r.fine ≡ none
  pub level : r.nested ≡ false → lowest (flat records) 0 n ≡ none
