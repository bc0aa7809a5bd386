-- The signed reading of an id is that of its 32 bits in two's complement: `turned` adds 2^31 and cuts, and
-- `signed_id` takes it away again.
use Prim.Native.Nat.{ℕ, ◌+◌, ◌-◌, ◌%◌, ◌<◌}
use mathlib.Core.Path.{◌≡◌}
use native.Mathlib.Omega.{arith}
use lib.IntN.{pos, negsuc}
use borrow.Author.Tests.{lt-ltb, le-ltb}
use Rattle.paper.specs.Bytes.{turned}
use Rattle.paper.specs.Asked.{signed_id}

-- n
pub signed_natural : (n : ℕ) → n < 2_147_483_648 → signed_id (turned n) ≡ pos n
unfolding signed_id turned
signed_natural n l =
    let e : (n + 2_147_483_648) % 4_294_967_296 ≡ n + 2_147_483_648 = omega arith in
    let d : n + 2_147_483_648 - 2_147_483_648 ≡ n = omega arith in
    rw (e, le-ltb (n + 2_147_483_648) 2_147_483_648 (omega arith), d)

-- -(n + 1)
pub signed_negative : (n : ℕ) → n < 2_147_483_648 → signed_id (turned (4_294_967_295 - n)) ≡ negsuc n
unfolding signed_id turned
signed_negative n l =
    let e : (4_294_967_295 - n + 2_147_483_648) % 4_294_967_296 ≡ 2_147_483_647 - n = omega arith in
    let d : 2_147_483_647 - (2_147_483_647 - n) ≡ n = omega arith in
    rw (e, lt-ltb (2_147_483_647 - n) 2_147_483_648 (omega arith), d)
