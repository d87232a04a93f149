-- How long a chunk is.
-- Assumes nothing.
use mathlib.Core.Path.{◌≡◌}
use mathlib.Core.List.{List}
use Prim.Native.Nat.{ℕ, ◌+◌}
use native.Mathlib.Omega.{arith}
use lib.ListN.{length, length-append}
use Rattle.octets.specs.Numbers.{to_be}
use Rattle.octets.proofs.NumberLaws.{length-to_be}
use Rattle.stream_pieces.specs.Pieces.{seal_at, Keyed}
use Rattle.stream_seal.specs.Sealing.{chunk}
use Rattle.stream_pieces.proofs.LengthLaws.{length-seal_at}

pub length-chunk : (key : Keyed) (counter : ℕ) (payload : List ℕ) → length (chunk key counter payload) ≡ 18 + length payload + 16
unfolding chunk
length-chunk key counter payload =
    omega (
      arith,
      length-append (seal_at key counter (to_be 2 (length payload))) (seal_at key (counter + 1) payload),
      length-seal_at key counter (to_be 2 (length payload)),
      length-seal_at key (counter + 1) payload,
      length-to_be 2 (length payload),
    )
