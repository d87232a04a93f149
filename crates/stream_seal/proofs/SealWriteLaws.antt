-- What the writers leave, step by step, is the chunk.
-- Assumes nothing.
use mathlib.Core.Path.{◌≡◌, ap, ◌∙◌}
use mathlib.Core.List.{List, ◌++◌}
use Prim.Native.Nat.{ℕ, ◌+◌}
use native.Mathlib.Omega.{arith}
use lib.ListN.{length, take, drop}
use Rattle.octets.specs.Buffers.{put}
use Rattle.octets.specs.Numbers.{to_be}
use Rattle.octets.proofs.BufferLaws.{part-put}
use Rattle.octets.proofs.NumberLaws.{length-to_be}
use Rattle.aead.specs.Aead.{text_of}
use Rattle.stream_pieces.specs.Pieces.{seal_at, Keyed}
use Rattle.stream_seal.specs.Sealing.{chunk}
use Rattle.stream_pieces.proofs.PieceLaws.{pair-law}

-- the length and its payload, sealed where they stand
pub chunk-law : (key : Keyed) (d v o r : List ℕ) (counter : ℕ) (payload : List ℕ) → length d ≡ 18 + length payload + 16
    → v ≡ put d 0 (to_be 2 (length payload)) → o ≡ put v 18 payload
    → r ≡ seal_at key counter (text_of (take 18 o)) ++ seal_at key (counter + 1) (text_of (drop 18 o)) → r ≡ chunk key counter payload
unfolding chunk
chunk-law key d v o r counter payload l ev eo er =
    let n = to_be 2 (length payload) in
    let front : 18 ≡ length n + 16 = omega (arith, length-to_be 2 (length payload)) in
    pair-law d n payload v o 18 front l ev eo key r counter er

-- a chunk in a lent front of the buffer
pub chunk-in-front : (key : Keyed) (n : ℕ) (d r : List ℕ) (counter : ℕ) (payload : List ℕ) → length r ≡ n
    → r ≡ chunk key counter payload → r ++ drop n d ≡ put d 0 (chunk key counter payload)
chunk-in-front key n d r counter payload l er = part-put d r 0 n l ∙ ap (put d 0) er
