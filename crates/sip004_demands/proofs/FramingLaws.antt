-- The edition's framing: its lengths are two bytes' and none is too short.
-- Assumes nothing.
use mathlib.Core.Path.{◌≡◌}
use mathlib.Core.Bool.{false}
use Prim.Native.Nat.{ℕ, ◌≤◌}
use native.Mathlib.Omega.{arith}
use lib.Dec.{lit≤}
use borrow.Author.Tests.{le-ltb}
use Rattle.stream_pieces.specs.Framing.{under}
use Rattle.stream_pieces.specs.Pieces.{max_chunk}
use Rattle.sip004_stream.specs.Streams.{framing_of}

pub sayable : (method : ℕ) → (framing_of method).greatest ≤ max_chunk
sayable method = lit≤ tt

pub none-under : (method n : ℕ) → under (framing_of method) n ≡ false
none-under method n = le-ltb n 0 (omega arith)
