use mathlib.Core.Path.{◌≡◌}
use mathlib.Core.List.{List}
use Prim.Native.Nat.{ℕ}
use lib.ListN.{length, take, replicate}
use Rattle.octets.specs.Buffers.{put}
use Rattle.hmac.specs.Hmac.{keyed_of}
use Rattle.hkdf.specs.Hkdf.{joined_t}
use Rattle.hkdf.specs.Buffer.{laid, held}
use Rattle.hkdf.proofs.blocks.Given as goal

abbrev pub invariant-loop-i : goal.invariant-loop-i
invariant-loop-i l =
    (l.e.key ≡ l.fn.e.key) × (l.e.info_len ≡ l.fn.e.info_len)
    × ((prk info : List ℕ) → l.fn.e.key ≡ keyed_of prk → length info ≡ l.fn.e.info_len → l.fn.e.buffer ≡ laid (replicate 20 0) info 0
    → (l.e.buffer ≡ laid (held prk info l.i) info l.i) × (l.out ≡ put l.initial.out 0 (take (length l.initial.out) (joined_t prk info l.i))))
