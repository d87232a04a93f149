use mathlib.Core.Path.{ap₂}
use Prim.Native.Nat.{ℕ}
use Rattle.protocol.specs.declared.Cipher.{Cipher}
use Rattle.stream_pieces.specs.declared.Framing.{Framing}
use Rattle.stream_pieces.specs.Pieces.{max_chunk}
use Rattle.stream_pieces.proofs.framing_of.Goals as goal

-- a cipher with a key of so many bytes
abbrev with-key : Cipher → ℕ → Framing
with-key c k = record { cipher = c; key = k; least = 1; greatest = max_chunk }

pub returns : goal.returns
returns c = ap₂ with-key c.cipher_of.ensures c.key_length.ensures
