use mathlib.Core.Path.{◌≡◌}
use mathlib.Core.List.{map}
use Prim.Native.Nat.{◌-◌}
use Rattle.aes.specs.Cipher.{rounds as rounds_of}
use Rattle.aes.specs.Words.{bytes, block_bytes}
use Rattle.aes.proofs.encrypt.Encryptor.cipher.Given as goal

abbrev pub invariant-loop-i : goal.invariant-loop-i
invariant-loop-i l = block_bytes l.s ≡ rounds_of (map bytes l.self.w.now) (l.i - 1) (block_bytes l.initial.s)
