use mathlib.Core.Path.{◌≡◌}
use mathlib.Core.List.{map}
use Prim.Native.Nat.{◌<◌, ◌-◌}
use Rattle.aes_inverse.specs.InvCipher.{inv_rounds}
use Rattle.aes.specs.Words.{bytes, block_bytes}
use Rattle.aes_inverse.proofs.inv_cipher.Given as goal

-- the rounds that are left end below l.i
abbrev pub invariant-loop-i : goal.invariant-loop-i
invariant-loop-i l =
    (0 < l.i) × (inv_rounds (map bytes l.w) (l.i - 1) (block_bytes l.s) ≡ inv_rounds (map bytes l.w) (l.rounds - 1) (block_bytes l.initial.s))
