use mathlib.Core.Path.{◌≡◌}
use mathlib.Core.List.{map}
use Prim.Native.Nat.{◌<◌}
use lib.ListN.{length, take}
use Rattle.aes.specs.KeyExpansion.{key_words}
use Rattle.aes.specs.Words.{bytes}
use Rattle.aes.proofs.KeyLaws.{Zeros, Expanding}
use Rattle.aes.proofs.key.expand.Given as goal

abbrev pub invariant-loop-i : goal.invariant-loop-i
invariant-loop-i l = (length l.w ≡ 60) × (map bytes (take l.i l.w) ≡ key_words l.key l.i) × Zeros l.w l.i

abbrev pub invariant-loop-n : goal.invariant-loop-n
invariant-loop-n l = (l.at < l.nk) × (length l.w ≡ 60) × Expanding l.key l.w l.nk l.n l.t l.at l.c
