-- A tag has 16 bytes.
-- Assumes nothing.
use mathlib.Core.Path.{◌≡◌}
use mathlib.Core.List.{List}
use lib.ListN.{length}
use Prim.Native.Nat.{ℕ}
use Rattle.octets.proofs.NumberLaws.{length-to_le}
use Rattle.poly1305.specs.Poly1305.{mac}

pub length-mac : (key m : List ℕ) → length (mac key m) ≡ 16
unfolding mac
length-mac key m = length-to_le 16 _
