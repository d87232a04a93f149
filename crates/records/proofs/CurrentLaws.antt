-- When a record is current. Assumes nothing.
use Prim.Native.Nat.{ℕ, ◌+◌, ◌≤◌}
use native.Mathlib.Omega.{arith}
use mathlib.Core.Bool.{Bool, true, false, not, ◌&&◌}
use mathlib.Core.Path.{◌≡◌}
use lib.Dec.{leb, eqb}
use borrow.Author.Tests.{le-leb, leb-true}
use Rattle.records.specs.Records.{current}

module _ (span clock used time : ℕ) where
  -- what is current was current before
  pub earlier : (d : ℕ) → d ≤ clock → current span clock used time ≡ true → current span d used time ≡ true
  earlier d l e = go (eqb used 0) e
    where
      go : (b : Bool) → (not b && leb clock (time + span)) ≡ true → (not b && leb d (time + span)) ≡ true
      go true f = f
      go false f = le-leb d (time + span) (omega (arith, leb-true clock (time + span) f))
