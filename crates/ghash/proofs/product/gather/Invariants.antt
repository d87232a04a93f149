-- The loop's invariant: s holds 4 * k lookups for each word.
use mathlib.Core.Path.{◌≡◌}
use Prim.Native.Nat.{◌≤◌}
use Rattle.ghash.specs.Table.{key_in, gather}
use Rattle.ghash.specs.Words.{long_of}
use Rattle.ghash.proofs.product.gather.Given as goal

abbrev pub invariant-loop-k : goal.invariant-loop-k
invariant-loop-k l =
    (l.k ≤ 4) × (long_of l.s.high ≡ gather (key_in l.t) l.x.hi l.k) × (long_of l.s.low ≡ gather (key_in l.t) l.x.lo l.k)
