-- The loop's invariant: z holds 4 * k lookups for each word.
use mathlib.Core.Path.{◌≡◌}
use Prim.Native.Nat.{◌≤◌}
use Rattle.ghash.specs.Table.{key_in}
use Rattle.ghash.specs.Words.{long_of}
use Rattle.ghash_four.specs.Four.{gathers}
use Rattle.ghash_four.proofs.gather.Given as goal

abbrev pub invariant-loop-k : goal.invariant-loop-k
invariant-loop-k l = (l.k ≤ 4) × (long_of l.z ≡ gathers (key_in l.p.t4.now) (key_in l.p.t3.now) (key_in l.p.t2.now) (key_in l.p.t1.now) l.a l.b l.c l.d l.k)
