-- The loop's invariant: z is what is made of the first i words.
use mathlib.Core.Path.{◌≡◌}
use Prim.Native.Nat.{◌≤◌}
use Rattle.ghash.specs.Table.{key_in}
use Rattle.ghash.specs.Words.{block_of}
use Rattle.ghash_four.specs.Four.{made}
use Rattle.ghash_four.proofs.products.Given as goal

abbrev pub invariant-loop-i : goal.invariant-loop-i
invariant-loop-i l = (l.i ≤ 2) × (block_of l.z ≡ made (key_in l.p.t4.now) (key_in l.p.t3.now) (key_in l.p.t2.now) (key_in l.p.t1.now) l.a l.b l.c l.d l.i)
