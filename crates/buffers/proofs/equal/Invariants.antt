use Rattle.std.proofs.Common.{◌≡◌, length, take}
use lib.Dec.{eqb}
use Rattle.buffers.specs.Buffers.{same}
use Rattle.buffers.proofs.equal.Given as goal

abbrev pub invariant-loop-x : goal.invariant-loop-x
invariant-loop-x l = eqb l.differ 0 ≡ same (take (length l.yielded) l.a) (take (length l.yielded) l.b)
