-- While pieces are read, the rest of the words adds up to the rest of the report exactly when all do to all of it.
use Prim.Native.Nat.{◌*◌}
use mathlib.Core.Path.{◌≡◌}
use lib.ListN.{drop}
use Rattle.plan_pieces.specs.Plans.{adds}
use Rattle.plan.proofs.passes_words.Given as goal

abbrev pub invariant-loop-bytes : goal.invariant-loop-bytes
invariant-loop-bytes l = adds l.most l.rest (drop (2 * l.bytes-index) l.plan) ≡ adds l.most l.report l.plan
