use native.Mathlib.Omega.{arith}
use Rattle.std.proofs.lemmas.Bool.Decides.{nat_tests}
use Rattle.plan_pieces.specs.Plans.{piece_fits}
use Rattle.plan_pieces.proofs.piece_fits.Goals as goal

pub returns-then-bytes-most : goal.returns-then-bytes-most
unfolding piece_fits
returns-then-bytes-most c = grind (arith, nat_tests)

pub returns-else-bytes-most : goal.returns-else-bytes-most
unfolding piece_fits
returns-else-bytes-most c = grind (arith, nat_tests)
