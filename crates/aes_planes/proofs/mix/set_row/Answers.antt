use mathlib.Core.Path.{refl}
use native.Mathlib.Omega.{arith}
use lib.ListN.{length-set}
use Rattle.aes_planes.specs.Mix.{set_row}
use Rattle.aes_planes.proofs.mix.set_row.Goals as goal

pub returns : goal.returns
unfolding set_row
returns c = record { s_len_2 = simp length-set (omega arith); s_after = refl }
