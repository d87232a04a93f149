use mathlib.Core.Path.{refl}
use native.Mathlib.Omega.{arith}
use lib.ListN.{length-set}
use Rattle.aes_planes.specs.Sub.{store_of}
use Rattle.aes_planes.proofs.sub.store.Goals as goal

pub returns : goal.returns
unfolding store_of
returns c = record { t_len_2 = simp length-set (omega arith); t_after = refl }
