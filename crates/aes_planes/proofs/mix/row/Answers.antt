use mathlib.Core.Path.{refl}
use Rattle.aes_planes.specs.Mix.{row_of}
use Rattle.aes_planes.proofs.mix.row.Goals as goal

pub returns : goal.returns
unfolding row_of
returns c = refl
