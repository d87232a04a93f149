use mathlib.Core.Path.{refl}
use Rattle.aes_planes.specs.Mix.{key_row_of}
use Rattle.aes_planes.proofs.mix.key_row.Goals as goal

pub returns : goal.returns
unfolding key_row_of
returns c = refl
