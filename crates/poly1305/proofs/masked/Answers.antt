use mathlib.Core.Path.{refl}
use Rattle.poly1305.specs.Limbs.{masked}
use Rattle.poly1305.proofs.masked.Goals as goal

pub returns : goal.returns
unfolding masked
returns c = refl
