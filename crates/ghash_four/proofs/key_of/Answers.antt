use mathlib.Core.Path.{refl}
use Rattle.ghash.specs.Table.{key_in}
use Rattle.ghash_four.proofs.key_of.Goals as goal

pub returns : goal.returns
unfolding key_in
returns c = refl
