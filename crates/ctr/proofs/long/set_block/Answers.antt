use Rattle.std.proofs.Common.{refl, arith, length-set}
use Rattle.ctr.specs.Long.{set_block}
use Rattle.ctr.proofs.long.set_block.Goals as goal

pub returns : goal.returns
unfolding set_block
returns c = record { s_len_2 = simp length-set (omega arith); s_after = refl }
