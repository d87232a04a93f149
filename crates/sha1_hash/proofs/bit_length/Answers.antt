use Rattle.std.proofs.Common.{refl}
use Rattle.sha1_hash.proofs.ChainLaws.{in-bits}
use Rattle.sha1_hash.proofs.bit_length.Goals as goal

pub returns : goal.returns
returns c = let a = c.args in in-bits a.blocks a.n refl
