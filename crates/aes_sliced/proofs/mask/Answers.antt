use Rattle.aes_sliced.proofs.MaskLaws.{mask-law}
use Rattle.aes_sliced.proofs.mask.Goals as goal

pub returns : goal.returns
returns c = mask-law _ _
