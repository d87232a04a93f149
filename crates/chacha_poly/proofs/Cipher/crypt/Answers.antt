use Rattle.chacha_poly.specs.Aead.{crypt}
use Rattle.chacha_poly.proofs.Cipher.crypt.Goals as goal

pub returns : goal.returns
unfolding crypt
returns c = c.xor_with_blocks.ensures
