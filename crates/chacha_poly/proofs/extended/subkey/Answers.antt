use mathlib.Core.Path.{◌∙◌}
use Rattle.chacha_poly.proofs.NonceLaws.{subkey-law}
use Rattle.chacha_poly.proofs.extended.subkey.Goals as goal

pub returns : goal.returns
returns c = let a = c.args in c.hchacha.ensures ∙ subkey-law a.n a.key.now a.nonce.now
