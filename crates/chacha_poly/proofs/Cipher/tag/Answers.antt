use Rattle.chacha_poly.proofs.AeadLaws.{tag-law}
use Rattle.chacha_poly.proofs.Cipher.tag.Goals as goal

pub returns : goal.returns
returns c =
    let cipher = c.args.self.now in
    tag-law cipher.n cipher.key.now cipher.nonce.now _ cipher.four _ cipher.first_four c.aead_mac.ensures
