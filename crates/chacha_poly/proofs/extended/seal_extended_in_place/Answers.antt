use Rattle.chacha_poly.specs.Aead.{text_of}
use Rattle.chacha_poly.proofs.ExtendedLaws.{extended-seals}
use Rattle.chacha_poly.proofs.extended.seal_extended_in_place.Goals as goal

pub returns : goal.returns
returns c =
    let a = c.args in
    extended-seals a.n a.key.now a.nonce.now c.subkey-k.result c.inner_nonce-inner.result
    c.subkey-k.ensures c.inner_nonce-inner.ensures (text_of a.body.now) c.seal_in_place.ensures
