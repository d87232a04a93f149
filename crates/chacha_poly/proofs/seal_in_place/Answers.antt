use Rattle.std.proofs.Common.{◌∙◌}
use Rattle.chacha_poly.specs.Aead.{crypt, tag, text_of}
use Rattle.chacha_poly.proofs.AeadLaws.{seal-law}
use Rattle.chacha_poly.proofs.seal_in_place.Goals as goal

pub returns : goal.returns
unfolding text_of
returns c =
    let a = c.args in
    let e = c.new-cipher.ensures in
    seal-law a.n a.key.now a.nonce.now (text_of a.body.now) _ _
    (c.crypt.ensures ∙ (λ i. crypt (e.0 i) (e.1 i) (e.2 i) (c.split_at_mut-text.ensures.front i)))
    (c.copy_from_slice.ensures.after ∙ c.tag.ensures ∙ (λ i. tag (e.0 i) (e.1 i) (e.2 i) c.crypt.new.text))
