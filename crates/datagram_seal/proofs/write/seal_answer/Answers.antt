use mathlib.Core.Path.{sym, ◌∙◌}
use Rattle.datagram_seal.proofs.AnswerLaws.{within, sealed_some, capped-within, fitting, good-argument, lawful}
use Rattle.datagram_seal.proofs.write.seal_answer.Goals as goal

pub returns : goal.returns
returns c =
    let a = c.args in
    let size = within _ _ (sym c.in-Some.is ∙ c.sealed_length.ensures) in
    lawful a.method a.key a.nonce a.sender a.address.now a.padding a.payload a.room _ c.cipher_of-cipher.ensures
    (sym c.key_fits.ensures ∙ c.if-not-key_fits.false) (sym c.nonce_fits.ensures ∙ c.if-not-nonce_fits.false) _
    (good-argument _ _ _ _ _ _ (sym c.is_address.ensures ∙ c.if-not-is_address.false) (sym c.ids_differ.ensures ∙ c.if-not-ids_differ.false) _
    (size.0 ∙ capped-within _ size.1) _
    (fitting _ _ _ c.if-sender-eq18446744073709551615.false (λ z. sealed_some _ _ _ _ _ (sym size.0 ∙ z)) c.if-room-n.false))
