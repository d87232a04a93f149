use native.Mathlib.Omega.{arith}
use Rattle.datagram_parts.proofs.WritingLaws.{chacha-law}
use Rattle.datagram_parts.proofs.seal_chacha.Goals as goal

pub returns : goal.returns
returns c =
    let a = c.args in
    chacha-law a.doubles a.key.now a.nonce.now a.s.now _ _ (omega (arith, c.requires.doubles_in_bounds)) c.requires.nonce_len c.copy.ensures
    c.seal_extended_in_place.ensures
