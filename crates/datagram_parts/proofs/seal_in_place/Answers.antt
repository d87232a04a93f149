use mathlib.Core.Path.{sym, ap, ◌∙◌}
use native.Mathlib.Omega.{arith}
use borrow.Author.Tests.{eqb-true}
use lib.ListN.{length}
use Rattle.protocol.specs.declared.Cipher.{Cipher}
use Rattle.datagram_parts.specs.Parts.{nonce_length, overhead, nonce_fits}
use Rattle.datagram_parts.proofs.WritingLaws.{with-aes, with-chacha}
use Rattle.datagram_parts.proofs.seal_in_place.Goals as goal

pub seal_aes-requires : goal.seal_aes-requires
seal_aes-requires c = record { overhead_in_bounds = omega (arith, ap overhead c.in-AesGcm.is, c.requires.cipher_in_bounds); s_len_bound = c.requires.s_len_bound }

pub seal_chacha-requires : goal.seal_chacha-requires
seal_chacha-requires c = record { doubles_in_bounds = omega (arith, ap overhead c.in-ChaChaPoly.is, c.requires.cipher_in_bounds); nonce_len = eqb-true _ nonce_length (ap (λ (cipher : Cipher). nonce_fits cipher (length c.args.nonce.now)) (sym c.in-ChaChaPoly.is) ∙ c.requires.nonce_value) }

pub returns-in-AesGcm : goal.returns-in-AesGcm
returns-in-AesGcm c =
    let a = c.args in
    with-aes a.key.now.bytes.now a.nonce.now a.ids.session a.ids.packet a.s.now _ a.key.now.cipher c.in-AesGcm.is c.seal_aes.ensures

pub returns-in-ChaChaPoly : goal.returns-in-ChaChaPoly
returns-in-ChaChaPoly c =
    let a = c.args in
    with-chacha a.key.now.bytes.now a.nonce.now a.ids.session a.ids.packet a.s.now _ a.key.now.cipher _ c.in-ChaChaPoly.is c.seal_chacha.ensures
