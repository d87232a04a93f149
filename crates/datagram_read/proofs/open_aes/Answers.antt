use Rattle.protocol.specs.declared.Cipher.TheVariants.{AesGcm}
use Rattle.datagram_read.proofs.OpeningLaws.{aes-unsealed, aes-text, unsealed-forged}
use Rattle.datagram_read.proofs.open_aes.Goals as goal

pub returns-then-not-open_body : goal.returns-then-not-open_body
returns-then-not-open_body c =
    let d = aes-unsealed _ _ _ _ c.open_separate-header.ensures.value _ _ c.open_body.ensures.value c.open_body.ensures.out_after in
    record { value = unsealed-forged AesGcm _ _ _ d.0 c.if-not-open_body.true; out_after = d.1 }

pub returns : goal.returns
returns c =
    let d = aes-unsealed _ _ _ _ c.open_separate-header.ensures.value _ _ c.open_body.ensures.value c.open_body.ensures.out_after in
    record {
      value = aes-text _ _ _ c.open_separate-header.ensures.value _ d.0 c.if-not-open_body.false _ c.read_ids.ensures.session c.read_ids.ensures.packet;
      out_after = d.1;
    }
