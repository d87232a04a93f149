use Rattle.protocol.specs.declared.Cipher.TheVariants.{ChaChaPoly}
use Rattle.datagram_read.proofs.OpeningLaws.{chacha-unsealed, chacha-text, unsealed-forged}
use Rattle.datagram_read.proofs.open_chacha.Goals as goal

pub returns-then-not-open_extended : goal.returns-then-not-open_extended
returns-then-not-open_extended c =
    let a = c.args in
    let d = chacha-unsealed a.n a.key.now a.s.now a.out.now _ _ c.open_extended.ensures.value c.open_extended.ensures.out_after in
    record { value = unsealed-forged (ChaChaPoly a.n) _ _ _ d.0 c.if-not-open_extended.true; out_after = d.1 }

pub returns : goal.returns
returns c =
    let a = c.args in
    let d = chacha-unsealed a.n a.key.now a.s.now a.out.now _ _ c.open_extended.ensures.value c.open_extended.ensures.out_after in
    record {
      value = chacha-text a.n a.key.now a.s.now a.out.now _ _ d.0 c.if-not-open_extended.false d.1 c.requires.n_in_bounds_2 _
          c.read_ids.ensures.session c.read_ids.ensures.packet;
      out_after = d.1;
    }
