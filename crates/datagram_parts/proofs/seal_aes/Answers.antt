use native.Mathlib.Omega.{arith}
use Rattle.datagram_parts.proofs.WritingLaws.{aes-law}
use Rattle.datagram_parts.proofs.seal_aes.Goals as goal

pub returns : goal.returns
returns c =
    let a = c.args in
    aes-law a.key.now.bytes.now a.s.now _ _ _ _ _ (omega (arith, c.requires.overhead_in_bounds)) c.separate_header-header.ensures c.write_separate.ensures
    c.seal_body.ensures
