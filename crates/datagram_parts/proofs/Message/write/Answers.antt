use native.Mathlib.Omega.{arith}
use Rattle.datagram_parts.proofs.LengthLaws.{fixed-least}
use Rattle.datagram_parts.proofs.WritingLaws.{plaintext-law}
use Rattle.datagram_parts.proofs.Message.write.Goals as goal

pub write_fixed-requires : goal.write_fixed-requires
write_fixed-requires c = omega (arith, c.requires, fixed-least c.args.self.now.side)

pub returns : goal.returns
returns c =
    plaintext-law _ _ _ _ _ _ (omega (arith, c.requires)) _ _ _ _ _ c.fixed_length-fixed.ensures c.write_fixed.ensures c.zero.ensures
    c.copy.ensures c.copy-2.ensures
