use native.Mathlib.Omega.{arith}
use Rattle.datagram_parts.proofs.WritingLaws.{text-law}
use Rattle.datagram_parts.proofs.write_text.Goals as goal

pub returns : goal.returns
returns c =
    let a = c.args in
    let m = c.args.message.now in
    text-law a.cipher a.ids.session a.ids.packet m.side m.clock m.padding m.address.now m.payload.now a.out.now _ _ _ c.main_start-start.ensures
    (omega (arith, c.requires)) c.write_inner_ids.ensures c.write.ensures
