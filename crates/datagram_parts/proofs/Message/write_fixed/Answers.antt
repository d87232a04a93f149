use mathlib.Core.Path.{sym, ap, ◌∙◌}
use Rattle.octets.specs.Buffers.{put}
use Rattle.datagram_parts.specs.declared.Side.{Side}
use Rattle.datagram_parts.specs.Headers.{fixed_part}
use Rattle.datagram_parts.proofs.WritingLaws.{client-law, server-law}
use Rattle.datagram_parts.proofs.Message.write_fixed.Goals as goal

pub returns-in-Client : goal.returns-in-Client
returns-in-Client c =
    let m = c.args.self.now in
    let out = c.args.out.now in
    client-law out m.clock m.padding c.requires _ _ c.write_start.ensures c.write_u16_be.ensures
    ∙ ap (λ (side : Side). put out 0 (fixed_part side m.clock m.padding)) (sym c.in-Client.is)

pub returns-in-Server : goal.returns-in-Server
returns-in-Server c =
    let m = c.args.self.now in
    let out = c.args.out.now in
    server-law out m.clock m.padding c.requires _ _ _ _ c.write_start-in-Server.ensures c.write_u64_be.ensures
    c.write_u16_be-in-Server.ensures
    ∙ ap (λ (side : Side). put out 0 (fixed_part side m.clock m.padding)) (sym c.in-Server.is)
