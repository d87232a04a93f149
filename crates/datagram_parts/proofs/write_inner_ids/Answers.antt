use mathlib.Core.Path.{sym, ap, ◌∙◌}
use Rattle.octets.specs.Buffers.{put}
use Rattle.octets.proofs.BufferLaws.{put-none}
use Rattle.protocol.specs.declared.Cipher.{Cipher}
use Rattle.datagram_parts.specs.Headers.{inner_ids}
use Rattle.datagram_parts.proofs.write_inner_ids.Goals as goal

pub returns-in-AesGcm : goal.returns-in-AesGcm
returns-in-AesGcm c =
    let a = c.args in
    put-none a.out.now 0 ∙ ap (λ (cipher : Cipher). put a.out.now 0 (inner_ids cipher a.ids.session a.ids.packet)) (sym c.in-AesGcm.is)
