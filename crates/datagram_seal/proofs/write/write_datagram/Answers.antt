use mathlib.Core.Path.{◌≡◌, ap, ◌∙◌}
use Prim.Native.Nat.{◌-◌, ◌≤◌}
use native.Mathlib.Omega.{arith}
use lib.ListN.{length, take, drop, length-drop}
use Rattle.octets.proofs.BufferLaws.{rest}
use Rattle.datagram_parts.specs.Parts.{overhead}
use Rattle.datagram_seal.specs.Sealing.{sealed_length, datagram}
use Rattle.datagram_seal.proofs.WritingLaws.{part_length, datagram-law}
use Rattle.datagram_seal.proofs.write.write_datagram.Goals as goal

pub slice_bounds-write_text-count : goal.slice_bounds-write_text-count
unfolding sealed_length
slice_bounds-write_text-count c = omega (arith, c.lead_length-lead.ensures, c.requires.s_len)

pub slice_bounds-write_text-start : goal.slice_bounds-write_text-start
unfolding sealed_length
slice_bounds-write_text-start c = omega (arith, c.lead_length-lead.ensures, c.requires.s_len)

pub write_text-requires : goal.write_text-requires
unfolding sealed_length
write_text-requires c =
    let s = c.args.s.now in
    let k = c.lead_length-lead.result in
    let e : length (take (length s - k) (drop k s)) ≡ length s - k = ap length (rest s k) ∙ length-drop k s in
    omega (arith, e, c.requires.s_len, c.lead_length-lead.ensures)

pub seal_in_place-requires-clause-cipher_in_bounds : goal.seal_in_place-requires-clause-cipher_in_bounds
unfolding sealed_length
seal_in_place-requires-clause-cipher_in_bounds c =
    let least : overhead c.args.key.now.cipher ≤ length c.args.s.now = omega (arith, c.requires.s_len) in
    omega (arith, least, part_length c.args.s.now c.write_text.new.out c.lead_length-lead.result (omega (arith, c.lead_length-lead.ensures, least)) c.write_text.auto.out)

pub returns : goal.returns
unfolding datagram
returns c =
    let a = c.args in
    let key = c.args.key.now in
    let m = c.args.message.now in
    datagram-law key.cipher key.bytes.now a.nonce.now (record { side = m.side; id = a.ids.session; packet = a.ids.packet }) m.clock m.address.now
    m.padding m.payload.now a.s.now _ _ _ c.lead_length-lead.ensures c.requires.s_len c.write_text.ensures c.seal_in_place.ensures
