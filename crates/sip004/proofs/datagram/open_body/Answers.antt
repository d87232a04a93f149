use mathlib.Core.Path.{sym}
use native.Mathlib.Omega.{arith}
use lib.Dec.{lit≤}
use lib.ListN.{length, take, replicate}
use lib.Seq.{length-take-le}
use Rattle.octets.proofs.BufferLaws.{rest}
use Rattle.aes.proofs.KeyedLaws.{key-most}
use Rattle.sip004.specs.Datagram.{subkey_of}
use Rattle.sip004.proofs.SubkeyLaws.{subkey-front}
use Rattle.sip004.proofs.DatagramLaws.{body-opened, body-answer}
use Rattle.sip004.proofs.datagram.open_body.Goals as goal

pub slice_bounds-derive_subkey-end : goal.slice_bounds-derive_subkey-end
slice_bounds-derive_subkey-end c = sym (length-take-le _ _ (omega (arith, c.requires.key_in_bounds)))

pub derive_subkey-requires : goal.derive_subkey-requires
derive_subkey-requires c = record { key_len_bound = key-most _ c.requires.nonzero; max_key_in_bounds = lit≤ tt }

pub slice_bounds-subkey-end : goal.slice_bounds-subkey-end
slice_bounds-subkey-end c =
    omega (arith, key-most _ c.requires.nonzero, c.derive_subkey.auto)

pub slice_bounds-open-end : goal.slice_bounds-open-end
slice_bounds-open-end c = sym (length-take-le _ _ (omega (arith, key-most _ c.requires.nonzero, c.derive_subkey.auto)))

pub slice_bounds-open-count : goal.slice_bounds-open-count
slice_bounds-open-count c = omega (arith, c.requires.key_in_bounds)

pub returns : goal.returns
unfolding subkey_of
returns c =
    let a = c.args in
    let at = length a.key.now in
    let opened = body-opened a.key.now a.datagram.now a.out.now c.requires.nonzero c.requires.key_in_bounds c.requires.datagram_len_bound
    c.requires.key_in_bounds_2 _ _
    (subkey-front a.key.now (take at a.datagram.now) (replicate 32 0) _ (key-most _ c.requires.nonzero) c.derive_subkey.ensures)
    (rest a.datagram.now at) _ _ c.open.ensures.value c.open.ensures.out_after in
    let all = body-answer _ _ _ _ _ opened c.is_ok.result c.is_ok.ensures.value in
    record { value = all.0; out_after = all.1 }
