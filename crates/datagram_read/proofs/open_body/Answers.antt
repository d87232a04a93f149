use mathlib.Core.Path.{◌≡◌, refl, sym}
use native.Mathlib.Omega.{arith}
use lib.ListN.{length, drop, replicate}
use lib.Seq.{length-take-le}
use Rattle.octets.specs.Numbers.{be}
use Rattle.aes.proofs.KeyedLaws.{key-most}
use Rattle.datagram_parts.proofs.SubkeyLaws.{header-back}
use Rattle.datagram_read.proofs.OpeningLaws.{body-opened, body-answered}
use Rattle.datagram_read.proofs.open_body.Goals as goal

pub derive_subkey-requires-clause-key_len_bound : goal.derive_subkey-requires-clause-key_len_bound
derive_subkey-requires-clause-key_len_bound c = key-most _ c.args.key.now.usable

pub slice_bounds-subkey-end : goal.slice_bounds-subkey-end
slice_bounds-subkey-end c = omega (arith, key-most _ c.args.key.now.usable, c.derive_subkey.auto)

pub slice_bounds-open_with-end : goal.slice_bounds-open_with-end
slice_bounds-open_with-end c =
    sym (length-take-le _ _ (omega (arith, key-most _ c.args.key.now.usable, c.derive_subkey.auto)))

pub returns : goal.returns
returns c =
    let h = c.args.header.now in
    let l : length h ≡ 16 = omega arith in
    let all = body-answered c.args.key.now.bytes.now (be 8 h) (be 8 (drop 8 h)) c.args.body.now c.args.out.now _ _ (body-opened _ _ _ _ _
    c.args.key.now.usable c.requires.tag_length_in_bounds c.requires.body_len_bound c.requires.tag_length_in_bounds_2 (replicate 32 0) _ h refl
    c.derive_subkey.ensures (header-back h (record { octet = c.fits-header }) l) _ _ c.open_with.ensures.value c.open_with.ensures.out_after) _
    c.is_ok.ensures.value in
    record { value = all.0; out_after = all.1 }
