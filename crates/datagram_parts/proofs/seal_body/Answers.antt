use mathlib.Core.Path.{refl, sym}
use native.Mathlib.Omega.{arith}
use lib.ListN.{take, replicate}
use lib.Seq.{length-take-le}
use Rattle.aes.proofs.KeyedLaws.{key-most}
use Rattle.datagram_parts.proofs.SubkeyLaws.{subkey-front, nonce-part}
use Rattle.datagram_parts.proofs.WritingLaws.{body-law}
use Rattle.datagram_parts.proofs.seal_body.Goals as goal

pub derive_subkey-requires-clause-key_len_bound : goal.derive_subkey-requires-clause-key_len_bound
derive_subkey-requires-clause-key_len_bound c = key-most _ c.args.key.now.usable

pub slice_bounds-subkey-end : goal.slice_bounds-subkey-end
slice_bounds-subkey-end c = omega (arith, key-most _ c.args.key.now.usable, c.derive_subkey.auto)

pub slice_bounds-seal_in_place_with-end : goal.slice_bounds-seal_in_place_with-end
slice_bounds-seal_in_place_with-end c =
    sym (length-take-le _ _ (omega (arith, key-most _ c.args.key.now.usable, c.derive_subkey.auto)))

pub returns : goal.returns
returns c =
    body-law _ _ c.args.header.now _ _ _ c.args.key.now.usable c.requires.tag_length_in_bounds c.requires.body_len_bound (omega arith)
    (subkey-front _ (take 8 c.args.header.now) c.args.key.now.usable (replicate 32 0) _ refl c.derive_subkey.ensures) (nonce-part c.args.header.now (omega arith))
    c.seal_in_place_with.ensures.body_after
