use mathlib.Core.Path.{refl, sym, ◌∙◌}
use Rattle.aes_inverse.specs.InvCipher.{inv_aes}
use Rattle.aes.specs.Words.{block_bytes}
use Rattle.aes.proofs.KeyedLaws.{no_key, no-string, both-lawful, in-place-refused, in_place_lem}
use Rattle.aes_inverse.proofs.RoundLaws.{inv-cipher-aes}
use Rattle.aes_inverse.proofs.decrypt_with.Goals as goal

pub returns-in_default : goal.returns-in_default
returns-in_default c =
    let a = c.args in
    let no = no_key 16 a.key.now a.block.now c.in_default.ensures.none in record { value = sym no; block_after = in-place-refused a.key.now a.block.now inv_aes no }

pub returns-then-block-ne16 : goal.returns-then-block-ne16
returns-then-block-ne16 c =
    let a = c.args in
    let no = no-string 16 a.key.now a.block.now _ c.in-Some.ensures.some c.if-block-ne16.true in record { value = sym no; block_after = in-place-refused a.key.now a.block.now inv_aes no }

pub returns : goal.returns
unfolding block_bytes
returns c =
    let key = c.args.key.now in
    let s = c.args.block.now in
    let nk = c.in-Some.nk in
    let yes = both-lawful 16 key s nk c.in-Some.ensures.some c.if-block-ne16.false in record {
      value = sym yes;
      block_after = in_place_lem key s inv_aes nk _ _ _ yes c.if-block-ne16.false c.in-Some.ensures.some.0 c.read_block.ensures
          (c.inv_cipher-x.ensures ∙ inv-cipher-aes nk key c.expand-w.result c.expand-w.ensures.result_value _) refl c.write_block.ensures;
    }
