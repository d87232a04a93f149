use Rattle.chacha_poly.proofs.NonceLaws.{inner-law}
use borrow.Author.Rules.{rules}
use Rattle.chacha_poly.proofs.extended.inner_nonce.Goals as goal

pub returns : goal.returns
returns c =
    inner-law c.args.nonce.now c.write_u32_le.new.out _ c.read_u32_le.result c.read_u32_le-2.result (search rules) (search rules)
    c.read_u32_le.ensures c.read_u32_le-2.ensures c.write_u32_le.ensures c.write_u32_le-2.ensures
