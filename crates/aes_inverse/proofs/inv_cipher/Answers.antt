use mathlib.Core.Path.{refl}
use borrow.Author.Rules.{rules}
use Rattle.aes_inverse.proofs.RoundLaws.{inv-round-law, inv-cipher-law}
use Rattle.aes_inverse.proofs.inv_cipher.Goals as goal

pub loop-i-init : goal.loop-i-init
loop-i-init c = (search rules, refl)

pub loop-i-preserved : goal.loop-i-preserved
loop-i-preserved c =
    (search rules, inv-round-law _ _ _ _ _ _ _ (search rules) c.loop-i.invariant.1 c.round_key-in-loop-i.ensures c.sub_round.ensures c.mix_columns-s.ensures)

pub returns : goal.returns
returns c =
    inv-cipher-law _ _ _ _ _ _ _ _ _ c.round_key.ensures c.add-s.ensures (search rules) c.loop-i.invariant.1
    c.round_key-2.ensures c.sub_round-2.ensures
