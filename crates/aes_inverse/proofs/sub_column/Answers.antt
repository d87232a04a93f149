use mathlib.Core.Path.{◌∙◌}
use mathlib.Core.List.{[], ◌∷◌}
use Rattle.aes_tables.specs.SBox.{inv_sbox}
use Rattle.aes.proofs.RoundLaws.{substituted-law}
use borrow.Author.Rules.{rules}
use Rattle.aes_inverse.proofs.sub_column.Goals as goal

pub returns : goal.returns
returns c =
    c.substituted.ensures ∙ substituted-law c.args.sbox.now
    c.byte0.result c.byte1.result c.byte2.result c.byte3.result (search rules) (search rules) (search rules) (search rules) inv_sbox c.requires
    ∙ (λ i. inv_sbox (c.byte0.ensures i) ∷ inv_sbox (c.byte1.ensures i) ∷ inv_sbox (c.byte2.ensures i) ∷ inv_sbox (c.byte3.ensures i) ∷ [])
