use mathlib.Core.Path.{◌∙◌}
use Rattle.aes_inverse.specs.InvCipher.{inv_mix_column}
use Rattle.aes_inverse.proofs.RoundLaws.{inv-mixed-law}
use borrow.Author.Rules.{rules}
use Rattle.aes_inverse.proofs.mix_column.Goals as goal

pub returns : goal.returns
returns c =
    c.mixed.ensures ∙ inv-mixed-law c.args.t.now
    c.byte0.result c.byte1.result c.byte2.result c.byte3.result (search rules) (search rules) (search rules) (search rules) c.requires
    ∙ (λ i. inv_mix_column (c.byte0.ensures i) (c.byte1.ensures i) (c.byte2.ensures i) (c.byte3.ensures i))
